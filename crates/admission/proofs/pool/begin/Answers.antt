use Rattle.std.proofs.Common.{◌≡◌, ◌<◌, length, refl, ◌∙◌, arith, rules}
use Rattle.admission.proofs.QueueLemmas.{ahead-drops, ahead-stays, ahead-ends}
use Rattle.admission.proofs.pool.begin.Goals as goal

pub loop-first-preserved : goal.loop-first-preserved
loop-first-preserved c =
    let some : 0 < length c.loop-first.starts.items = omega (arith, c.in-Some.ensures.variant.0 refl, c.loop-first.starts.ok.0) in
    record {
      same = ahead-drops c.args.tick c.in-Some.first.now c.loop-first.starts.items c.pop_front.new.self.items some
          c.in-Some.ensures.lookup c.if-first-tick.false c.pop_front.ensures.rest
          ∙ c.loop-first.invariant.same;
      len = omega (arith, c.pop_front.ensures.len, c.loop-first.invariant.len);
      capacity = c.pop_front.ensures.capacity ∙ c.loop-first.invariant.capacity;
    }

pub returns-then-first-tick-clause-starts : goal.returns-then-first-tick-clause-starts
returns-then-first-tick-clause-starts c =
    let some : 0 < length c.loop-first.starts.items = omega (arith, c.in-Some.ensures.variant.0 refl, c.loop-first.starts.ok.0) in
    ahead-stays c.args.tick c.in-Some.first.now c.loop-first.starts.items some c.in-Some.ensures.lookup c.if-first-tick.true
    ∙ c.loop-first.invariant.same

pub returns-in_default-clause-starts : goal.returns-in_default-clause-starts
returns-in_default-clause-starts c =
    let none : length c.loop-first.starts.items ≡ 0 = search rules in
    ahead-ends c.args.tick c.loop-first.starts.items none ∙ c.loop-first.invariant.same
