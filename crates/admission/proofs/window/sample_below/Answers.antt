use Rattle.std.proofs.Common.{◌<◌, [], length, ◌∙◌, sym, arith}
use Rattle.admission.specs.Tally.{expanded}
use Rattle.admission.proofs.WalkLemmas.{walk_here, walk_past, expanded-none}
use Rattle.admission.proofs.window.sample_below.Goals as goal

pub returns-then-above-count : goal.returns-then-above-count
returns-then-above-count c =
    walk_here c.loop-sample.entries c.next_back.new.self c.in-Some.sample.now c.in-Some.count.now c.loop-sample.above
    c.in-Some.ensures.steps c.if-above-count.true
    ∙ sym c.loop-sample.invariant.same

pub loop-sample-preserved : goal.loop-sample-preserved
loop-sample-preserved c =
    let step = walk_past c.loop-sample.entries c.next_back.new.self c.in-Some.sample.now c.in-Some.count.now c.loop-sample.above
    c.in-Some.ensures.steps c.if-above-count.false c.loop-sample.invariant.here in
    record { here = step.0; same = c.loop-sample.invariant.same ∙ step.1 }

pub returns : goal.returns
returns c =
    let none : c.loop-sample.above < length (expanded []) = rw c.in_default.ensures.steps.0 at c.loop-sample.invariant.here in
    absurd (let zero : c.loop-sample.above < 0 = rw expanded-none at none in omega arith)
