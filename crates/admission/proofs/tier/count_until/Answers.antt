use Rattle.std.proofs.Common.{◌≡◌, ◌+◌, ◌-◌, ◌<◌, ◌∙◌, sym, length, arith}
use Rattle.admission.proofs.ShownLemmas.{until-rest}
use Rattle.admission.proofs.tier.count_until.Goals as goal

pub returns-else-controls-count-clause-first : goal.returns-else-controls-count-clause-first
returns-else-controls-count-clause-first c =
    let place : c.loop-count.count - 1 + 1 ≡ c.loop-count.count = omega (arith, c.loop-count-test.true) in
    let within : c.loop-count.count - 1 < length c.args.controls.now =
    omega (arith, c.loop-count-test.true, c.loop-count.invariant.within) in
    let all = until-rest c.args.controls.now 0 c.requires.0 (c.loop-count.count - 1) c.args.tick _ c.requires.1 within c.if-controls-count.false in
    sym (rw place at all) ∙ c.loop-count.invariant.same
