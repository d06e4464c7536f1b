use Rattle.std.proofs.Common.{◌≡◌, length, arith}
use Rattle.admission.proofs.TierLemmas.{get_at, four_show}
use Rattle.admission.proofs.controller.controls_of.Goals as goal

pub returns-clause-shown : goal.returns-clause-shown
returns-clause-shown c =
    let four : length c.args.tiers ≡ 4 = c.way_told-1.given in
    four_show c.args.tiers c.args.tick _ _ _ _ c.zero-1.given.0 c.one-1.given.0 c.two-1.given.0 c.three-1.given.0
    c.into_controls_until.ensures c.into_controls_until-2.ensures c.into_controls_until-3.ensures c.into_controls_until-4.ensures
    (get_at c.args.tiers 0 c.zero-1.given.0 (omega (arith, four)) c.zero-1.given.1)
    (get_at c.args.tiers 1 c.one-1.given.0 (omega (arith, four)) c.one-1.given.1)
    (get_at c.args.tiers 2 c.two-1.given.0 (omega (arith, four)) c.two-1.given.1)
    (get_at c.args.tiers 3 c.three-1.given.0 (omega (arith, four)) c.three-1.given.1)
