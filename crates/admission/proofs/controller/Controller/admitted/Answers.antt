use Rattle.std.proofs.Common.{◌<◌, ◌∙◌, length, sym, ap, arith}
use Rattle.admission.specs.declared.tier.Tier.TheInside.{Inside}
use Rattle.admission.specs.Standing.{TierStanding}
use Rattle.admission.proofs.TierLemmas.{own_fits}
use Rattle.admission.proofs.controller.Controller.admitted.Goals as goal

pub returns : goal.returns
returns c offers fits =
    let within : c.from.result < length c.self.inside.tiers = omega (arith, c.self.invariant.four, c.from.ensures, c.requires) in
    rw (← c.self.view_is, ← c.from.ensures)
    (ap (λ (t : Inside). t.in_flight.admitted) c.own-inside.view_is
    ∙ ap (λ (t : TierStanding). t.flight.admitted) (c.own.view_is ∙ sym c.index-self-from.is)
    ∙ (own_fits _ c.from.result c.index-self-from.result offers within c.index-self-from.is (rw (← c.self.view_is) at fits)).admitted)
