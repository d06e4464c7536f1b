use Rattle.std.proofs.Common.{◌<◌, length, arith}
use Rattle.admission.proofs.TierLemmas.{complete_at, shown_at}
use Rattle.admission.proofs.controller.Controller.controls.Goals as goal

pub controls_until-requires : goal.controls_until-requires
controls_until-requires c =
    let within : c.from.result < length c.self.inside.tiers = omega (arith, c.self.invariant.four, c.from.ensures, c.requires) in
    complete_at _ c.from.result c.index-self-from.result c.self.invariant within c.index-self-from.is

pub returns : goal.returns
returns c offers fits =
    let within : c.from.result < length c.self.inside.tiers = omega (arith, c.self.invariant.four, c.from.ensures, c.requires) in
    rw (← c.self.view_is, ← c.from.ensures)
    (shown_at _ c.from.result c.index-self-from.result offers c.controls_until.result.now within c.index-self-from.is
    (rw (← c.self.view_is) at fits) c.controls_until.ensures)
