use Rattle.std.proofs.Common.{◌∙◌}
use Rattle.std.proofs.lemmas.List.{length-map}
use Rattle.admission.proofs.TierLemmas.{all_shown, all_complete, all_counted}
use Rattle.admission.proofs.controller.Controller.into_parts.Goals as goal

pub controls_of-requires : goal.controls_of-requires
controls_of-requires c = all_complete _ c.self.invariant

pub returns-clause-controls : goal.returns-clause-controls
returns-clause-controls c offers fits =
    rw (← c.self.view_is)
    (all_shown _ offers _ c.self.invariant.four (length-map _ _ ∙ c.controls_of.ensures.four)
    (rw (← c.self.view_is) at fits) c.controls_of.ensures.shown)

pub returns-clause-pools : goal.returns-clause-pools
returns-clause-pools c offers fits = rw (← c.self.view_is) (all_counted _ offers c.self.invariant (rw (← c.self.view_is) at fits))
