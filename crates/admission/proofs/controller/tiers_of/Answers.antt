use Rattle.std.proofs.Common.{◌∙◌}
use Rattle.admission.proofs.TierLemmas.{four_new, four_rules}
use Rattle.admission.proofs.controller.tiers_of.Goals as goal

pub returns-clause-policies : goal.returns-clause-policies
returns-clause-policies c =
    four_rules c.args.policies.now _ _ _ _ _ _ _ _ c.requires (c.in_ok-new.ensures.rules ∙ c.index-policies-0.is)
    (c.in_ok-new-2.ensures.rules ∙ c.index-policies-1.is) (c.in_ok-new-3.ensures.rules ∙ c.index-policies-2.is)
    (c.in_ok-new-4.ensures.rules ∙ c.index-policies-3.is)

pub returns-clause-new : goal.returns-clause-new
returns-clause-new c =
    four_new c.in_ok-new.field-0 c.in_ok-new-2.field-0 c.in_ok-new-3.field-0 c.in_ok-new-4.field-0
    (c.in_ok-new.ensures.fits, c.in_ok-new.ensures.share) (c.in_ok-new-2.ensures.fits, c.in_ok-new-2.ensures.share)
    (c.in_ok-new-3.ensures.fits, c.in_ok-new-3.ensures.share) (c.in_ok-new-4.ensures.fits, c.in_ok-new-4.ensures.share)
