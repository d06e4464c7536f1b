use Rattle.admission.proofs.NewLemmas.{start_sound, start_share, start_fits}
use Rattle.admission.proofs.tier.Tier.new.Goals as goal

pub invariant_of-result : goal.invariant_of-result
invariant_of-result c =
    rw (c.new-4.ensures.items, c.new-2.ensures, ← c.policy.view_is)
    (start_sound _ c.new.result c.in_ok-new.field-0 c.policy.invariant.every.0 c.new.ensures.tick c.in_ok-new.ensures)

pub returns-clause-fits : goal.returns-clause-fits
returns-clause-fits c =
    rw (c.new-4.ensures.items, c.new-2.ensures, ← c.policy.view_is)
    (start_fits _ c.new.result c.in_ok-new.field-0 c.new.ensures.fits c.in_ok-new.ensures)

pub returns-clause-share : goal.returns-clause-share
returns-clause-share c =
    rw (c.new-4.ensures.items, c.new-2.ensures, ← c.policy.view_is)
    (start_share _ c.new.result c.in_ok-new.field-0)
