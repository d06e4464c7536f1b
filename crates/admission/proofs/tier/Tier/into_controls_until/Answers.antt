use Rattle.admission.proofs.ShownLemmas.{shows}
use Rattle.admission.proofs.tier.Tier.into_controls_until.Goals as goal

pub returns : goal.returns
returns c past fits =
    rw (← c.self.view_is, c.truncate.ensures.items)
    (shows _ past c.args.tick _ (rw (← c.self.view_is) at fits) c.self.invariant.every (rw (← c.self.view_is) at c.requires)
    (rw c.deref.ensures.value at c.count_until-count.ensures.first))
