use Rattle.std.proofs.Common.{sym}
use Rattle.std.proofs.lemmas.List.{length-take-le}
use Rattle.admission.proofs.ShownLemmas.{shows}
use Rattle.admission.proofs.tier.Tier.controls_until.Goals as goal

pub slice_bounds-result-end : goal.slice_bounds-result-end
slice_bounds-result-end c =
    sym (length-take-le c.count_until.result c.deref.result.now
    (rw (c.deref.ensures.value, ← c.deref-2.ensures.value) c.count_until.ensures.within))

pub returns : goal.returns
returns c past fits =
    rw (← c.self.view_is, c.deref.ensures.value)
    (shows _ past c.args.tick _ (rw (← c.self.view_is) at fits) c.self.invariant.every (rw (← c.self.view_is) at c.requires)
    (rw c.deref-2.ensures.value at c.count_until.ensures.first))
