use Rattle.std.proofs.Common.{refl}
use Rattle.std.specs.Arc.{arc_value}
use Rattle.page_cache.proofs.CacheLemmas.{keys-promoted, IsCache-promoted}
use Rattle.page_cache.proofs.cache.PageCache.bring.Goals as goal

pub invariant_of-self : goal.invariant_of-self
invariant_of-self g c =
    let pages = c.self.inside in
    rw c.promote.ensures.entries (IsCache-promoted g.F.Tree.files (λ p. arc_value p) pages.pages pages.bytes pages.limit c.args.file c.self.invariant)

pub returns : goal.returns
returns g c = rw (c.promote.ensures.entries, keys-promoted c.args.file c.self.inside.pages.entries, ← c.self.view_is) refl
