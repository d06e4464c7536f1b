use Rattle.std.proofs.Common.{length}
use Rattle.std.specs.Arc.{arc_value}
use Rattle.page_cache.proofs.KeepLemmas.{Keeps}
use Rattle.page_cache.proofs.cache.PageCache.keep.Given as goal

abbrev pub invariant-loop-self : goal.invariant-loop-self
invariant-loop-self g l =
    Keeps g.F.Tree.files (λ p. arc_value p) l.fn.self l.file l.size l.self-inside.pages l.self-inside.bytes l.self-inside.limit

abbrev pub decreases-loop-self : goal.decreases-loop-self
decreases-loop-self g l = length l.self-inside.pages.entries
