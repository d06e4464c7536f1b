use Rattle.page_cache.proofs.CacheLemmas.{found_there}
use Rattle.page_cache.proofs.cache.PageCache.holds.Goals as goal

pub returns : goal.returns
returns g c = rw (c.contains.ensures, ← c.self.view_is) (found_there c.args.file c.self.inside.pages.entries)
