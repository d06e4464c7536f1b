use Rattle.page_cache.proofs.MediaLemmas.{after_none_is_all}
use Rattle.page_cache.proofs.media.last_part.Goals as goal

pub returns-in-None : goal.returns-in-None
returns-in-None c = after_none_is_all 47 c.args.name.now c.in-None.ensures
