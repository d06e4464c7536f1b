use Rattle.page_cache.proofs.MediaLemmas.{media_is}
use Rattle.page_cache.proofs.media.MediaType.of_name.Goals as goal

pub returns-in-Some : goal.returns-in-Some
returns-in-Some c = media_is c.args.name.now c.last_part.result.now c.in-Some.extension.now c.by_extension.result c.last_part.ensures (rw c.in-Some.extension-is c.in-Some.ensures) c.by_extension.ensures
