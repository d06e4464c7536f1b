use Rattle.std.proofs.Common.{rules}
use Rattle.std.proofs.lemmas.List.{take_rest}
use Rattle.page_cache.proofs.MediaLemmas.{after_last_none, after_last_at}
use Rattle.page_cache.proofs.media.after_last.Goals as goal

pub returns-in-Some : goal.returns-in-Some
returns-in-Some c =
    let found = after_last_at c.args.mark c.args.text.now c.in-Some.at (search rules) (search rules) (search rules) in
    rw take_rest found

pub returns-in-None : goal.returns-in-None
returns-in-None c = after_last_none c.args.mark c.args.text.now (search rules)
