use Rattle.page_cache.proofs.LawLemmas as lemmas
use Rattle.page_cache.proofs.laws.fitting_is_longest.Goals as goal

pub returns : goal.returns
returns c = lemmas.fitting_is_longest
