use Rattle.admission.proofs.LawLemmas as lemmas
use Rattle.admission.proofs.laws.rate_before.Goals as goal

pub returns : goal.returns
returns c = lemmas.rate_before
