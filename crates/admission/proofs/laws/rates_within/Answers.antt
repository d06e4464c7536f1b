use Rattle.admission.proofs.LawLemmas as lemmas
use Rattle.admission.proofs.laws.rates_within.Goals as goal

pub returns : goal.returns
returns c = lemmas.rates_within
