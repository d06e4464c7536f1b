use Rattle.admission.proofs.CarryLemmas as lemmas
use Rattle.admission.proofs.laws.first_credit.Goals as goal

pub returns : goal.returns
returns c = lemmas.first_credit
