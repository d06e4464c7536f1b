use Rattle.admission.proofs.CarryLemmas as lemmas
use Rattle.admission.proofs.laws.credit_from_credit.Goals as goal

pub returns : goal.returns
returns c = lemmas.credit_from_credit
