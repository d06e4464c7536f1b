use Rattle.admission.proofs.CarryLemmas as lemmas
use Rattle.admission.proofs.laws.accrual_splits_at_control.Goals as goal

pub returns : goal.returns
returns c = lemmas.accrual_splits_at_control
