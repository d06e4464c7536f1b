use Rattle.admission.proofs.LawLemmas as lemmas
use Rattle.admission.proofs.laws.other_tiers_leave.Goals as goal

pub returns : goal.returns
returns c = lemmas.other_tiers_leave
