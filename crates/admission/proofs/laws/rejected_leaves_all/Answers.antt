use Rattle.admission.proofs.LawLemmas as lemmas
use Rattle.admission.proofs.laws.rejected_leaves_all.Goals as goal

pub returns : goal.returns
returns c = lemmas.rejected_leaves_all
