use Rattle.admission.proofs.LawLemmas as lemmas
use Rattle.admission.proofs.laws.decisions_begin.Goals as goal

pub returns : goal.returns
returns c = lemmas.decisions_begin
