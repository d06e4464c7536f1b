use Rattle.admission.proofs.LawLemmas as lemmas
use Rattle.admission.proofs.laws.finish_runs.Goals as goal

pub returns : goal.returns
returns c = lemmas.finish_runs
