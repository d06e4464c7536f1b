use Rattle.admission.proofs.TurnLemmas as lemmas
use Rattle.admission.proofs.laws.finish_from_finish.Goals as goal

pub returns : goal.returns
returns c = lemmas.finish_from_finish
