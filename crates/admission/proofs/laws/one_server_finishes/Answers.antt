use Rattle.admission.proofs.TurnLemmas as lemmas
use Rattle.admission.proofs.laws.one_server_finishes.Goals as goal

pub returns : goal.returns
returns c = lemmas.one_server_finishes
