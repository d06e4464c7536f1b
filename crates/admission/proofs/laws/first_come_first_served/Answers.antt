use Rattle.admission.proofs.TurnLemmas as lemmas
use Rattle.admission.proofs.laws.first_come_first_served.Goals as goal

pub returns : goal.returns
returns c = lemmas.first_come_first_served
