use Rattle.reference.proofs.Former as lemmas
use Rattle.reference.proofs.laws.former_answers_hold.Goals as goal

pub returns : goal.returns
returns c = lemmas.former_answers_hold
