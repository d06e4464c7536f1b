use Rattle.reference.proofs.OneAnswer as lemmas
use Rattle.reference.proofs.laws.one_answer.Goals as goal

pub returns : goal.returns
returns c = lemmas.one_answer
