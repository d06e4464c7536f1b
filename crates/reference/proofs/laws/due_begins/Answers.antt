use Rattle.reference.proofs.Handling as lemmas
use Rattle.reference.proofs.laws.due_begins.Goals as goal

pub returns : goal.returns
returns c = lemmas.due_begins
