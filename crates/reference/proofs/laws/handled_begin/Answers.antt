use Rattle.reference.proofs.Handling as lemmas
use Rattle.reference.proofs.laws.handled_begin.Goals as goal

pub returns : goal.returns
returns c = lemmas.handled_begin
