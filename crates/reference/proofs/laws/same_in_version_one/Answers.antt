use Rattle.reference.proofs.Former as lemmas
use Rattle.reference.proofs.laws.same_in_version_one.Goals as goal

pub returns : goal.returns
returns c = lemmas.same_in_version_one
