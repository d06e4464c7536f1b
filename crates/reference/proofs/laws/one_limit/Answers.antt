use Rattle.reference.proofs.OneOutcome as lemmas
use Rattle.reference.proofs.laws.one_limit.Goals as goal

pub returns : goal.returns
returns c = lemmas.one_limit
