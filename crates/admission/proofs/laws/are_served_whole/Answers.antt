use Rattle.admission.proofs.PoolLemmas as lemmas
use Rattle.admission.proofs.laws.are_served_whole.Goals as goal

pub returns : goal.returns
returns c = lemmas.are_served_whole
