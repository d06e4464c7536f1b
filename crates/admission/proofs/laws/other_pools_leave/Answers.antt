use Rattle.admission.proofs.PoolLemmas as lemmas
use Rattle.admission.proofs.laws.other_pools_leave.Goals as goal

pub returns : goal.returns
returns c = lemmas.other_pools_leave
