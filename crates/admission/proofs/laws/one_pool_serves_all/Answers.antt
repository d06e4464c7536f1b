use Rattle.admission.proofs.PoolLemmas as lemmas
use Rattle.admission.proofs.laws.one_pool_serves_all.Goals as goal

pub returns-clause-servers : goal.returns-clause-servers
returns-clause-servers c = lemmas.one_pool_servers

pub returns-clause-all : goal.returns-clause-all
returns-clause-all c = lemmas.one_pool_serves_all
