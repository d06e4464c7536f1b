use Rattle.token_bucket.proofs.laws.credit_runs.Goals as goal
use Rattle.token_bucket.proofs.FitsLemmas as lemmas

pub returns : goal.returns
returns c = lemmas.credit_runs
