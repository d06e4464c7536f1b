use Rattle.token_bucket.proofs.laws.standing_runs.Goals as goal
use Rattle.token_bucket.proofs.FitsLemmas as lemmas

pub returns : goal.returns
returns c = lemmas.standing_runs
