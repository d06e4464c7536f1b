use Rattle.token_bucket.proofs.AccrualLemmas.{accrual-split}
use Rattle.token_bucket.proofs.laws.accrual_splits.Goals as goal

pub returns : goal.returns
returns c = accrual-split
