use Rattle.http_requests.proofs.EndLaws.{ends_by_test, test_holds}
use Rattle.http_requests.proofs.laws.block_ends.Goals as goal

pub returns : goal.returns
returns c = λ s e. (test_holds s e, ends_by_test s e)
