use Rattle.http_requests.proofs.EndLaws.{shortest, in_front}
use Rattle.http_requests.proofs.laws.block_in_front.Goals as goal

pub returns : goal.returns
returns c = λ s e. (shortest s e, in_front s e)
