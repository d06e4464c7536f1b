use Rattle.http_requests.proofs.MeaningLemmas.{lie_in_order}
use Rattle.http_requests.proofs.laws.in_order.Goals as goal

pub returns : goal.returns
returns c = lie_in_order 0
