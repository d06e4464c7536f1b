use Rattle.reference.proofs.InOrder.{in_request_order}
use Rattle.reference.proofs.laws.replies_in_request_order.Goals as goal

pub returns : goal.returns
returns c = in_request_order
