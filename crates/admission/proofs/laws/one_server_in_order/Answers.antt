use Rattle.admission.proofs.OrderLemmas as lemmas
use Rattle.admission.proofs.laws.one_server_in_order.Goals as goal

pub returns : goal.returns
returns c = lemmas.one_server_in_order
