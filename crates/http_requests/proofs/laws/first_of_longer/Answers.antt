use Rattle.http_requests.proofs.MessageLemmas.{messages_prefix}
use Rattle.http_requests.proofs.laws.first_of_longer.Goals as goal

pub returns : goal.returns
returns c = messages_prefix 0
