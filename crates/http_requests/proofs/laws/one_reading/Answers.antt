use Rattle.http_requests.proofs.MessageLemmas.{messages_unique}
use Rattle.http_requests.proofs.laws.one_reading.Goals as goal

pub returns : goal.returns
returns c = messages_unique 0
