use Rattle.reference.proofs.Handling as lemmas
use Rattle.reference.proofs.laws.tariffs_change_no_reply.Goals as goal

pub returns : goal.returns
returns c = lemmas.tariffs_change_no_reply
