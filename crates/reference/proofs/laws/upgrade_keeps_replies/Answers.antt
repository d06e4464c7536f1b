use Rattle.reference.proofs.Former as lemmas
use Rattle.reference.proofs.laws.upgrade_keeps_replies.Goals as goal

pub returns : goal.returns
returns c = lemmas.upgrade_keeps_replies
