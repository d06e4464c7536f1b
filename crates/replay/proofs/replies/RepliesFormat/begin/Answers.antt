use Rattle.replay.proofs.Writing.{replies_laws}
use Rattle.replay.proofs.replies.RepliesFormat.begin.Goals as goal

pub returns-clause-texts : goal.returns-clause-texts
returns-clause-texts g c files terms = replies_laws files terms
