use Rattle.slim.proofs.SameAnswers.{change_nothing}
use Rattle.slim.proofs.laws.queries_change_nothing.Goals as goal

pub returns : goal.returns
returns c = change_nothing
