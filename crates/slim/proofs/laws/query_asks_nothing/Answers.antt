use Rattle.slim.proofs.WithoutQuery.{asks_the_same, gone}
use Rattle.slim.proofs.laws.query_asks_nothing.Goals as goal

pub returns-clause-same : goal.returns-clause-same
returns-clause-same c = asks_the_same

pub returns-clause-gone : goal.returns-clause-gone
returns-clause-gone c = gone
