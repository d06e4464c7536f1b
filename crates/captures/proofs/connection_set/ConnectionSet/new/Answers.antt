use Rattle.captures.proofs.Sets.{none_in}
use Rattle.captures.proofs.connection_set.ConnectionSet.new.Goals as goal

pub returns : goal.returns
returns c = λ conn. none_in 1024 conn
