use Rattle.paths.proofs.NoFault.{no_fault}
use Rattle.paths.proofs.laws.no_fault_of_a_snapshot.Goals as goal

pub returns : goal.returns
returns c = λ bytes files f a b. no_fault bytes files f a b
