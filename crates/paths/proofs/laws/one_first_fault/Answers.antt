use Rattle.paths.proofs.NoFault.{one_fault}
use Rattle.paths.proofs.laws.one_first_fault.Goals as goal

pub returns : goal.returns
returns c = λ bytes f g a b. one_fault bytes f g a b
