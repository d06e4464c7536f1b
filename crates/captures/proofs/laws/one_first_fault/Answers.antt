use Rattle.captures.proofs.Agree.{one_fault}
use Rattle.captures.proofs.laws.one_first_fault.Goals as goal

pub returns : goal.returns
returns c = λ bytes f g a b. one_fault bytes f g a b
