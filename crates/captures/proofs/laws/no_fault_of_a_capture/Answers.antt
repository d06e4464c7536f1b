use Rattle.captures.proofs.Agree.{no_fault, few_records}
use Rattle.captures.proofs.laws.no_fault_of_a_capture.Goals as goal

pub returns : goal.returns
returns c = λ bytes v start records f a b. no_fault bytes v start records f (few_records v bytes start records a) a b
