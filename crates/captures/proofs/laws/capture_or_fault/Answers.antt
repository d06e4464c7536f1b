use Rattle.captures.proofs.Each.{reads}
use Rattle.captures.proofs.laws.capture_or_fault.Goals as goal

pub returns : goal.returns
returns c = λ bytes. reads bytes
