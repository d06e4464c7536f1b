use Rattle.paths.proofs.FilesOrFault.{reads}
use Rattle.paths.proofs.laws.snapshot_or_fault.Goals as goal

pub returns : goal.returns
returns c = λ bytes. reads bytes
