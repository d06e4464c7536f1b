use Rattle.paths.proofs.FilesOrFault.{reads, reads_prefix}
use Rattle.paths.proofs.laws.prefix_or_fault.Goals as goal

pub returns : goal.returns
returns c = λ bytes. reads_prefix bytes (reads bytes)
