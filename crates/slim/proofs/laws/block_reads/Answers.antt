use Rattle.slim.proofs.BlockLemmas.{reads_kept}
use Rattle.slim.proofs.Sizes.{size_kept}
use Rattle.slim.proofs.laws.block_reads.Goals as goal

pub returns-clause-reads : goal.returns-clause-reads
returns-clause-reads c = reads_kept

pub returns-clause-size : goal.returns-clause-size
returns-clause-size c = size_kept
