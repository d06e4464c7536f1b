use Rattle.std.proofs.Common.{rules}
use Rattle.slim.specs.Blocks.{block_of}
use Rattle.slim.proofs.blocks.kept_block.Goals as goal

pub returns-in-Request : goal.returns-in-Request
unfolding block_of
returns-in-Request c = rw c.in-Request.is (search rules)

pub returns-in-Bad : goal.returns-in-Bad
unfolding block_of
returns-in-Bad c = rw c.in-Bad.is (search rules)
