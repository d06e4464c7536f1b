use Rattle.slim.proofs.KeptTargets.{kept_whole}
use Rattle.slim.proofs.blocks.canonical_block.Goals as goal

pub returns : goal.returns
returns c = rw (kept_whole c.args.what.now) at c.kept_block.ensures
