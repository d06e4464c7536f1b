use Rattle.std.proofs.Common.{arith}
use Rattle.std.proofs.lemmas.Grind.{common_steps}
use Rattle.settings.proofs.pools.pool_number.Goals as goal

pub pools-preserved : goal.pools-preserved
pools-preserved c = grind (arith, common_steps)
