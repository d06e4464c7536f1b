use Rattle.std.proofs.Common.{arith}
use Rattle.std.proofs.lemmas.Grind.{common_steps}
use Rattle.settings.proofs.pools.each_pool.Goals as goal

pub pools-preserved : goal.pools-preserved
pools-preserved c = grind (arith, common_steps)

pub pools-init : goal.pools-init
pools-init c = grind (arith, common_steps)

pub returns-clause-servers : goal.returns-clause-servers
returns-clause-servers c = grind (arith, common_steps)

pub returns-in_err-own-clause-servers : goal.returns-in_err-own-clause-servers
returns-in_err-own-clause-servers c = grind (arith, common_steps)
