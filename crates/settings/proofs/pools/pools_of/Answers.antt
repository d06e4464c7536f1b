use Rattle.std.proofs.Common.{arith}
use Rattle.std.proofs.lemmas.Grind.{common_steps}
use Rattle.settings.specs.Pools.{pools_of}
use Rattle.settings.proofs.Counting.{counted}
use Rattle.settings.proofs.pools.pools_of.Goals as goal

pub returns-clause-pools : goal.returns-clause-pools
unfolding pools_of
returns-clause-pools c = grind (arith, common_steps, counted)

pub returns-clause-count : goal.returns-clause-count
unfolding pools_of
returns-clause-count c = grind (arith, common_steps, counted)

pub returns-clause-few : goal.returns-clause-few
unfolding pools_of
returns-clause-few c = grind (arith, common_steps, counted)
