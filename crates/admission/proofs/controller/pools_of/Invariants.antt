use Rattle.std.proofs.Common.{◌≡◌, map, take}
use Rattle.admission.specs.Running.{new_pool}
use Rattle.admission.proofs.controller.pools_of.Given as goal

abbrev pub invariant-loop-count : goal.invariant-loop-count
invariant-loop-count l = l.pools.items ≡ map new_pool (take l.count-index l.servers)
