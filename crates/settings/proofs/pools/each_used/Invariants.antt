use Rattle.std.proofs.Common.{◌≡◌, ◌+◌, drop}
use Rattle.settings.specs.Pools.{each_used}
use Rattle.settings.proofs.pools.each_used.Given as goal

abbrev pub invariant-loop-index : goal.invariant-loop-index
invariant-loop-index l = each_used (l.index + 1) (drop l.index l.pools) l.routes ≡ each_used 1 l.pools l.routes
