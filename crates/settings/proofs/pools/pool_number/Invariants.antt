use Rattle.std.proofs.Common.{◌≡◌, ◌+◌, drop}
use Rattle.toml.specs.View.{items_view}
use Rattle.settings.specs.Pools.{pool_number}
use Rattle.settings.proofs.pools.pool_number.Given as goal

abbrev pub invariant-pools : goal.invariant-pools
invariant-pools l =
    pool_number (l.index + 1) (items_view (drop l.index l.pool-items)) l.name ≡ pool_number 1 (items_view l.pool-items) l.name
