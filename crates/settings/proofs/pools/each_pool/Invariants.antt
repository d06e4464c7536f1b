use Rattle.std.proofs.Common.{◌≡◌, ◌+◌, ◌++◌, drop, length, Ok, All}
use Rattle.toml.specs.View.{items_view}
use Rattle.settings.specs.declared.keys.Key.TheVariants.{PoolServers}
use Rattle.settings.specs.Documents.{◌>>=◌}
use Rattle.settings.specs.Keys.{IsOfEach, row_of}
use Rattle.settings.specs.Pools.{each_pool}
use Rattle.settings.proofs.pools.each_pool.Given as goal

abbrev pub invariant-pools : goal.invariant-pools
invariant-pools l =
    (each_pool (items_view l.pool-items) 1 (items_view l.pool-items)
    ≡ (each_pool (items_view l.pool-items) (l.index + 1) (items_view (drop l.index l.pool-items)) >>= (λ more. Ok (l.servers.items ++ more))))
    × (length l.servers.items ≡ l.index)
    × All (λ n. IsOfEach (row_of PoolServers).kind n) l.servers.items
