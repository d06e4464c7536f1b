use Rattle.std.proofs.Common.{◌≡◌, ◌++◌, drop, length, Ok, All, ◌≤◌}
use Rattle.toml.specs.View.{items_view, table_view}
use Rattle.settings.specs.Documents.{◌>>=◌}
use Rattle.settings.specs.Pools.{pool_count}
use Rattle.settings.specs.Routes.{each_route}
use Rattle.settings.proofs.routes.each_route.Given as goal

abbrev pub invariant-items : goal.invariant-items
invariant-items l =
    (each_route (table_view l.document) (items_view l.item-items)
    ≡ (each_route (table_view l.document) (items_view (drop l.item-index l.item-items)) >>= (λ more. Ok (l.routes.items ++ more))))
    × (length l.routes.items ≡ l.item-index)
    × All (λ route. route.pool ≤ pool_count (table_view l.document)) l.routes.items
