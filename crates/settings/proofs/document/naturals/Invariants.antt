use Rattle.std.proofs.Common.{◌≡◌, ◌++◌, drop, Ok}
use Rattle.toml.specs.View.{items_view}
use Rattle.settings.specs.Documents.{naturals, ◌>>=◌}
use Rattle.settings.proofs.document.naturals.Given as goal

abbrev pub invariant-items : goal.invariant-items
invariant-items l =
    naturals l.key (items_view l.item-items)
    ≡ (naturals l.key (items_view (drop l.item-index l.item-items)) >>= (λ ns. Ok (l.numbers.items ++ ns)))
