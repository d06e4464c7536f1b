use Rattle.std.proofs.Common.{◌≡◌, ◌++◌, drop}
use Rattle.std.specs.String.{string_bytes}
use Rattle.toml.specs.View.{items_view}
use Rattle.settings.specs.WrittenOut.{items_text}
use Rattle.settings.proofs.written_tables.write_items.Given as goal

abbrev pub invariant-items : goal.invariant-items
invariant-items l =
    string_bytes l.text ++ items_text l.list l.delay (items_view (drop l.item-index l.item-items))
    ≡ string_bytes l.initial.text ++ items_text l.list l.delay (items_view l.item-items)
