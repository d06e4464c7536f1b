use Rattle.std.proofs.Common.{◌≡◌, drop}
use Rattle.toml.specs.View.{table_view}
use Rattle.settings.specs.Documents.{values_fit}
use Rattle.settings.proofs.document.values_fit.Given as goal

abbrev pub invariant-loop-key : goal.invariant-loop-key
invariant-loop-key l =
    values_fit (table_view l.document) (drop l.key-index l.key-items) ≡ values_fit (table_view l.document) l.key-items
