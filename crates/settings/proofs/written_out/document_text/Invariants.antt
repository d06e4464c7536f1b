use Rattle.std.proofs.Common.{◌≡◌, ◌++◌, take}
use Rattle.std.specs.List.{flat_map}
use Rattle.std.specs.String.{string_bytes}
use Rattle.toml.specs.View.{table_view}
use Rattle.settings.specs.WrittenOut.{row_text}
use Rattle.settings.proofs.written_out.document_text.Given as goal

abbrev pub invariant-loop-key : goal.invariant-loop-key
invariant-loop-key l =
    string_bytes l.text ≡ string_bytes l.initial.text ++ flat_map (row_text (table_view l.document)) (take l.key-index l.key-items)
