use Rattle.std.proofs.Common.{◌≡◌, ◌++◌, ℕ, List}
use Rattle.std.specs.Io.KnownBytes.{Appends}
use Rattle.percent_encoding.specs.Iter.{encoded_text}
use Rattle.decision_table.specs.Rows.{text_bytes}
use Rattle.decision_table.proofs.text.write_bytes.Given as goal

-- the text of some of the bytes was written, that of the others is left
abbrev pub invariant-loop-piece : goal.invariant-loop-piece
invariant-loop-piece g l = ((done : List ℕ) × Appends l.fn.output.bytes l.output.bytes done × (text_bytes l.bytes ≡ done ++ encoded_text l.piece-iterator))
    × (l.output.failures ≡ l.fn.output.failures)
