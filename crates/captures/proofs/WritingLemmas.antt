-- A record is its line and what comes after it.
use Rattle.std.proofs.Common.{◌≡◌, ℕ, List, [], ◌∷◌, ◌++◌, length, decimal, sym, ap, ◌∙◌, append-nil}
use Rattle.std.proofs.lemmas.List.{append_assoc}
use Rattle.devices.specs.Reference.{line_feed}
use Rattle.captures.specs.Reference.{format_of, first_line, piece_line, record_text}
use Rattle.captures.specs.declared.version.Version.{Version}
use Rattle.captures.specs.Captures.{line_of, rest_of}
use Rattle.captures.specs.declared.record.Record.{Record}
use Rattle.captures.specs.declared.record.Record.TheVariants.{Piece, End, Tier}

pub line_then : (r : Record) → record_text r ≡ line_of r ++ rest_of r
line_then (Piece tick conn bytes) = sym (append_assoc (piece_line tick conn (length bytes)) (line_feed ∷ []) (bytes ++ line_feed ∷ []))
line_then (End tick conn) = sym (append-nil (line_of (End tick conn)))
line_then (Tier conn tier) = sym (append-nil (line_of (Tier conn tier)))

-- the opening of a format and a start are its first line
pub opened : (is : List ℕ) (v : Version) (start : ℕ) → is ≡ (format_of v).opening → is ++ (decimal start ++ line_feed ∷ []) ≡ first_line v start ++ line_feed ∷ []
opened is v start h = ap (λ w. w ++ (decimal start ++ line_feed ∷ [])) h ∙ sym (append_assoc (format_of v).opening (decimal start) (line_feed ∷ []))
