-- What the rules ask of the records of a text, record by record.
use Rattle.std.specs.Prelude.{◌≡◌, ℕ, ◌+◌, ◌≤◌, ◌&&◌, Bool, false, List, length, nat_lt, sum_by, [], ◌∷◌, ◌++◌}
use Rattle.std.specs.List.{list_any}
use Rattle.captures.specs.declared.version.Version.{Version}
use Rattle.captures.specs.declared.record.Record.{Record}
use Rattle.captures.specs.declared.record.Record.TheVariants.{Piece, End, Tier}
use Rattle.captures.specs.Reference.{ends_for_good, is_use_of, last_of, max_piece_bytes, ticks_of, IsRecord}
use Rattle.captures.specs.Reference.{connection_now, used_once, FormatRow, piece_line, end_line, tier_line}
use Rattle.captures.specs.declared.version.Row.{Row}
use Rattle.devices.specs.Reference.{line_feed}

-- What the rules ask of the records so far when one more comes: how many they are, the last tick (0 where none gave
-- one), which numbers have ended for good, and which name a connection that had a piece or a tier.
pub record Past : Type 0 where
  pub count : ℕ
  pub tick : ℕ
  pub ended : ℕ → Bool
  pub used : ℕ → Bool

abbrev pub past_of : Version → List Record → Past
past_of v records = record {
  count = length records;
  tick = last_of (ticks_of records);
  ended = λ c. list_any (ends_for_good v c) records;
  used = λ c. nat_lt c 65536 && list_any (is_use_of (connection_now c records)) (used_once records);
}

-- a record that may stand after this past
abbrev pub Follows : Version → Past → Record → Type 0
Follows v past (Piece tick conn bytes) =
    (past.tick ≤ tick) × (past.ended conn ≡ false) × IsRecord v (Piece tick conn bytes)
Follows v past (End tick conn) = (past.tick ≤ tick) × (past.ended conn ≡ false) × IsRecord v (End tick conn)
Follows v past (Tier conn tier) =
    (past.ended conn ≡ false) × (past.used conn ≡ false) × IsRecord v (Tier conn tier)

-- the most bytes that are read for a record: those of a line, of the longest piece, and the one after it
abbrev pub longest_record : ℕ
longest_record = 65 + max_piece_bytes + 1

-- the bytes that a record brings, and how many all of these records bring
abbrev pub size_of : Record → ℕ
size_of (Piece tick conn bytes) = length bytes
size_of (End tick conn) = 0
size_of (Tier conn tier) = 0

abbrev pub sizes_of : List Record → ℕ
sizes_of records = sum_by size_of records

-- The rows of the formats, as the code has them.

-- a row of the code sets what this one does
pub record IsRow (is : Row) (row : FormatRow) : Type 0 where
  pub opening : is.opening.now ≡ row.opening
  pub last_connection : is.last_connection ≡ row.last_connection
  pub has_tiers : is.has_tiers ≡ row.has_tiers
  pub used_again : is.used_again ≡ row.used_again
  pub max_text_bytes : is.max_text_bytes ≡ row.max_text_bytes
  pub max_messages : is.max_messages ≡ row.max_messages

-- The text of a record in the two parts in which it is written.

-- a record's line, and what of its text comes after it
abbrev pub line_of : Record → List ℕ
line_of (Piece tick conn bytes) = piece_line tick conn (length bytes) ++ line_feed ∷ []
line_of (End tick conn) = end_line tick conn ++ line_feed ∷ []
line_of (Tier conn tier) = tier_line conn tier ++ line_feed ∷ []

abbrev pub rest_of : Record → List ℕ
rest_of (Piece tick conn bytes) = bytes ++ line_feed ∷ []
rest_of (End tick conn) = []
rest_of (Tier conn tier) = []
