-- What a reader has to believe: the definitions of this crate that the headline stands on, in reading order.
use Rattle.std.specs.Prelude.{◌≡◌, ℕ, ◌+◌, ◌*◌, ◌%◌, ◌-◌, ◌<◌, ◌≤◌, ◌==◌, Bool, true, false, Option}
use Rattle.std.specs.Prelude.{List, [], ◌∷◌, ◌++◌, length, All, codes, count_by}
use Rattle.std.specs.Prelude.{decimal, slice_index, flat_map, if◌then◌else◌}
use Rattle.std.specs.List.{AllPairs}
use Rattle.devices.specs.Reference.{line_feed, WhereKnown}
use Rattle.captures.specs.declared.version.Version.{Version}
use Rattle.captures.specs.declared.version.Version.TheVariants.{One, Two, Traffic}
use Rattle.captures.specs.declared.record.Record.{Record}
use Rattle.captures.specs.declared.record.Record.TheVariants.{Piece, End, Tier}

-- The text of a capture, in either version of the format, and the text of traffic, which may be days long.

-- What a format sets: the first line up to the start, the greatest number of a connection, whether there are tiers,
-- whether a number is free again after the end of its connection, the most bytes of a text, and the most messages.
pub record FormatRow : Type 0 where
  pub opening : List ℕ
  pub last_connection : ℕ
  pub has_tiers : Bool
  pub used_again : Bool
  pub max_text_bytes : ℕ
  pub max_messages : ℕ

abbrev pub format_of : Version → FormatRow
format_of One = record {
  opening = codes "haboob-capture 1 ";
  last_connection = 4095;
  has_tiers = false;
  used_again = false;
  max_text_bytes = 1073741824;
  max_messages = 1048576;
}
format_of Two = record {
  opening = codes "haboob-capture 2 ";
  last_connection = 65535;
  has_tiers = true;
  used_again = false;
  max_text_bytes = 1073741824;
  max_messages = 1048576;
}
format_of Traffic = record {
  opening = codes "haboob-traffic 1 ";
  last_connection = 65535;
  has_tiers = true;
  used_again = true;
  max_text_bytes = 1125899906842624;
  max_messages = 536870912;
}

-- the latest start (seconds since 1970-01-01), the latest tick, the most bytes of a piece, the last tier
abbrev pub max_start : ℕ
max_start = 4102444800

abbrev pub max_tick : ℕ
max_tick = 1000000000000000

abbrev pub max_piece_bytes : ℕ
max_piece_bytes = 65536

abbrev pub max_tier : ℕ
max_tier = 3

-- the line before a piece, the line of an end and of a tier, the first and the last line, without their line feeds
abbrev pub piece_line : ℕ → ℕ → ℕ → List ℕ
piece_line tick conn len = codes "piece " ++ decimal tick ++ codes " " ++ decimal conn ++ codes " " ++ decimal len

abbrev pub end_line : ℕ → ℕ → List ℕ
end_line tick conn = codes "end " ++ decimal tick ++ codes " " ++ decimal conn

abbrev pub tier_line : ℕ → ℕ → List ℕ
tier_line conn tier = codes "tier " ++ decimal conn ++ codes " " ++ decimal tier

abbrev pub first_line : Version → ℕ → List ℕ
first_line v start = (format_of v).opening ++ decimal start

abbrev pub last_line : List Record → List ℕ
last_line records = codes "stop " ++ decimal (length records)

-- a piece: its line and its bytes, each with a line feed; an end and a tier: the line
abbrev pub record_text : Record → List ℕ
record_text (Piece tick conn bytes) = piece_line tick conn (length bytes) ++ line_feed ∷ (bytes ++ line_feed ∷ [])
record_text (End tick conn) = end_line tick conn ++ line_feed ∷ []
record_text (Tier conn tier) = tier_line conn tier ++ line_feed ∷ []

-- the text up to the last line, and the whole text
abbrev pub text_before_stop : Version → ℕ → List Record → List ℕ
text_before_stop v start records = (first_line v start ++ line_feed ∷ []) ++ flat_map record_text records

abbrev pub capture_text : Version → ℕ → List Record → List ℕ
capture_text v start records = text_before_stop v start records ++ (last_line records ++ line_feed ∷ [])

-- the connection of a record
abbrev pub connection_of : Record → ℕ
connection_of (Piece tick conn bytes) = conn
connection_of (End tick conn) = conn
connection_of (Tier conn tier) = conn

-- whether the record ends this connection; whether it is a piece of it, or gives it a tier
abbrev pub is_end_of : ℕ → Record → Bool
is_end_of c (Piece tick conn bytes) = false
is_end_of c (End tick conn) = conn == c
is_end_of c (Tier conn tier) = false

abbrev pub is_use_of : ℕ → Record → Bool
is_use_of c (Piece tick conn bytes) = conn == c
is_use_of c (End tick conn) = false
is_use_of c (Tier conn tier) = conn == c

-- A number names one connection until that has ended, and then a further one. Each connection has a number of its own
-- here: the first of a number that number, each further one 65536 more than the one before.
abbrev pub connection_now : ℕ → List Record → ℕ
connection_now number records = number + 65536 * count_by (is_end_of number) records

-- the number that names this connection
abbrev pub named_by : ℕ → ℕ
named_by c = c % 65536

-- the record with this connection in the place of its number
abbrev pub of_connection : ℕ → Record → Record
of_connection c (Piece tick number bytes) = Piece tick c bytes
of_connection c (End tick number) = End tick c
of_connection c (Tier number tier) = Tier c tier

-- Records read as records of connections whose numbers are used once, after earlier ones, and from the first one on.
-- (Of a capture, where nothing of a number follows its end, they are the records themselves.)
abbrev pub used_once_after : List Record → List Record → List Record
used_once_after earlier [] = []
used_once_after earlier (r ∷ records) = of_connection (connection_now (connection_of r) earlier) r
    ∷ used_once_after (earlier ++ r ∷ []) records

abbrev pub used_once : List Record → List Record
used_once records = used_once_after [] records

-- the last number, or 0 where there is none
abbrev pub last_of : List ℕ → ℕ
last_of xs = slice_index xs (length xs - 1)

-- the tick that a record gives, and the ticks of all records, in their order
abbrev pub tick_of : Record → List ℕ
tick_of (Piece tick conn bytes) = tick ∷ []
tick_of (End tick conn) = tick ∷ []
tick_of (Tier conn tier) = []

abbrev pub ticks_of : List Record → List ℕ
ticks_of records = flat_map tick_of records

-- the tier that a record gives a connection, and the tier of a connection: 0 where no record gives it one
abbrev pub tier_set : ℕ → Record → List ℕ
tier_set c (Piece tick conn bytes) = []
tier_set c (End tick conn) = []
tier_set c (Tier conn tier) = if conn == c then tier ∷ [] else []

abbrev pub tier_of : ℕ → List Record → ℕ
tier_of c records = last_of (flat_map (tier_set c) records)

-- a record within the limits
abbrev pub IsRecord : Version → Record → Type 0
IsRecord v (Piece tick conn bytes) =
    (tick ≤ max_tick) × (conn ≤ (format_of v).last_connection) × (0 < length bytes) × (length bytes ≤ max_piece_bytes)
IsRecord v (End tick conn) = (tick ≤ max_tick) × (conn ≤ (format_of v).last_connection)
IsRecord v (Tier conn tier) =
    ((format_of v).has_tiers ≡ true) × (conn ≤ (format_of v).last_connection) × (tier ≤ max_tier)

-- a tier comes before each piece of its connection, and once
abbrev pub LetsFollow : Record → Record → Type 0
LetsFollow r (Piece tick conn bytes) = Unit {0}
LetsFollow r (End tick conn) = Unit {0}
LetsFollow r (Tier conn tier) = is_use_of conn r ≡ false

-- whether the record ends this number for good, as each end does in a capture
abbrev pub ends_for_good : Version → ℕ → Record → Bool
ends_for_good v number r = if (format_of v).used_again then false else is_end_of number r

-- The rules of records: ticks don't fall, nothing of a number comes after an end that is for good, and the tier of a
-- connection comes first. (An end may come without a piece.)
pub record IsCapture (v : Version) (start : ℕ) (records : List Record) : Type 0 where
  pub in_time : start ≤ max_start
  pub each : All (IsRecord v) records
  pub rising : AllPairs (λ s t. s ≤ t) (ticks_of records)
  pub ends_last : AllPairs (λ r s. ends_for_good v (connection_of s) r ≡ false) records
  pub tiers_first : AllPairs LetsFollow (used_once records)

-- the bytes are the text of a capture with this start and these records
pub record IsCaptureText (v : Version) (bytes : List ℕ) (start : ℕ) (records : List Record) : Type 0 where
  pub text : bytes ≡ capture_text v start records
  pub rules : IsCapture v start records
  pub size : length bytes ≤ (format_of v).max_text_bytes

-- the input is a capture's text, where its type tells its bytes; these are its version, its start and its records
pub record WholeCapture (input : Option (List ℕ)) : Type 0 where
  pub version : Version
  pub start : ℕ
  pub records : List Record
  pub rules : IsCapture version start records
  pub text : WhereKnown input (λ bytes. IsCaptureText version bytes start records)
