-- How a capture text is read, record by record, and its first fault.
use Rattle.std.specs.Prelude.{◌≡◌, ℕ, ◌+◌, ◌-◌, ◌≤◌, ◌==◌, ◌||◌, ◌&&◌, ◌⊎◌, Bool, true, false, List, [], ◌++◌, drop}
use Rattle.std.specs.Prelude.{length, Option, Some, None, Result, Ok, Err, codes, nat_eq, nat_lt, if◌then◌else◌}
use Rattle.std.specs.Prelude.{is_some, unwrap_or}
use Rattle.std.specs.List.{starts_with}
use Rattle.devices.specs.Reference.{line_feed}
use Rattle.devices.specs.Devices.{CountsBy}
use Rattle.devices.specs.Numbers.{number_of, number_and_rest, three_numbers, ◌>>=◌ as ◌>?=◌}
use Rattle.devices.specs.Texts.{Ahead, line_at, run_at, byte_at}
use Rattle.devices.specs.declared.text.Stop.{Stop}
use Rattle.devices.specs.declared.text.Stop.TheVariants as stops
use Rattle.captures.specs.Reference.{format_of, max_start, max_tick, max_piece_bytes, max_tier, text_before_stop}
use Rattle.captures.specs.Reference.{IsCapture}
use Rattle.captures.specs.Captures.{Past, past_of}
use Rattle.captures.specs.declared.version.Version.{Version}
use Rattle.captures.specs.declared.version.Version.TheVariants.{One, Two, Traffic}
use Rattle.captures.specs.declared.record.Record.{Record}
use Rattle.captures.specs.declared.record.Record.TheVariants.{Piece, End, Tier}
use Rattle.captures.specs.declared.headings.PieceLine.{PieceLine}
use Rattle.captures.specs.declared.headings.TierLine.{TierLine}
use Rattle.captures.specs.declared.headings.Heading.{Heading}
use Rattle.captures.specs.declared.headings.Heading.TheVariants as headings
use Rattle.captures.specs.declared.capture_fault.CaptureFault.{CaptureFault}
use Rattle.captures.specs.declared.capture_fault.CaptureFaultKind.{CaptureFaultKind}
use Rattle.captures.specs.declared.capture_fault.CaptureFaultKind.TheVariants.{Cut, Header, Kind, Number, Tick}
use Rattle.captures.specs.declared.capture_fault.CaptureFaultKind.TheVariants.{Connection, Ended, Tier as LateTier}
use Rattle.captures.specs.declared.capture_fault.CaptureFaultKind.TheVariants.{Length, Count, Trailing, TooLarge, Read}
use Rattle.captures.specs.declared.capture_fault.CaptureFaultKind.TheVariants.{Memory}

-- the name of a kind, as in a line that reports the fault
abbrev pub kind_name : CaptureFaultKind → List ℕ
kind_name Cut = codes "Cut"
kind_name Header = codes "Header"
kind_name Kind = codes "Kind"
kind_name Number = codes "Number"
kind_name Tick = codes "Tick"
kind_name Connection = codes "Connection"
kind_name Ended = codes "Ended"
kind_name LateTier = codes "Tier"
kind_name Length = codes "Length"
kind_name Count = codes "Count"
kind_name Trailing = codes "Trailing"
kind_name TooLarge = codes "TooLarge"
kind_name Read = codes "Read"
kind_name Memory = codes "Memory"

-- the fault of a record, a part of which could not be read
abbrev pub kind_of : Stop → CaptureFaultKind
kind_of stops.TooLong = Kind
kind_of stops.Cut = Cut
kind_of stops.TooLarge = TooLarge
kind_of stops.Read = Read
kind_of stops.Memory = Memory

-- that of the first line
abbrev pub header_kind_of : Stop → CaptureFaultKind
header_kind_of stops.TooLong = Header
header_kind_of stops.Cut = Cut
header_kind_of stops.TooLarge = TooLarge
header_kind_of stops.Read = Read
header_kind_of stops.Memory = Memory

abbrev pub named : {X : Type 0} → (Stop → CaptureFaultKind) → Result X Stop → Result X CaptureFaultKind
named name (Ok x) = Ok x
named name (Err e) = Err (name e)

infixl 10 ◌>>=◌
abbrev pub ◌>>=◌ : {A B : Type 0} → Result A CaptureFaultKind → (A → Result B CaptureFaultKind)
    → Result B CaptureFaultKind
(Ok x) >>= f = f x
(Err e) >>= f = Err e

-- the version and the start that the first line gives
abbrev pub start_heading : Version → Option ℕ → Result (Version × ℕ) CaptureFaultKind
start_heading v (Some start) = if nat_lt max_start start then Err Header else Ok (v, start)
start_heading v None = Err Number

abbrev pub start_after : Version → List ℕ → Result (Version × ℕ) CaptureFaultKind
start_after v line = start_heading v (number_of (drop (length (format_of v).opening) line))

abbrev pub opens : Version → List ℕ → Bool
opens v line = starts_with nat_eq line (format_of v).opening

abbrev pub start_of : List ℕ → Result (Version × ℕ) CaptureFaultKind
start_of line =
    if opens One line then start_after One line
    else if opens Two line then start_after Two line
    else if opens Traffic line then start_after Traffic line
    else Err Header

-- the most bytes of a text, before its first line has given the format
abbrev pub longest_text : ℕ
longest_text = (format_of Traffic).max_text_bytes

-- the first line: its version and its start, after it the records
abbrev pub header_at : Ahead → Result ((Version × ℕ) × Ahead) CaptureFaultKind
header_at a = do
  line ← named header_kind_of (line_at a)
  heading ← start_of line.0
  Ok (heading, line.1)

-- just two numbers
abbrev pub two_numbers : List ℕ → Option (ℕ × ℕ)
two_numbers text = number_and_rest text >?= λ first. number_of first.1 >?= λ second. Some (first.0, second)

-- what a line announces: a piece's tick, connection and length, an end's tick and connection, a tier's connection and
-- number, or the number of records
abbrev pub piece_heading : Option (ℕ × ℕ × ℕ) → Result Heading CaptureFaultKind
piece_heading (Some n) = Ok (headings.Piece (record { tick = n.0; conn = n.1; len = n.2 }))
piece_heading None = Err Number

abbrev pub end_heading : Option (ℕ × ℕ) → Result Heading CaptureFaultKind
end_heading (Some n) = Ok (headings.End (record { tick = n.0; conn = n.1 }))
end_heading None = Err Number

abbrev pub tier_heading : Option (ℕ × ℕ) → Result Heading CaptureFaultKind
tier_heading (Some n) = Ok (headings.Tier (record { conn = n.0; tier = n.1 }))
tier_heading None = Err Number

abbrev pub stop_heading : Option ℕ → Result Heading CaptureFaultKind
stop_heading (Some n) = Ok (headings.Stop n)
stop_heading None = Err Number

abbrev pub heading_of : Version → List ℕ → Result Heading CaptureFaultKind
heading_of v line =
    if starts_with nat_eq line (codes "piece ") then piece_heading (three_numbers (drop 6 line))
    else if starts_with nat_eq line (codes "end ") then end_heading (two_numbers (drop 4 line))
    else if starts_with nat_eq line (codes "tier ") && (format_of v).has_tiers then tier_heading (two_numbers (drop 5 line))
    else if starts_with nat_eq line (codes "stop ") then stop_heading (number_of (drop 5 line))
    else Err Kind

-- what a line of this version may announce
abbrev pub IsHeadingOf : Version → Heading → Type 0
IsHeadingOf v (headings.Piece line) = Unit {0}
IsHeadingOf v (headings.End line) = Unit {0}
IsHeadingOf v (headings.Tier line) = (format_of v).has_tiers ≡ true
IsHeadingOf v (headings.Stop count) = Unit {0}

-- the connection that a record after this past may name
abbrev pub open_connection : Version → Past → ℕ → Result ℕ CaptureFaultKind
open_connection v past conn =
    if nat_lt (format_of v).last_connection conn then Err Connection
    else if past.ended conn then Err Ended
    else Ok conn

-- the connection of a piece or an end, whose tick and connection may stand after this past
abbrev pub allowed : Version → Past → ℕ → ℕ → Result ℕ CaptureFaultKind
allowed v past tick conn =
    if nat_lt max_tick tick || nat_lt tick past.tick then Err Tick
    else open_connection v past conn

-- the bytes of a piece, n
abbrev pub body_at : ℕ → Ahead → Result (List ℕ × Ahead) CaptureFaultKind
body_at n a = do
  bytes ← named kind_of (run_at n a)
  end ← named kind_of (byte_at bytes.1)
  if end.0 == line_feed then Ok (bytes.0, end.1) else Err Length

-- the piece that a line announces
abbrev pub piece_at : Version → Past → PieceLine → Ahead → Result (Record × Ahead) CaptureFaultKind
piece_at v past line a = do
  conn ← allowed v past line.tick line.conn
  if line.len == 0 || nat_lt max_piece_bytes line.len then Err Length
      else (do
        bytes ← body_at line.len a
        Ok (Piece line.tick conn bytes.0, bytes.1))

-- the tier that a line gives
abbrev pub tier_record : Version → Past → TierLine → Result Record CaptureFaultKind
tier_record v past line = do
  conn ← open_connection v past line.conn
  if nat_lt max_tier line.tier || past.used conn then Err LateTier else Ok (Tier conn line.tier)

-- the end of the input
abbrev pub close_at : Ahead → Result (Unit {0} × Ahead) CaptureFaultKind
close_at a = if length a.bytes == 0 then Ok (tt, a) else Err Trailing

-- what a heading announces: a record, or the end of the capture (None), after which the input ends
abbrev pub announced : Version → Past → Heading → Ahead → Result (Option Record × Ahead) CaptureFaultKind
announced v past (headings.Piece line) a = do
  piece ← piece_at v past line a
  Ok (Some piece.0, piece.1)
announced v past (headings.End line) a = do
  conn ← allowed v past line.tick line.conn
  Ok (Some (End line.tick conn), a)
announced v past (headings.Tier line) a = do
  tier ← tier_record v past line
  Ok (Some tier, a)
announced v past (headings.Stop count) a =
    if count == past.count then (do
      end ← close_at a
      Ok (None, end.1))
    else Err Count

-- the record after this past, or None where the capture ends
abbrev pub record_at : Version → Past → Ahead → Result (Option Record × Ahead) CaptureFaultKind
record_at v past a = do
  line ← named kind_of (line_at a)
  heading ← heading_of v line.0
  announced v past heading line.1

-- a failed device and out of memory come where they happen: no definition foresees them
abbrev pub is_unforeseen_kind : CaptureFaultKind → Bool
is_unforeseen_kind Read = true
is_unforeseen_kind Memory = true
is_unforeseen_kind _ = false

-- Nothing whole was read: the text is cut, or it ends after the last line.
abbrev pub IsUnfinished : Result (Option Record × Ahead) CaptureFaultKind → Type 0
IsUnfinished r = (r ≡ Err Cut) ⊎ ((left : ℕ) × (r ≡ Ok (None, record { bytes = []; left = left })))

-- how many bytes a text may still have after these records
abbrev pub left_after : Version → ℕ → List Record → ℕ
left_after v start records = (format_of v).max_text_bytes - length (text_before_stop v start records)

-- The fault of the record after these, whose texts stand whole before it. (The last line is a record here too.)
pub record FaultsAfter (v : Version) (text : List ℕ) (start : ℕ) (records : List Record) (f : CaptureFault)
    (rest : List ℕ) : Type 0 where
  pub whole : text ≡ text_before_stop v start records ++ rest
  pub rules : IsCapture v start records
  pub size : length (text_before_stop v start records) ≤ (format_of v).max_text_bytes
  pub at : f.at ≡ length records + 1
  pub kind : record_at v (past_of v records)
      (record { bytes = rest; left = left_after v start records }) ≡ Err f.kind

-- The first fault of bytes that are no capture text: that of the first line, which is record 0, or of the record after
-- those that stand whole, by the rules of the version that the first line gave.
abbrev pub IsHeaderFault : List ℕ → CaptureFault → Type 0
IsHeaderFault text f = (f.at ≡ 0) × (header_at (record { bytes = text; left = longest_text }) ≡ Err f.kind)

abbrev pub IsFaultAfter : Version → List ℕ → ℕ → List Record → CaptureFault → Type 0
IsFaultAfter v text start records f = (rest : List ℕ) × FaultsAfter v text start records f rest

abbrev pub IsFirstFault : List ℕ → CaptureFault → Type 0
IsFirstFault text f = IsHeaderFault text f
    ⊎ ((v : Version) × (start : ℕ) × (records : List Record) × IsFaultAfter v text start records f)

-- where the bytes of the input are known, and the fault is none that comes where it happens, it is the one of the text
abbrev pub IsForeseen : (List ℕ → CaptureFault → Type 0) → Option (List ℕ) → CaptureFault → Type 0
IsForeseen IsFault old f = is_some old ≡ true → is_unforeseen_kind f.kind ≡ false → IsFault (unwrap_or old []) f

-- how often the device failed in a call that answered this fault
abbrev pub failures_of : CaptureFaultKind → ℕ
failures_of Read = 1
failures_of _ = 0

-- the count of failures rose by one exactly where the fault is a failed read
abbrev pub CountsKind : {X : Type 0} → ℕ → ℕ → Result X CaptureFaultKind → Type 0
CountsKind old new r = CountsBy failures_of old new r

abbrev pub CountsFault : {X : Type 0} → ℕ → ℕ → Result X CaptureFault → Type 0
CountsFault old new r = CountsBy (λ f. failures_of f.kind) old new r
