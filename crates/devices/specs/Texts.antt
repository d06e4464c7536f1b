-- Texts of limited size, read part by part: a byte, a line, a run of bytes whose number is known.
use Rattle.std.specs.Prelude.{◌≡◌, ℕ, ◌+◌, ◌-◌, ◌==◌, ◌<◌, ◌≤◌, ◌++◌, Bool, true, false, List, [], take, drop, length}
use Rattle.std.specs.Prelude.{Option, Result, Ok, Err, MatchResult, nat_lt, nat_le, if◌then◌else◌, unwrap_or, is_some}
use Rattle.std.specs.Prelude.{slice_index, nat_eq}
use Rattle.std.specs.List.{before_first, starts_with, position_or_len}
use Rattle.devices.specs.Reference.{line_feed}
use Rattle.devices.specs.Devices.{CountsBy}
use Rattle.devices.specs.declared.text.Stop.{Stop}
use Rattle.devices.specs.declared.text.Stop.TheVariants.{TooLong, Cut, TooLarge, Read, Memory}

-- Bytes that are read up to a line feed.

-- none of the bytes stands after a line feed
abbrev pub NoneAfterFeed : List ℕ → Type 0
NoneAfterFeed bytes = length bytes ≤ position_or_len (λ b. b == line_feed) bytes + 1

-- what is ahead of a reader: the bytes that the input still has, and how many of them the text may take
pub record Ahead : Type 0 where
  pub bytes : List ℕ
  pub left : ℕ

-- the bytes that the text may take
abbrev pub available : Ahead → List ℕ
available a = take a.left a.bytes

-- after the next n bytes
abbrev pub past : ℕ → Ahead → Ahead
past n a = record { bytes = drop n a.bytes; left = a.left - n }

-- why a part lacks bytes: the input has no more, or the text may take no more
abbrev pub ended : Ahead → Stop
ended a = if nat_lt a.left (length a.bytes) then TooLarge else Cut

-- the next byte
abbrev pub byte_at : Ahead → Result (ℕ × Ahead) Stop
byte_at a = if nat_lt 0 (length (available a)) then Ok (slice_index a.bytes 0, past 1 a) else Err (ended a)

-- the next n bytes
abbrev pub run_at : ℕ → Ahead → Result (List ℕ × Ahead) Stop
run_at n a = if nat_le n (length (available a)) then Ok (take n a.bytes, past n a) else Err (ended a)

-- the first 65 bytes, as far as they are there, up to a line feed
abbrev pub line_start : Ahead → List ℕ
line_start a = before_first (λ b. b == line_feed) (take 65 (available a))

-- the next line, without its line feed: a line has at most 64 bytes
abbrev pub line_at : Ahead → Result (List ℕ × Ahead) Stop
line_at a =
    if length (line_start a) == 65 then Err TooLong
    else if length (line_start a) == length (available a) then Err (ended a)
    else Ok (line_start a, past (length (line_start a) + 1) a)

-- what is ahead of an input whose bytes are known
abbrev pub ahead_of : Option (List ℕ) → ℕ → Ahead
ahead_of known left = record { bytes = unwrap_or known []; left = left }

-- a failed device and out of memory come where they happen: no definition foresees them
abbrev pub is_unforeseen : Stop → Bool
is_unforeseen Read = true
is_unforeseen Memory = true
is_unforeseen _ = false

-- Where the bytes of the input are known, the call gave what f says of what was ahead, and what f leaves is ahead now.
-- An unforeseen fault is excused.
abbrev pub Gives : {X E : Type 0} → (E → Bool) → (Ahead → Result (X × Ahead) E) → Option (List ℕ) → ℕ → Option (List ℕ)
    → ℕ → Result X E → Type 0
Gives excused f old left new left_new r = is_some old ≡ true → MatchResult r
    (λ x. (f (ahead_of old left) ≡ Ok (x, ahead_of new left_new)) × (is_some new ≡ true))
    (λ e. excused e ≡ false → f (ahead_of old left) ≡ Err e)

-- One read into a buffer that isn't empty took some of the next bytes. It took none only where the text has none.
abbrev pub TakesSome : Option (List ℕ) → ℕ → Option (List ℕ) → ℕ → List ℕ → Result ℕ Stop → Type 0
TakesSome old left new left_new buffer r = MatchResult r
    (λ n. (0 < n) × (n ≤ length buffer) × (left ≡ n + left_new)
    × (is_some old ≡ true → (unwrap_or old [] ≡ take n buffer ++ unwrap_or new []) × (is_some new ≡ true)))
    (λ e. is_some old ≡ true → is_unforeseen e ≡ false → (length (available (ahead_of old left)) ≡ 0)
    × (e ≡ ended (ahead_of old left)))

-- a buffer was filled with the next bytes
abbrev pub Fills : Option (List ℕ) → ℕ → Option (List ℕ) → ℕ → List ℕ → Result Unit Stop → Type 0
Fills old left new left_new buffer r = is_some old ≡ true → MatchResult r
    (λ _. (run_at (length buffer) (ahead_of old left) ≡ Ok (buffer, ahead_of new left_new)) × (is_some new ≡ true))
    (λ e. is_unforeseen e ≡ false → run_at (length buffer) (ahead_of old left) ≡ Err e)

-- how often the device failed in a call that answered this fault
abbrev pub failures_in : Stop → ℕ
failures_in Read = 1
failures_in _ = 0

-- the count of failures rose by one exactly where the fault is a failed read
abbrev pub Counts : {X : Type 0} → ℕ → ℕ → Result X Stop → Type 0
Counts old new r = CountsBy failures_in old new r

-- The shortest rest of a line that announces something, and how the line is read in pieces.

-- with its line feed, the line has `least` bytes at least, and `longer` bytes at least where it begins with `kind`
abbrev pub IsLong : ℕ → List ℕ → ℕ → List ℕ → Type 0
IsLong least kind longer line = (least ≤ length line + 1)
    × (starts_with nat_eq line kind ≡ true → longer ≤ length line + 1)

-- a line that begins so and is that long has at least n bytes more, its line feed among them
abbrev pub IsShortestRest : ℕ → List ℕ → ℕ → List ℕ → ℕ → Type 0
IsShortestRest least kind longer prefix n =
    (rest : List ℕ) → IsLong least kind longer (prefix ++ rest) → n ≤ length rest + 1

-- The call gave the next line. Where that is so long, what follows the line is ahead now.
abbrev pub GivesLongLine : ℕ → List ℕ → ℕ → Option (List ℕ) → ℕ → Option (List ℕ) → ℕ → Result (List ℕ) Stop → Type 0
GivesLongLine least kind longer old left new left_new r = is_some old ≡ true → MatchResult r
    (λ line. (following : Ahead) × (line_at (ahead_of old left) ≡ Ok (line, following)) × (is_some new ≡ true)
    × (IsLong least kind longer line → following ≡ ahead_of new left_new))
    (λ e. is_unforeseen e ≡ false → line_at (ahead_of old left) ≡ Err e)
