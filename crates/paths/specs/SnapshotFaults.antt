-- How a snapshot text is read, entry by entry, and its first fault.
use Rattle.std.specs.Prelude.{◌≡◌, ℕ, ◌+◌, ◌-◌, ◌≤◌, ◌==◌, ◌||◌, ◌⊎◌, not, Bool, true, false, List, [], ◌∷◌, ◌++◌, drop}
use Rattle.std.specs.Prelude.{length, Option, Some, None, Result, Ok, Err, codes, nat_eq, nat_lt, nat_le, bytes_eq}
use Rattle.std.specs.Prelude.{if◌then◌else◌, is_some, unwrap_or, MatchResult}
use Rattle.std.specs.List.{list_all, list_any, starts_with}
use Rattle.devices.specs.Reference.{line_feed}
use Rattle.paths.specs.Reference.{lies_in}
use Rattle.devices.specs.Devices.{CountsBy}
use Rattle.devices.specs.Numbers.{number_of, three_numbers}
use Rattle.devices.specs.Texts.{Ahead, line_at, run_at, byte_at, ahead_of, is_unforeseen}
use Rattle.paths.specs.Snapshots.{max_files, max_file_bytes, max_name_bytes, max_time, max_text_bytes, first_line}
use Rattle.paths.specs.Snapshots.{text_before_end, snapshot_text, is_name, comes_before, IsSnapshot, IsSnapshotText}
use Rattle.devices.specs.declared.text.Stop.{Stop}
use Rattle.paths.specs.declared.file.File.{File}
use Rattle.paths.specs.declared.file.FileLine.{FileLine}
use Rattle.paths.specs.declared.file.EntryHeading.{EntryHeading}
use Rattle.paths.specs.declared.snapshot_fault.SnapshotFault.{SnapshotFault}
use Rattle.paths.specs.declared.snapshot_fault.SnapshotFaultKind.{SnapshotFaultKind}
use Rattle.paths.specs.declared.snapshot_fault.SnapshotFaultKind.TheVariants.{Cut, Header, Kind, Number, TooLarge, Name}
use Rattle.paths.specs.declared.snapshot_fault.SnapshotFaultKind.TheVariants.{Order, Conflict, Length, Count, Trailing}
use Rattle.paths.specs.declared.snapshot_fault.SnapshotFaultKind.TheVariants.{Read, Memory}
use Rattle.devices.specs.declared.text.Stop.TheVariants as stops
use Rattle.paths.specs.declared.file.EntryHeading.TheVariants as headings

-- the name of a kind, as in a line that reports the fault
abbrev pub kind_name : SnapshotFaultKind → List ℕ
kind_name Cut = codes "Cut"
kind_name Header = codes "Header"
kind_name Kind = codes "Kind"
kind_name Number = codes "Number"
kind_name TooLarge = codes "TooLarge"
kind_name Name = codes "Name"
kind_name Order = codes "Order"
kind_name Conflict = codes "Conflict"
kind_name Length = codes "Length"
kind_name Count = codes "Count"
kind_name Trailing = codes "Trailing"
kind_name Read = codes "Read"
kind_name Memory = codes "Memory"

-- the fault of an entry, a part of which could not be read
abbrev pub kind_of : Stop → SnapshotFaultKind
kind_of stops.TooLong = Kind
kind_of stops.Cut = Cut
kind_of stops.TooLarge = TooLarge
kind_of stops.Read = Read
kind_of stops.Memory = Memory

-- that of the first line
abbrev pub header_kind_of : Stop → SnapshotFaultKind
header_kind_of stops.TooLong = Header
header_kind_of stops.Cut = Cut
header_kind_of stops.TooLarge = TooLarge
header_kind_of stops.Read = Read
header_kind_of stops.Memory = Memory

abbrev pub named : {X : Type 0} → (Stop → SnapshotFaultKind) → Result X Stop → Result X SnapshotFaultKind
named name (Ok x) = Ok x
named name (Err e) = Err (name e)

infixl 10 ◌>>=◌
abbrev pub ◌>>=◌ : {A B : Type 0} → Result A SnapshotFaultKind → (A → Result B SnapshotFaultKind)
    → Result B SnapshotFaultKind
(Ok x) >>= f = f x
(Err e) >>= f = Err e

-- the first line, after it the entries
abbrev pub header_at : Ahead → Result (Unit {0} × Ahead) SnapshotFaultKind
header_at a = do
  line ← named header_kind_of (line_at a)
  if bytes_eq line.0 first_line then Ok (tt, line.1) else Err Header

-- what a line announces: a file's time, the length of its name and its own, or the number of files
abbrev pub file_heading : Option (ℕ × ℕ × ℕ) → Result EntryHeading SnapshotFaultKind
file_heading (Some n) = Ok (headings.File (record { mtime = n.0; name_len = n.1; len = n.2 }))
file_heading None = Err Number

abbrev pub end_heading : Option ℕ → Result EntryHeading SnapshotFaultKind
end_heading (Some n) = Ok (headings.End n)
end_heading None = Err Number

abbrev pub heading_of : List ℕ → Result EntryHeading SnapshotFaultKind
heading_of line =
    if starts_with nat_eq line (codes "file ") then file_heading (three_numbers (drop 5 line))
    else if starts_with nat_eq line (codes "end ") then end_heading (number_of (drop 4 line))
    else Err Kind

-- the name of n bytes of a file after these files
abbrev pub name_at : List File → ℕ → Ahead → Result (List ℕ × Ahead) SnapshotFaultKind
name_at files n a = do
  name ← named kind_of (run_at n a)
  end ← named kind_of (byte_at name.1)
  if not (end.0 == line_feed) || not (is_name name.0) then Err Name
      else if not (list_all (λ f. comes_before f.name name.0) files) then Err Order
      else if list_any (λ f. lies_in f.name name.0) files then Err Conflict
      else Ok (name.0, end.1)

-- the bytes of a file, n
abbrev pub body_at : ℕ → Ahead → Result (List ℕ × Ahead) SnapshotFaultKind
body_at n a = do
  bytes ← named kind_of (run_at n a)
  end ← named kind_of (byte_at bytes.1)
  if end.0 == line_feed then Ok (bytes.0, end.1) else Err Length

-- the file that a line announces
abbrev pub file_at : List File → FileLine → Ahead → Result (File × Ahead) SnapshotFaultKind
file_at files line a =
    if nat_lt max_time line.mtime then Err Number
    else if nat_lt max_file_bytes line.len || nat_le max_files (length files) then Err TooLarge
    else if line.name_len == 0 || nat_lt max_name_bytes line.name_len then Err Name
    else (do
      name ← name_at files line.name_len a
      bytes ← body_at line.len name.1
      Ok (record { name = name.0; mtime = line.mtime; bytes = bytes.0 }, bytes.1))

-- what a heading announces: a file, or the end (None)
abbrev pub announced : List File → EntryHeading → Ahead → Result (Option File × Ahead) SnapshotFaultKind
announced files (headings.File line) a = do
  file ← file_at files line a
  Ok (Some file.0, file.1)
announced files (headings.End count) a = if count == length files then Ok (None, a) else Err Count

-- the entry after these files
abbrev pub entry_at : List File → Ahead → Result (Option File × Ahead) SnapshotFaultKind
entry_at files a = do
  line ← named kind_of (line_at a)
  heading ← heading_of line.0
  announced files heading line.1

-- a failed device and out of memory come where they happen
abbrev pub is_unforeseen_kind : SnapshotFaultKind → Bool
is_unforeseen_kind Read = true
is_unforeseen_kind Memory = true
is_unforeseen_kind _ = false

-- how often the device failed in a call that answered this fault
abbrev pub failures_of : SnapshotFaultKind → ℕ
failures_of Read = 1
failures_of _ = 0

-- the count of failures rose by one exactly where the fault is a failed read
abbrev pub CountsKind : {X : Type 0} → ℕ → ℕ → Result X SnapshotFaultKind → Type 0
CountsKind old new r = CountsBy failures_of old new r

-- The first fault of bytes of which no prefix is a snapshot text: that of the first line, or of the entry after the
-- files whose texts stand whole before it. Entry 0 is the first line.
pub record FaultsAfter (text : List ℕ) (f : SnapshotFault) (files : List File) (rest : List ℕ) : Type 0 where
  pub whole : text ≡ text_before_end files ++ rest
  pub rules : IsSnapshot files
  pub size : length (text_before_end files) ≤ max_text_bytes
  pub entry : f.entry ≡ length files + 1
  pub kind :
      entry_at files (record { bytes = rest; left = max_text_bytes - length (text_before_end files) }) ≡ Err f.kind

abbrev pub IsFrontFault : List ℕ → SnapshotFault → Type 0
IsFrontFault text f = ((f.entry ≡ 0) × (header_at (record { bytes = text; left = max_text_bytes }) ≡ Err f.kind))
    ⊎ ((files : List File) × (rest : List ℕ) × FaultsAfter text f files rest)

-- the same of bytes that are no snapshot text: a text with a byte after it has one more fault
pub record HasTrailing (text : List ℕ) (f : SnapshotFault) (files : List File) (b : ℕ) (rest : List ℕ) : Type 0 where
  pub whole : text ≡ snapshot_text files ++ b ∷ rest
  pub rules : IsSnapshot files
  pub size : length (snapshot_text files) ≤ max_text_bytes
  pub entry : f.entry ≡ length files + 1
  pub kind : f.kind ≡ Trailing

abbrev pub IsFirstFault : List ℕ → SnapshotFault → Type 0
IsFirstFault text f = IsFrontFault text f
    ⊎ ((files : List File) × (b : ℕ) × (rest : List ℕ) × HasTrailing text f files b rest)

-- where the bytes of the input are known, and the fault is none that comes where it happens, it is the one of the text
abbrev pub IsForeseen : (List ℕ → SnapshotFault → Type 0) → Option (List ℕ) → SnapshotFault → Type 0
IsForeseen IsFault old f = is_some old ≡ true → is_unforeseen_kind f.kind ≡ false → IsFault (unwrap_or old []) f

-- Where the bytes of the input are known, the text of these files was taken from them, as a prefix.
pub record ReadsFront (old new : Option (List ℕ)) (files : List File) : Type 0 where
  pub text : is_some old ≡ true → unwrap_or old [] ≡ snapshot_text files ++ unwrap_or new []
  pub known : is_some old ≡ true → is_some new ≡ true
  pub size : is_some old ≡ true → length (snapshot_text files) ≤ max_text_bytes

-- where they are known, they were the text of these files
pub record ReadsWhole (old new : Option (List ℕ)) (files : List File) : Type 0 where
  pub text : is_some old ≡ true → IsSnapshotText (unwrap_or old []) files

abbrev pub CountsFault : {X : Type 0} → ℕ → ℕ → Result X SnapshotFault → Type 0
CountsFault old new r = CountsBy (λ f. failures_of f.kind) old new r

-- The shortest rest of a line that announces something, and how the line is read in pieces.

-- The call gave the next line. Where that announces something, what follows the line is ahead now.
abbrev pub GivesLine : Option (List ℕ) → ℕ → Option (List ℕ) → ℕ → Result (List ℕ) Stop → Type 0
GivesLine old left new left_new r = is_some old ≡ true → MatchResult r
    (λ line. (following : Ahead) × (line_at (ahead_of old left) ≡ Ok (line, following)) × (is_some new ≡ true)
    × ((h : EntryHeading) → heading_of line ≡ Ok h → following ≡ ahead_of new left_new))
    (λ e. is_unforeseen e ≡ false → line_at (ahead_of old left) ≡ Err e)
