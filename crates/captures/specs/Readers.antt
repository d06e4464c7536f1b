-- A reader of a capture, which gives record after record.
use Rattle.std.specs.Prelude.{◌≡◌, ◌≢◌, ℕ, ◌+◌, ◌≤◌, ◌/◌, ◌%◌, Bool, true, not, ◌||◌, ◌&&◌, ◌==◌, List, [], ◌∷◌, ◌++◌}
use Rattle.std.specs.Prelude.{length, Option, Some, None, Result, Ok, Err, IfErr, slice_index_or, is_some, unwrap_or}
use Rattle.std.specs.Prelude.{if◌then◌else◌, false, MatchResult}
use Rattle.std.specs.Int.{bit_at}
use Rattle.devices.specs.Devices.{Device, CountsBy}
use Rattle.captures.specs.Reference.{format_of, text_before_stop, IsCapture, IsCaptureText, IsRecord}
use Rattle.captures.specs.Captures.{Past, past_of, size_of, sizes_of}
use Rattle.captures.specs.CaptureFaults.{IsFaultAfter, IsForeseen, IsHeaderFault, IsUnfinished, header_at, record_at}
use Rattle.captures.specs.CaptureFaults.{failures_of, left_after, longest_text, heading_of}
use Rattle.captures.specs.declared.version.Version.{Version}
use Rattle.captures.specs.declared.record.Record.{Record}
use Rattle.captures.specs.declared.record.Record.TheVariants.{Piece, End, Tier}
use Rattle.captures.specs.declared.capture_fault.CaptureFault.{CaptureFault}
use Rattle.captures.specs.declared.capture_fault.CaptureFaultKind.{CaptureFaultKind}
use Rattle.captures.specs.declared.capture_fault.CaptureFaultKind.TheVariants.{Cut, Read, Memory}
use Rattle.captures.specs.declared.connection_set.ConnectionSet.{ConnectionSet}
use Rattle.captures.specs.declared.so_far.SoFar.{SoFar}
use Rattle.captures.specs.declared.progress.ReaderState.{ReaderState}
use Rattle.captures.specs.declared.progress.ReaderState.TheVariants.{Reading, Ended, Failed}
use Rattle.captures.specs.declared.progress.Progress.{Progress}
use Rattle.devices.specs.Texts.{Ahead, ahead_of, line_at, is_unforeseen}
use Rattle.devices.specs.declared.text.Stop.{Stop}
use Rattle.captures.specs.declared.headings.Heading.{Heading}
use Rattle.captures.specs.declared.reader.CaptureReader.{CaptureReader}

-- The line of a record, as it is read: its shortest rest is read at once.

-- The call gave the next line. Where that announces something in this version, what follows the line is ahead now.
abbrev pub GivesLine : Version → Option (List ℕ) → ℕ → Option (List ℕ) → ℕ → Result (List ℕ) Stop → Type 0
GivesLine v old left new left_new r = is_some old ≡ true → MatchResult r
    (λ line. (following : Ahead) × (line_at (ahead_of old left) ≡ Ok (line, following)) × (is_some new ≡ true)
    × ((h : Heading) → heading_of v line ≡ Ok h → following ≡ ahead_of new left_new))
    (λ e. is_unforeseen e ≡ false → line_at (ahead_of old left) ≡ Err e)

-- whether a connection is in a set: its bit is 1
abbrev pub is_in : ConnectionSet → ℕ → Bool
is_in set c = bit_at (slice_index_or set.words (c / 64) 0) (c % 64) == 1

-- what a reader keeps of the records so far
abbrev pub seen : SoFar → Past
seen s = record { count = s.count; tick = s.tick; ended = is_in s.ended; used = is_in s.used }

-- the numbers that have ended for good, once this one has ended
abbrev pub ended_with : Version → (ℕ → Bool) → ℕ → ℕ → Bool
ended_with v ended conn c = if (format_of v).used_again then ended c else (ended c || conn == c)

-- the past after one more record
abbrev pub after : Version → Past → Record → Past
after v past (Piece tick conn bytes) =
    record { count = past.count + 1; tick = tick; ended = past.ended; used = λ c. past.used c || conn == c }
after v past (End tick conn) = record {
  count = past.count + 1;
  tick = tick;
  ended = ended_with v past.ended conn;
  used = λ c. past.used c && not (conn == c);
}
after v past (Tier conn tier) =
    record { count = past.count + 1; tick = past.tick; ended = past.ended; used = λ c. past.used c || conn == c }

-- A reader has given these records of a text, and no others: they keep the rules, and where the bytes of the input are
-- known, the first line and the texts of the records were taken from them, and the rest is ahead.
pub record ReaderAfter (v : Version) (text : Option (List ℕ)) (start : ℕ) (records : List Record) (p : Progress)
    (now : Option (List ℕ)) : Type 0 where
  pub stage : p.stage ≡ Reading
  pub version : p.version ≡ v
  pub begun : p.start ≡ start
  pub rules : IsCapture v start records
  pub past : seen p.so_far ≡ past_of v records
  pub capacity : length records + sizes_of records + p.capacity ≡ (format_of v).max_text_bytes
  pub taken : is_some text ≡ true → unwrap_or text [] ≡ text_before_stop v start records ++ unwrap_or now []
  pub left : is_some text ≡ true → (format_of v).max_text_bytes ≡ length (text_before_stop v start records) + p.left
  pub known : is_some text ≡ true → is_some now ≡ true

-- What the next call on such a reader answers: one more record; `None` only where the text is the capture of these
-- records; or a fault of the record after these, which is the text's (unless a read failed, or memory ran out).
abbrev pub Gave : Version → Option (List ℕ) → ℕ → List Record → Result (Option Record) CaptureFault → Progress
    → Option (List ℕ) → Type 0
Gave v text start records (Ok (Some r)) p now = ReaderAfter v text start (records ++ r ∷ []) p now
Gave v text start records (Ok None) p now = is_some text ≡ true → IsCaptureText v (unwrap_or text []) start records
Gave v text start records (Err f) p now = (f.at ≡ length records + 1)
    × IsForeseen (λ bytes. IsFaultAfter v bytes start records) text f

-- how far a reader has come by this answer
abbrev pub state_after : Result (Option Record) CaptureFault → ReaderState
state_after (Ok (Some r)) = Reading
state_after (Ok None) = Ended
state_after (Err f) = Failed f

-- after the end, and from a fault on, the answer is repeated, and nothing changes
abbrev pub Repeats : ReaderState → Result (Option Record) CaptureFault → Type 0 → Type 0
Repeats Reading r Unchanged = Unit {0}
Repeats Ended r Unchanged = (r ≡ Ok None) × Unchanged
Repeats (Failed f) r Unchanged = (r ≡ Err f) × Unchanged

-- how often the device fails in a call that answers this fault: a fault that is repeated reads nothing
abbrev pub failures_next : ReaderState → CaptureFaultKind → ℕ
failures_next Reading k = failures_of k
failures_next Ended k = 0
failures_next (Failed f) k = 0

-- the count of failures of the reader's device rose by one exactly where a read failed in the call
abbrev pub CountsNext : ReaderState → ℕ → ℕ → Result (Option Record) CaptureFault → Type 0
CountsNext stage old new r = CountsBy (λ f. failures_next stage f.kind) old new r

-- A read failed in the first line: of the text a part was taken, in which that line doesn't end.
pub record FailsInFirstLine (text part rest : List ℕ) : Type 0 where
  pub taken : text ≡ part ++ rest
  pub size : length part ≤ longest_text
  pub cut : header_at (record { bytes = part; left = longest_text }) ≡ Err Cut

-- so it is where the fault of the first line is a failed read, and the bytes of the input are known; `now` is what is
-- ahead then
abbrev pub FailsFirst : Option (List ℕ) → CaptureFault → Option (List ℕ) → Type 0
FailsFirst text f now = f.kind ≡ Read → is_some text ≡ true
    → (part : List ℕ) × FailsInFirstLine (unwrap_or text []) part (unwrap_or now [])

-- A read failed in the record after these: their texts were taken whole, and of what follows only a part, in which no
-- whole record lies.
pub record FailsInRecord (v : Version) (text : List ℕ) (start : ℕ) (records : List Record)
    (part rest : List ℕ) : Type 0 where
  pub taken : text ≡ (text_before_stop v start records ++ part) ++ rest
  pub size : length (text_before_stop v start records) + length part ≤ (format_of v).max_text_bytes
  pub unfinished : IsUnfinished
      (record_at v (past_of v records) (record { bytes = part; left = left_after v start records }))

-- so it is where a reader that has given these records answers a failed read, and the bytes of the input are known
abbrev pub FailsNext : Version → Option (List ℕ) → ℕ → List Record → Result (Option Record) CaptureFault
    → Option (List ℕ) → Type 0
FailsNext v text start records r now = IfErr r (λ f. f.kind ≡ Read → is_some text ≡ true
    → (part : List ℕ) × FailsInRecord v (unwrap_or text []) start records part (unwrap_or now []))

-- What a call answers a reader that has given some records, and where a read failed in it, that no whole record after
-- these had been taken.
abbrev pub GivesNext : Progress → Option (List ℕ) → Result (Option Record) CaptureFault → Progress → Option (List ℕ)
    → Type 0
GivesNext old before r new now = (version : Version) (text : Option (List ℕ)) (start : ℕ) (records : List Record)
    → ReaderAfter version text start records old before
    → Gave version text start records r new now × FailsNext version text start records r now

-- A record that a reader gives is within the limits and fits into the rest, whatever the bytes of the device are.
pub record IsRead (old new : Progress) (r : Record) : Type 0 where
  pub limits : IsRecord old.version r
  pub capacity : size_of r + 1 + new.capacity ≡ old.capacity

-- A reader comes to this answer, and stays that of the same capture.
pub record ComesTo (old new : Progress) (r : Result (Option Record) CaptureFault) : Type 0 where
  pub version : new.version ≡ old.version
  pub start : new.start ≡ old.start
  pub stage : new.stage ≡ state_after r

-- a reader was made on an input, and has read its first line
pub record HasOpened (before : Device) (p : Progress) (now : Device) : Type 0 where
  pub after : ReaderAfter p.version before.bytes p.start [] p now.bytes
  pub count : now.failures ≡ before.failures

-- the fault of a first line, which takes no memory
pub record IsOpeningFault (text : Option (List ℕ)) (f : CaptureFault) : Type 0 where
  pub at : f.at ≡ 0
  pub memory : f.kind ≢ Memory
  pub foreseen : IsForeseen IsHeaderFault text f

-- What a reader of a capture shows in contracts.

-- how far it has come
abbrev pub progress_of : {R : Type 0} → CaptureReader R → Progress
progress_of reader = reader.progress

-- its device, as it stands now
abbrev pub device_of : {R : Type 0} → CaptureReader R → Device
device_of reader = reader.input.now

-- which device was lent to it
abbrev pub loan_of : {R : Type 0} → CaptureReader R → ℕ
loan_of reader = reader.input.ghost_name
