-- What a replay comes to: its outcome, or a fault, and what it has written.
use Rattle.std.specs.Prelude.{◌≡◌, ℕ, ◌<◌, ◌≤◌, ◌⊎◌, false, List, length, take, Option}
use Rattle.std.specs.Io.KnownBytes.{Appends}
use Rattle.devices.specs.Devices.{AppendsPrefix}
use Rattle.captures.specs.declared.version.Version.{Version}
use Rattle.captures.specs.declared.record.Record.{Record}
use Rattle.captures.specs.Reference.{format_of, used_once}
use Rattle.captures.specs.declared.capture_fault.CaptureFault.{CaptureFault}
use Rattle.captures.specs.Passes.{is_memory, LeavesBy, RecordsRead, StopsAt}
use Rattle.captures.specs.declared.pass_fault.PassFault.{PassFault}
use Rattle.captures.specs.declared.pass_fault.PassFault.TheVariants.{Capture, TooMany, Memory, Write as Unwritten}
use Rattle.arrivals.specs.Reference.{Arrival, AreArrivals}
use Rattle.reference.specs.Reference.{Terms, ArrivedCapture, handled, rejected_of, summary_of}
use Rattle.reference.specs.declared.summary.Outcome.{Outcome}
use Rattle.reference.specs.Texts.{Texts, reply_texts}
use Rattle.paths.specs.declared.file.File.{File}

-- the format of the text, which of its messages were turned away, and what became of all
abbrev pub outcome_of : Version → List File → Terms → List Arrival → Outcome
outcome_of version files terms arrivals = record {
  version = version;
  rejected = rejected_of (handled files terms arrivals);
  summary = summary_of files terms arrivals;
}

-- what a capture's fault has to say; it is never that of a reader which is out of memory, and the other faults say it
-- of none
abbrev pub IfCapture : PassFault → (CaptureFault → Type 0) → Type 0
IfCapture (Capture f) P = (is_memory f.kind ≡ false) × P f
IfCapture other P = Unit {0}

-- what a message too many has to say, by its number
abbrev pub IfTooMany : PassFault → (ℕ → Type 0) → Type 0
IfTooMany (TooMany number) P = P number
IfTooMany other P = Unit {0}

-- what a failed write, or being out of memory, has to say
abbrev pub IfCutShort : PassFault → Type 0 → Type 0
IfCutShort Unwritten P = P
IfCutShort Memory P = P
IfCutShort other P = Unit {0}

-- a fault that isn't the capture's
abbrev pub IsOwn : PassFault → Type 0
IsOwn (Capture f) = ⊥
IsOwn other = Unit {0}

-- Records that were read, and their arrivals.
pub record Taken (input : Option (List ℕ)) : Type 0 where
  pub read : RecordsRead input
  pub arrivals : List Arrival
  pub arrived : AreArrivals (used_once read.records) arrivals

-- the messages that arrived with these records are within the limit, and their text was written
pub record WritesAll (t : Texts) (v : Version) (start : ℕ) (records : List Record)
    (old new : Option (List ℕ)) : Type 0 where
  pub arrivals : List Arrival
  pub arrived : AreArrivals (used_once records) arrivals
  pub few : length arrivals ≤ (format_of v).max_messages
  pub written : Appends old new (t.so_far start arrivals)

-- The replay stopped at a fault of the capture: it has written the first line, and the text of the messages that
-- arrived with the whole records before it, and no last line. (What is written are these texts, here and below: the
-- replies, or the rows of a table.)
abbrev pub StopsWriting : Texts → Option (List ℕ) → Option (List ℕ) → Option (List ℕ) → Option (List ℕ) → CaptureFault
    → Type 0
StopsWriting t input ahead old new f =
    StopsAt input ahead (Appends old new t.first) (λ read. WritesAll t read.version read.start read.records old new) f

abbrev pub Stops : List File → Terms → Option (List ℕ) → Option (List ℕ) → Option (List ℕ) → Option (List ℕ)
    → CaptureFault → Type 0
Stops files terms input ahead old new f = StopsWriting (reply_texts files terms) input ahead old new f

-- The messages that arrived with these records are more than the limit: the text of those within it was written,
-- and no last line. The number is that of the first beyond it.
pub record StopsBeyond (t : Texts) (input old new : Option (List ℕ)) (number : ℕ) : Type 0 where
  pub taken : Taken input
  pub is_number : number ≡ (format_of taken.read.version).max_messages
  pub beyond : number < length taken.arrivals
  pub written : Appends old new (t.so_far taken.read.start (take number taken.arrivals))

abbrev pub StopsFull : List File → Terms → Option (List ℕ) → Option (List ℕ) → Option (List ℕ) → ℕ → Type 0
StopsFull files terms input old new number = StopsBeyond (reply_texts files terms) input old new number

-- A prefix was written of the first line and the text of the messages, within the limit, that arrived with these
-- records.
pub record StopsAmong (t : Texts) (input old new : Option (List ℕ)) : Type 0 where
  pub taken : Taken input
  pub within : ℕ
  pub few : within ≤ (format_of taken.read.version).max_messages
  pub written : AppendsPrefix old new (t.so_far taken.read.start (take within taken.arrivals))

-- the input is a capture's text, and a prefix of all its text was written
abbrev pub StopsAtEnd : Texts → Option (List ℕ) → Option (List ℕ) → Option (List ℕ) → Type 0
StopsAtEnd t input old new =
    (read : ArrivedCapture input) × AppendsPrefix old new (t.whole read.capture.start read.arrivals)

-- a replay that was cut short has written a prefix of what was due
abbrev pub IsCutOff : Texts → Option (List ℕ) → Option (List ℕ) → Option (List ℕ) → Type 0
IsCutOff t input old new = AppendsPrefix old new t.first ⊎ (StopsAmong t input old new ⊎ StopsAtEnd t input old new)

-- What stands where a replay stopped, by its fault.
abbrev pub Leaves : Texts → Option (List ℕ) → Option (List ℕ) → Option (List ℕ) → Option (List ℕ) → PassFault → Type 0
Leaves t input ahead old new f = LeavesBy input ahead
    (Appends old new t.first) (λ read. WritesAll t read.version read.start read.records old new)
    (StopsBeyond t input old new) (IsCutOff t input old new) f
