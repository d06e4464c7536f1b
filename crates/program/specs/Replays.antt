-- The run over a snapshot and a capture, each in an input of its own, with a report.
use Rattle.std.specs.Prelude.{◌≡◌, ℕ, Bool, true, false, List, Option, Result, OnOk, IfErr}
use Rattle.std.specs.Io.KnownBytes.{Appends}
use Rattle.devices.specs.Devices.{Device, AppendsProperPrefix, CountsBy, fresh}
use Rattle.paths.specs.declared.file.File.{File}
use Rattle.paths.specs.Snapshots.{IsSnapshot, IsSnapshotText}
use Rattle.paths.specs.SnapshotFaults.{IsFirstFault, IsForeseen, failures_of}
use Rattle.captures.specs.CaptureFaults.{is_unforeseen_kind}
use Rattle.captures.specs.CaptureFaults as captures
use Rattle.reference.specs.declared.summary.Outcome.{Outcome}
use Rattle.reference.specs.Reference.{Answers, Choice, Terms}
use Rattle.reference.specs.Explaining.{Explains, row_texts}
use Rattle.reference.specs.Texts.{Texts, reply_texts}
use Rattle.devices.specs.Reference.{WhereKnown}
use Rattle.reference.specs.Outcomes.{IfCapture, Leaves}
use Rattle.captures.specs.Passes as passes
use Rattle.captures.specs.declared.pass_fault.PassFault.{PassFault}
use Rattle.command_line.specs.declared.words.Engine.TheVariants as engines
use Rattle.report.specs.Reports.{report_text}
use Rattle.runs.specs.Failures.{capture_failures, report_failures, writer_failures}
use Rattle.runs.specs.Ports.{Port, reports_write, is_cut, port}
use Rattle.program.specs.declared.wanted.Wanted.{Wanted}
use Rattle.program.specs.declared.wanted.Wanted.TheVariants as wants
use Rattle.faults.specs.declared.fault.Fault.{Fault}
use Rattle.faults.specs.declared.fault.Fault.TheVariants.{Snapshot, Replay, Write, Memory}
use Rattle.faults.specs.declared.fault.Place.TheVariants.{Replies, Report}

-- There are files that keep the rules of a snapshot, and P holds of them. Where the bytes of the input are known, they
-- are the text of these files.
pub record OfSnapshot (snapshot : Option (List ℕ)) (P : List File → Type 0) : Type 0 where
  pub files : List File
  pub rules : IsSnapshot files
  pub text : WhereKnown snapshot (λ bytes. IsSnapshotText bytes files)
  pub holds : P files

-- the texts that are wanted
abbrev pub wanted_of : Wanted → List File → Terms → Texts
wanted_of (wants.Replies engine) files terms = reply_texts files terms
wanted_of wants.Rows files terms = row_texts files terms

-- The answer of the reference server to the capture was written, whatever the engine, or the table of its decisions;
-- and this is the outcome.
abbrev pub HasWritten : Wanted → List File → Terms → Option (List ℕ) → Port → Outcome → Type 0
HasWritten (wants.Replies engine) files terms capture written outcome =
    Answers files terms capture written.old.bytes written.new.bytes outcome
HasWritten wants.Rows files terms capture written outcome =
    Explains files terms capture written.old.bytes written.new.bytes outcome

-- what is wanted of the capture was written, and P holds of its outcome
pub record AnswersAnd (wanted : Wanted) (files : List File) (terms : Terms) (capture : Option (List ℕ)) (written : Port)
    (P : Outcome → Type 0) : Type 0 where
  pub outcome : Outcome
  pub answer : HasWritten wanted files terms capture written outcome
  pub holds : P outcome

-- the devices of a run: of its inputs, of what is wanted of the messages, and of the report
pub record Ports : Type 0 where
  pub snapshot : Port
  pub capture : Port
  pub written : Port
  pub report : Port

-- these, each before the run and after it
abbrev pub ports : Device → Device → Device → Device → Device → Device → Device → Device → Ports
ports snapshot snapshot_new capture capture_new written written_new report report_new = record {
  snapshot = port snapshot snapshot_new;
  capture = port capture capture_new;
  written = port written written_new;
  report = port report report_new;
}

-- what is wanted was written, and P holds of its outcome
abbrev pub WritesWanted : Wanted → Choice → Ports → (Outcome → Type 0) → Type 0
WritesWanted wanted choice at P = OfSnapshot at.snapshot.old.bytes (λ files.
    AnswersAnd wanted files choice.served at.capture.old.bytes at.written P)

-- and the whole report of it
abbrev pub Replays : Wanted → Choice → Ports → Type 0
Replays wanted choice at = WritesWanted wanted choice at (λ outcome.
    Appends at.report.old.bytes at.report.new.bytes (report_text outcome))

-- What a fault of the run says of its devices. One of the snapshot is its first, and nothing was written. One of the
-- replay comes after a whole snapshot, and says what it says of the capture; no report was written. Else the whole
-- answer was written, and there was no memory for the report, or a prefix of it stands. None else comes.
abbrev pub IsReplayFault : Wanted → Choice → Ports → Fault → Type 0
IsReplayFault wanted choice at (Snapshot f) = IsForeseen IsFirstFault at.snapshot.old.bytes f
    × (at.written.new ≡ at.written.old) × (at.report.new ≡ at.report.old)
IsReplayFault wanted choice at (Replay f) =
    OfSnapshot at.snapshot.old.bytes (λ files. Leaves (wanted_of wanted files choice.served)
    at.capture.old.bytes at.capture.new.bytes at.written.old.bytes at.written.new.bytes f)
    × (at.report.new ≡ at.report.old)
IsReplayFault wanted choice at (Write Report) = WritesWanted wanted choice at (λ outcome.
    AppendsProperPrefix at.report.old.bytes at.report.new.bytes (report_text outcome))
IsReplayFault wanted choice at Memory = WritesWanted wanted choice at (λ outcome. Unit {0})
    × (at.report.new ≡ at.report.old)
IsReplayFault wanted choice at other = ⊥

-- how often the reader of the snapshot failed in a run that answered this fault (Failures of `runs` has the others)
abbrev pub snapshot_failures : Fault → ℕ
snapshot_failures (Snapshot f) = failures_of f.kind
snapshot_failures other = 0

-- the staged engine alone may leave a read of the capture that failed unreported, where another fault comes before it
abbrev pub unreported_by : Wanted → PassFault → Bool
unreported_by (wants.Replies engines.Staged) f = passes.leaves_reads_unreported f
unreported_by other f = false

abbrev pub is_unreported : Wanted → Fault → Bool
is_unreported wanted (Replay f) = unreported_by wanted f
is_unreported wanted other = false

-- each device is reported exactly where it failed in the call, but for such a read
abbrev pub Attributes : Wanted → Ports → Result Unit Fault → Type 0
Attributes wanted at ran = CountsBy snapshot_failures at.snapshot.old.failures at.snapshot.new.failures ran
    × passes.AttributesReads capture_failures (is_unreported wanted) at.capture.old.failures at.capture.new.failures ran
    × CountsBy writer_failures at.written.old.failures at.written.new.failures ran
    × CountsBy report_failures at.report.old.failures at.report.new.failures ran

-- What a fault of the program over files says of its inputs: that of a snapshot or a capture is the first, but for a
-- failed read and out of memory. Other faults are that the replies or the report can't be written to their end, and out
-- of memory.
abbrev pub IsFilesFault : Option (List ℕ) → Option (List ℕ) → Fault → Type 0
IsFilesFault snapshot capture (Snapshot f) = IsForeseen IsFirstFault snapshot f
IsFilesFault snapshot capture (Replay f) =
    OfSnapshot snapshot (λ files. IfCapture f
    (λ g. is_unforeseen_kind g.kind ≡ false → WhereKnown capture (λ bytes. captures.IsFirstFault bytes g)))
IsFilesFault snapshot capture (Write Replies) = Unit {0}
IsFilesFault snapshot capture (Write Report) = Unit {0}
IsFilesFault snapshot capture Memory = Unit {0}
IsFilesFault snapshot capture other = ⊥

-- what the run says of its inputs and of its outputs
abbrev pub ReplaySays : Wanted → Choice → Port → Port → Port → Port → Result Unit Fault → Type 0
ReplaySays wanted choice snapshot capture written report ran = (let at : Ports = record {
  snapshot = snapshot;
  capture = capture;
  written = written;
  report = report;
} in OnOk ran (Replays wanted choice at) × IfErr ran (IsReplayFault wanted choice at))

-- what a run over files says of its inputs, whatever it leaves of them, and of its outputs
abbrev pub FilesSays : Wanted → Choice → Option (List ℕ) → Option (List ℕ) → Port → Port → Result Unit Fault → Type 0
FilesSays wanted choice snapshot capture written report ran = (snapshot_left capture_left : Device)
    × ReplaySays wanted choice (port (fresh snapshot) snapshot_left) (port (fresh capture) capture_left)
    written report ran

-- a read of the capture that failed may go unreported where the engine may leave it so, where a buffer's bytes can't be
-- written, and where memory runs out
abbrev pub is_unreported_at_files : Wanted → Fault → Bool
is_unreported_at_files wanted (Replay f) = unreported_by wanted f
is_unreported_at_files wanted other = is_cut other

-- each reader is reported exactly where it failed in the call, but for such a read
abbrev pub AttributesAllReads : Wanted → Port → Port → Result Unit Fault → Type 0
AttributesAllReads wanted snapshot capture reported =
    passes.AttributesReads snapshot_failures is_cut snapshot.old.failures snapshot.new.failures reported
    × passes.AttributesReads capture_failures (is_unreported_at_files wanted) capture.old.failures
    capture.new.failures reported

-- of two writers, each of which has failed or not: that of the replies is reported where it failed, and at Ok the other
-- hasn't
abbrev pub ReportsBoth : Bool → Bool → Result Unit Fault → Type 0
ReportsBoth written report reported =
    (written ≡ true → reports_write Replies reported ≡ true) × OnOk reported (report ≡ false)
