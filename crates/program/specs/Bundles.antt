-- The run over one input that holds a snapshot's text and, after it, a capture.
use Rattle.std.specs.Prelude.{◌≡◌, ℕ, true, false, List, [], Option, is_some, unwrap_or, Result, OnOk, IfErr}
use Rattle.devices.specs.Reference.{WhereKnown}
use Rattle.paths.specs.declared.file.File.{File}
use Rattle.paths.specs.Snapshots.{IsSnapshot, BeginsWithSnapshot}
use Rattle.paths.specs.SnapshotFaults.{IsFrontFault, IsForeseen}
use Rattle.captures.specs.CaptureFaults.{is_unforeseen_kind, IsFirstFault}
use Rattle.reference.specs.declared.summary.Outcome.{Outcome}
use Rattle.reference.specs.Reference.{Answers}
use Rattle.reference.specs.Outcomes.{IfCapture, Leaves}
use Rattle.reference.specs.Texts.{reply_texts}
use Rattle.settings.specs.SettingsTable.{default_choice}
use Rattle.faults.specs.declared.fault.Fault.{Fault}
use Rattle.faults.specs.declared.fault.Fault.TheVariants.{Snapshot, Replay, Write, Memory}
use Rattle.faults.specs.declared.fault.Place.TheVariants.{Replies}
use Rattle.runs.specs.Ports.{Port}
use Rattle.runs.specs.Upgrading.{IsTextOfSomeFormat}

-- There are files that keep the rules of a snapshot, and P holds of them and of the rest of the input. Where the bytes
-- of the input are known, the text of these files stands at their start, and the bytes after it are the rest.
pub record AfterSnapshot (input : Option (List ℕ)) (P : List File → Option (List ℕ) → Type 0) : Type 0 where
  pub files : List File
  pub rest : Option (List ℕ)
  pub rules : IsSnapshot files
  pub text : WhereKnown input (λ bytes. BeginsWithSnapshot bytes files (unwrap_or rest []))
  pub known : WhereKnown input (λ bytes. is_some rest ≡ true)
  pub after : P files rest

-- the answer of the reference server with the default settings, to this capture, was written
abbrev pub WritesAnswer : Option (List ℕ) → Option (List ℕ) → List File → Option (List ℕ) → Type 0
WritesAnswer old new files capture = (outcome : Outcome) × Answers files default_choice.served capture old new outcome

-- What a fault of the run says of the input and of the output. One of the snapshot is its first and nothing was
-- written; one of the replay comes after a whole snapshot, and says what it says of the rest; memory may run out
-- between the two, and then nothing was written either. No other comes.
abbrev pub IsBundleFault : Port → Port → Fault → Type 0
IsBundleFault input output (Snapshot f) = IsForeseen IsFrontFault input.old.bytes f × (output.new ≡ output.old)
IsBundleFault input output (Replay f) = AfterSnapshot input.old.bytes (λ files capture.
    Leaves (reply_texts files default_choice.served) capture input.new.bytes output.old.bytes output.new.bytes f)
IsBundleFault input output Memory = output.new ≡ output.old
IsBundleFault input output other = ⊥

-- what the run says
abbrev pub BundleSays : Port → Port → Result Unit Fault → Type 0
BundleSays input output ran = OnOk ran (AfterSnapshot input.old.bytes (WritesAnswer output.old.bytes output.new.bytes))
    × IfErr ran (IsBundleFault input output)

-- where the bytes after the snapshot are known, they are the text of a capture
abbrev pub HoldsCapture : List File → Option (List ℕ) → Type 0
HoldsCapture files capture = WhereKnown capture IsTextOfSomeFormat

-- What a fault of the program says of its input: that of a snapshot or a capture is the first, but for a failed read
-- and out of memory. Other faults are that the replies can't be written to their end, and out of memory.
abbrev pub IsProgramFault : Option (List ℕ) → Fault → Type 0
IsProgramFault input (Snapshot f) = IsForeseen IsFrontFault input f
IsProgramFault input (Replay f) = AfterSnapshot input (λ files capture. IfCapture f
    (λ g. is_unforeseen_kind g.kind ≡ false → WhereKnown capture (λ bytes. IsFirstFault bytes g)))
IsProgramFault input (Write Replies) = Unit {0}
IsProgramFault input Memory = Unit {0}
IsProgramFault input other = ⊥
