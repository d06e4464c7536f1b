-- What a run does at its devices, and what a buffer before one of them leaves there.
use Rattle.devices.specs.Devices.{Device, AppendsProperPrefix, fresh}
use Rattle.std.specs.Prelude.{◌≡◌, ◌⊎◌, ℕ, Bool, true, false, not, is_ok, List, ◌++◌, length, take, Option, Some, None}
use Rattle.std.specs.Prelude.{Result, Ok, Err, OnOk}
use Rattle.std.specs.Io.KnownBytes.{Keeps}
use Rattle.captures.specs.Passes.{AttributesReads}
use Rattle.faults.specs.declared.fault.Fault.{Fault}
use Rattle.faults.specs.declared.fault.Fault.TheVariants.{Replay, Upgrade, Slim, Write, Memory}
use Rattle.faults.specs.declared.fault.Place.{Place}
use Rattle.faults.specs.declared.fault.Place.TheVariants.{Replies, Report, Output}
use Rattle.captures.specs.declared.pass_fault.PassFault.TheVariants as passes

-- What a writer at the end of a run shows.

-- how often it failed: after a failure it isn't asked again
abbrev pub once : Bool → ℕ
once true = 1
once false = 0

-- a device before a call and after it
pub record Port : Type 0 where
  pub old : Device
  pub new : Device

abbrev pub port : Device → Device → Port
port old new = record { old = old; new = new }

-- of known bytes those in the place of what it held before
abbrev pub front_of : Option (List ℕ) → Option (List ℕ) → Option (List ℕ)
front_of (Some initial) (Some now) = Some (take (length initial) now)
front_of initial now = None

-- what it held before is still there, and after it a prefix of what was to follow: where the bytes are known
abbrev pub IsPrefix : Option (List ℕ) → Option (List ℕ) → Option (List ℕ) → Type 0
IsPrefix None whole now = Unit {0}
IsPrefix (Some initial) (Some whole) (Some now) = (more rest : List ℕ) × (now ≡ initial ++ more) × (whole ≡ now ++ rest)
IsPrefix (Some initial) whole now = ⊥

-- The buffer before a device was to hold `whole` after the run. Either it was due, and all of it stands at the device;
-- or it wasn't due any more, and a prefix stands; or it was due and a write failed, which is then the fault, and a
-- prefix stands.
pub data Finishes (due : Bool) (place : Place) (old whole new : Option (List ℕ)) (ran reported : Result Unit Fault)
    : Type 0 where
  Whole : due ≡ true → reported ≡ ran → Keeps whole new → Finishes due place old whole new ran reported
  Incomplete : due ≡ false → reported ≡ ran → IsPrefix old whole new → Finishes due place old whole new ran reported
  CutShort : due ≡ true → reported ≡ Err (Write place) → IsPrefix old whole new
      → Finishes due place old whole new ran reported

-- a write failed at this place in a run that came to this fault
abbrev pub is_failed_write : Place → Fault → Bool
is_failed_write Replies (Replay passes.Write) = true
is_failed_write Replies (Write Replies) = true
is_failed_write Output (Upgrade passes.Write) = true
is_failed_write Output (Slim passes.Write) = true
is_failed_write Output (Write Output) = true
is_failed_write Report (Write Report) = true
is_failed_write place other = false

-- whether it is reported that a write failed at this place
abbrev pub reports_write : Place → Result Unit Fault → Bool
reports_write place (Ok done) = false
reports_write place (Err f) = is_failed_write place f

-- no other write is made where one failed
abbrev pub is_due : Place → Result Unit Fault → Bool
is_due place ran = not (reports_write place ran)

-- A run over one output, whose port at the buffer is `port (fresh old) whole`, came to `ran`, of which P holds.
pub record AtDevice (place : Place) (P : Port → Result Unit Fault → Type 0) (old new : Option (List ℕ))
    (reported : Result Unit Fault) : Type 0 where
  pub ran : Result Unit Fault
  pub whole : Device
  pub says : P (port (fresh old) whole) ran
  pub stands : Finishes (is_due place ran) place old whole.bytes new ran reported

-- there was no memory for the buffers, and nothing was written
abbrev pub Refused : Option (List ℕ) → Option (List ℕ) → Result Unit Fault → Type 0
Refused old new reported = (reported ≡ Err Memory) × Keeps old new

-- what a run with a buffer before its output leaves there
abbrev pub Runs : Place → (Port → Result Unit Fault → Type 0) → Option (List ℕ) → Option (List ℕ)
    → Result Unit Fault → Type 0
Runs place P old new reported = Refused old new reported ⊎ AtDevice place P old new reported

-- the same of a run that holds its input, before it and after it; where it was refused memory, it is as it was
abbrev pub RunsJob : {J : Type 0} → Place → (J → J → Port → Result Unit Fault → Type 0) → J → J → Option (List ℕ)
    → Option (List ℕ) → Result Unit Fault → Type 0
RunsJob place P before after old new reported =
    (Refused old new reported × (after ≡ before)) ⊎ AtDevice place (P before after) old new reported

-- what a run says of its output that reads an input of these bytes, whatever it leaves of them
abbrev pub Reads : (Port → Port → Result Unit Fault → Type 0) → Option (List ℕ) → Port → Result Unit Fault → Type 0
Reads P bytes output ran = (left : Device) × P (port (fresh bytes) left) output ran

-- a read that failed may go unreported where what a buffer held can't be written, and where memory runs out
abbrev pub is_cut : Fault → Bool
is_cut (Write place) = true
is_cut Memory = true
is_cut other = false

-- what a run says, and that its reader is reported where it failed, but where that may go unreported
abbrev pub Attributing : (Fault → ℕ) → (Fault → Bool) → (Port → Port → Result Unit Fault → Type 0) → Port → Port
    → Result Unit Fault → Type 0
Attributing attributed unreported P input output ran =
    P input output ran × AttributesReads attributed unreported input.old.failures input.new.failures ran

-- What is reported of what a run came to: this; but where it is a failed write of this place and the writer didn't
-- fail, there was no memory for what was to wait before it.
pub data IsReported (place : Place) (failed : Bool) (ran reported : Result Unit Fault) : Type 0 where
  Same : reported ≡ ran → (reports_write place ran ≡ true → failed ≡ true) → IsReported place failed ran reported
  Lacks : reported ≡ Err Memory → reports_write place ran ≡ true → failed ≡ false → IsReported place failed ran reported

-- P holds of what is reported, or of a failed write of this place that is reported as out of memory
abbrev pub Reports : Place → (Result Unit Fault → Type 0) → Result Unit Fault → Type 0
Reports place P reported = P reported
    ⊎ ((ran : Result Unit Fault) × P ran × (reports_write place ran ≡ true) × (reported ≡ Err Memory))

-- the writer at this place is reported only where it failed, and didn't fail at Ok
abbrev pub AttributesWrites : Place → Bool → Result Unit Fault → Type 0
AttributesWrites place failed reported =
    (reports_write place reported ≡ true → failed ≡ true) × OnOk reported (failed ≡ false)

-- The same of a run over the devices of the replies and of the report. Whatever the fault, no more of the report is
-- due.
pub record AtDevices (P : Port → Port → Result Unit Fault → Type 0) (old new out_old out_new : Option (List ℕ))
    (reported : Result Unit Fault) : Type 0 where
  pub ran : Result Unit Fault
  pub whole : Device
  pub out_whole : Device
  pub rest : Result Unit Fault
  pub says : P (port (fresh old) whole) (port (fresh out_old) out_whole) ran
  pub replies : Finishes (is_due Replies ran) Replies old whole.bytes new ran rest
  pub report : Finishes (is_ok rest) Report out_old out_whole.bytes out_new rest reported

abbrev pub RunsAtBoth : (Port → Port → Result Unit Fault → Type 0) → Option (List ℕ) → Option (List ℕ)
    → Option (List ℕ) → Option (List ℕ) → Result Unit Fault → Type 0
RunsAtBoth P old new out_old out_new reported = (Refused old new reported × Refused out_old out_new reported)
    ⊎ AtDevices P old new out_old out_new reported

-- what a fault of the report says of its text and of the output: no memory for it, or a failed write
abbrev pub IsReportFault : List ℕ → Port → Fault → Type 0
IsReportFault text output (Write Report) = AppendsProperPrefix output.old.bytes output.new.bytes text
IsReportFault text output Memory = output.new ≡ output.old
IsReportFault text output other = ⊥
