-- The run that writes what a capture holds.
use Rattle.std.specs.Prelude.{◌≡◌, ◌≢◌, ◌⊎◌, ℕ, Bool, true, false, List, Option, Result, OnOk, IfErr}
use Rattle.std.specs.Io.KnownBytes.{Appends}
use Rattle.captures.specs.declared.capture_fault.CaptureFault.{CaptureFault}
use Rattle.captures.specs.declared.capture_fault.CaptureFaultKind.TheVariants as kinds
use Rattle.captures.specs.CaptureFaults.{is_unforeseen_kind, IsFirstFault}
use Rattle.inspection.specs.declared.inspection.Inspection.{Inspection}
use Rattle.captures.specs.Passes.{FaultsAtOnce}
use Rattle.inspection.specs.Inspections.{HoldsAll, HoldsBefore}
use Rattle.inspection.specs.Texts.{inspection_text}
use Rattle.captures.specs.declared.pass_fault.PassFault.TheVariants.{Capture}
use Rattle.devices.specs.Reference.{WhereKnown}
use Rattle.faults.specs.declared.fault.Fault.{Fault}
use Rattle.faults.specs.declared.fault.Fault.TheVariants.{Replay, Write, Memory}
use Rattle.faults.specs.declared.fault.Place.TheVariants.{Report}
use Rattle.devices.specs.Devices.{AppendsProperPrefix}
use Rattle.runs.specs.Ports.{Port}

-- the figures of the whole capture were written
abbrev pub Inspects : Port → Port → Type 0
Inspects input output = (i : Inspection) × HoldsAll input.old.bytes i
    × Appends output.old.bytes output.new.bytes (inspection_text i)

-- The capture has a fault, and the figures of the whole records before it were written: nothing, where it is in the
-- first line.
abbrev pub InspectsBefore : Port → Port → CaptureFault → Type 0
InspectsBefore input output f = (f.kind ≢ kinds.Memory)
    × ((FaultsAtOnce input.old.bytes input.new.bytes f × (output.new ≡ output.old))
    ⊎ ((i : Inspection) × HoldsBefore input.old.bytes input.new.bytes i f
    × Appends output.old.bytes output.new.bytes (inspection_text i)))

-- the figures that are due: those of the whole capture, or of the records before its fault
abbrev pub AreDue : Port → Inspection → Type 0
AreDue input i = HoldsAll input.old.bytes i ⊎ ((f : CaptureFault) × HoldsBefore input.old.bytes input.new.bytes i f)

-- What a fault of the run says of the input and of the output. One of the capture comes after its figures; it is
-- reported as a replay reports it. Else a write failed, and a prefix of what was due stands; or there was no memory,
-- and nothing was written. None else comes.
abbrev pub IsInspectFault : Port → Port → Fault → Type 0
IsInspectFault input output (Replay (Capture f)) = InspectsBefore input output f
IsInspectFault input output (Write Report) = (i : Inspection) × AreDue input i
    × AppendsProperPrefix output.old.bytes output.new.bytes (inspection_text i)
IsInspectFault input output Memory = output.new ≡ output.old
IsInspectFault input output other = ⊥

-- what the inspection says
abbrev pub InspectSays : Port → Port → Result Unit Fault → Type 0
InspectSays input output ran = OnOk ran (Inspects input output) × IfErr ran (IsInspectFault input output)

-- What a fault of the program says of its input: that of a capture is the first, but for a failed read. Other faults
-- are that the output can't be written to its end, and out of memory.
abbrev pub IsInspectFilesFault : Option (List ℕ) → Fault → Type 0
IsInspectFilesFault input (Replay (Capture f)) =
    is_unforeseen_kind f.kind ≡ false → WhereKnown input (λ bytes. IsFirstFault bytes f)
IsInspectFilesFault input (Write Report) = Unit {0}
IsInspectFilesFault input Memory = Unit {0}
IsInspectFilesFault input other = ⊥

-- a read that failed may go unreported where the figures before it can't be written, and where memory runs out
abbrev pub is_unreported : Fault → Bool
is_unreported (Write Report) = true
is_unreported Memory = true
is_unreported other = false
