-- From what an inspection says to what the program says.
use Rattle.devices.specs.Devices.{fresh}
use Rattle.devices.specs.Reference.{WhereKnown}
use Rattle.std.proofs.Common.{◌≡◌, inl, inr, ℕ, List, Option, false, Result, OnOk, IfErr}
use Rattle.captures.specs.declared.capture_fault.CaptureFault.{CaptureFault}
use Rattle.captures.specs.CaptureFaults.{is_unforeseen_kind, IsFirstFault}
use Rattle.inspection.specs.declared.inspection.Inspection.{Inspection}
use Rattle.inspection.specs.Texts.{inspection_text}
use Rattle.captures.specs.declared.pass_fault.PassFault.TheVariants as replays
use Rattle.faults.specs.declared.fault.Fault.{Fault}
use Rattle.faults.specs.declared.fault.Fault.TheVariants.{Replay, Write, Memory}
use Rattle.faults.specs.declared.fault.Place.TheVariants as places
use Rattle.runs.specs.Inspecting.{InspectsBefore, AreDue, IsInspectFault, IsInspectFilesFault, InspectSays}
use Rattle.runs.specs.Ports.{Port, Reads, port, IsReportFault}
use Rattle.runs.specs.Upgrading.{IsTextOfSomeFormat}
use Rattle.runs.proofs.Settling.{ok_weaker, fault_weaker}

-- the text that was due wasn't written
pub due_fault : (input output : Port) (i : Inspection) (f : Fault) → AreDue input i → IsReportFault (inspection_text i) output f → IsInspectFault input output f
due_fault input output i (Write places.Report) due says = (i, due, says)
due_fault input output i Memory due says = says
due_fault input output i other due says = absurd says

-- where an inspection stops, the capture's fault is the first of its text
first_of_inspection : (input output : Port) (f : CaptureFault) → InspectsBefore input output f
    → is_unforeseen_kind f.kind ≡ false → WhereKnown input.old.bytes (λ bytes. IsFirstFault bytes f)
first_of_inspection input output f (memory, inl first) foreseen = λ known. inl (first.0.fault foreseen known)
first_of_inspection input output f (memory, inr later) foreseen = λ known. (let held = later.1 in inr (held.read.version, held.read.start, held.read.records, held.faults.fault foreseen known))

-- a fault of the run is one of the program
reported_of_inspection : (input output : Port) (f : Fault) → IsInspectFault input output f → IsInspectFilesFault input.old.bytes f
reported_of_inspection input output (Replay (replays.Capture f)) says = first_of_inspection input output f says
reported_of_inspection input output (Write places.Report) says = tt
reported_of_inspection input output Memory says = tt
reported_of_inspection input output other says = absurd says

-- what the run says is what the program says
pub inspected_fault : (input : Option (List ℕ)) (output : Port) (ran : Result Unit Fault) → Reads InspectSays input output ran → IfErr ran (IsInspectFilesFault input)
inspected_fault input output ran says = fault_weaker _ _ ran (reported_of_inspection (port (fresh input) says.0) output) says.1.1

-- where it came to its end, its input was a capture's text
pub inspected_ok : (input : Option (List ℕ)) (output : Port) (ran : Result Unit Fault) → Reads InspectSays input output ran → OnOk ran (WhereKnown input IsTextOfSomeFormat)
inspected_ok input output ran says = ok_weaker _ _ ran (λ inspects known. (let c = inspects.1.capture in (c.version, c.start, c.records, c.text known))) says.1.0
