-- What an inspection comes to: the figures of the whole capture, or those of the records before its fault.
use Rattle.std.specs.Prelude.{◌≡◌, ◌≢◌, ℕ, List, Option}
use Rattle.captures.specs.declared.capture_fault.CaptureFault.{CaptureFault}
use Rattle.captures.specs.declared.capture_fault.CaptureFaultKind.{CaptureFaultKind}
use Rattle.captures.specs.declared.capture_fault.CaptureFaultKind.TheVariants as kinds
use Rattle.captures.specs.Reference.{WholeCapture, used_once}
use Rattle.captures.specs.CaptureFaults.{failures_of}
use Rattle.captures.specs.Passes.{RecordsRead, FaultsAtOnce, FaultsNext}
use Rattle.arrivals.specs.Reference.{Arrival, AreArrivals}
use Rattle.inspection.specs.declared.inspection.Inspection.{Inspection}
use Rattle.inspection.specs.declared.inspect_fault.InspectFault.{InspectFault}
use Rattle.inspection.specs.declared.inspect_fault.InspectFault.TheVariants.{FirstLine, Stopped, Memory}
use Rattle.inspection.specs.Figures.{AreFigures}

-- The input is the text of a capture or of traffic, in this format and with this start, and the figures are those of
-- its records and arrivals.
pub record HoldsAll (input : Option (List ℕ)) (i : Inspection) : Type 0 where
  pub capture : WholeCapture input
  pub arrivals : List Arrival
  pub arrived : AreArrivals (used_once capture.records) arrivals
  pub version : i.version ≡ capture.version
  pub start : i.start ≡ capture.start
  pub figures : AreFigures capture.records arrivals i

-- The inspection stopped at the fault of the record after these, which were read whole. The figures are theirs.
pub record HoldsBefore (input ahead : Option (List ℕ)) (i : Inspection) (f : CaptureFault) : Type 0 where
  pub read : RecordsRead input
  pub faults : FaultsNext input ahead read f
  pub arrivals : List Arrival
  pub arrived : AreArrivals (used_once read.records) arrivals
  pub version : i.version ≡ read.version
  pub start : i.start ≡ read.start
  pub figures : AreFigures read.records arrivals i

-- what the faults have to say: one of the capture is never that of a reader which is out of memory
abbrev pub Stops : Option (List ℕ) → Option (List ℕ) → InspectFault → Type 0
Stops input ahead (FirstLine f) = (f.kind ≢ kinds.Memory) × FaultsAtOnce input ahead f
Stops input ahead (Stopped held f) = (f.kind ≢ kinds.Memory) × HoldsBefore input ahead held f
Stops input ahead Memory = Unit {0}

-- where the reader is out of memory, the call is
abbrev pub reported_as : CaptureFaultKind → Inspection → CaptureFault → InspectFault
reported_as kinds.Memory held f = Memory
reported_as other held f = Stopped held f

abbrev pub stop_of : Inspection → CaptureFault → InspectFault
stop_of held f = reported_as f.kind held f

-- how often the reader failed in a call that answered this fault
abbrev pub reader_failures : InspectFault → ℕ
reader_failures (FirstLine f) = failures_of f.kind
reader_failures (Stopped held f) = failures_of f.kind
reader_failures Memory = 0
