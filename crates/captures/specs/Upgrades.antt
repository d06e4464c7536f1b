-- A text becomes one of a later format, and what has been written of it where the call stops.
use Rattle.std.specs.Prelude.{◌≡◌, ◌≢◌, ℕ, ◌⊎◌, List, Option}
use Rattle.std.specs.Io.KnownBytes.{Appends}
use Rattle.devices.specs.Devices.{AppendsPrefix}
use Rattle.captures.specs.declared.version.Version.{Version}
use Rattle.captures.specs.declared.version.Version.TheVariants.{One, Two, Traffic}
use Rattle.captures.specs.declared.record.Record.{Record}
use Rattle.captures.specs.declared.capture_fault.CaptureFault.{CaptureFault}
use Rattle.captures.specs.declared.capture_fault.CaptureFaultKind.{CaptureFaultKind}
use Rattle.captures.specs.declared.capture_fault.CaptureFaultKind.TheVariants as kinds
use Rattle.captures.specs.declared.pass_fault.PassFault.{PassFault}
use Rattle.captures.specs.declared.pass_fault.PassFault.TheVariants.{Capture, Memory, Write as Unwritten}
use Rattle.captures.specs.Reference.{text_before_stop, capture_text, IsCaptureText, WholeCapture}
use Rattle.captures.specs.CaptureFaults.{failures_of}
use Rattle.captures.specs.Passes.{LeavesBy, RecordsRead, StopsAt}

-- the later of two formats: of the one asked for and the one that a text is in
abbrev pub later : Version → Version → Version
later One w = w
later Two One = Two
later Two Two = Two
later Two Traffic = Traffic
later Traffic w = Traffic

-- The upgraded text has the same start and the same records, in the later of its format and the one asked for.
abbrev pub upgraded : Version → Version → ℕ → List Record → List ℕ
upgraded to v start records = capture_text (later to v) start records

-- the one text is the upgraded text of the other
pub record IsUpgrade (to : Version) (old new : List ℕ) : Type 0 where
  pub version : Version
  pub start : ℕ
  pub records : List Record
  pub capture : IsCaptureText version old start records
  pub text : new ≡ upgraded to version start records

-- The input is a capture's text, and the upgraded text of its records was written.
pub record Upgrades (to : Version) (input old new : Option (List ℕ)) : Type 0 where
  pub capture : WholeCapture input
  pub written : Appends old new (upgraded to capture.version capture.start capture.records)

-- The upgrade stopped at the capture's fault: it has written the first line and the whole records before it, and
-- nothing where that is the first line.
abbrev pub Stops : Version → (input ahead old new : Option (List ℕ)) → CaptureFault → Type 0
Stops to input ahead old new f = StopsAt input ahead (new ≡ old)
    (λ read. Appends old new (text_before_stop (later to read.version) read.start read.records)) f

-- An upgrade that was cut short has written a prefix of what was due: of the last line only where the input is a
-- capture's text.
abbrev pub IsCutShort : Version → (input old new : Option (List ℕ)) → Type 0
IsCutShort to input old new = ((read : RecordsRead input)
    × AppendsPrefix old new (text_before_stop (later to read.version) read.start read.records))
    ⊎ ((whole : WholeCapture input)
    × AppendsPrefix old new (upgraded to whole.version whole.start whole.records))

-- What stands where an upgrade stopped, by its fault. It looks at no message, so none is too many.
abbrev pub Leaves : Version → (input ahead old new : Option (List ℕ)) → PassFault → Type 0
Leaves to input ahead old new f = LeavesBy input ahead (new ≡ old)
    (λ read. Appends old new (text_before_stop (later to read.version) read.start read.records))
    (λ number. ⊥) (IsCutShort to input old new) f
