-- A pass over a capture: it reads record by record, and writes as it reads. Where it stopped at the capture's fault.
use Rattle.std.specs.Prelude.{◌≡◌, ℕ, ◌+◌, ◌≤◌, ◌⊎◌, Bool, true, false, List, ◌++◌}
use Rattle.std.specs.Prelude.{length, Option, Result, Err, MatchResult}
use Rattle.devices.specs.Reference.{WhereKnown}
use Rattle.captures.specs.declared.record.Record.{Record}
use Rattle.captures.specs.declared.version.Version.{Version}
use Rattle.captures.specs.declared.capture_fault.CaptureFault.{CaptureFault}
use Rattle.captures.specs.declared.capture_fault.CaptureFaultKind.{CaptureFaultKind}
use Rattle.captures.specs.declared.capture_fault.CaptureFaultKind.TheVariants as kinds
use Rattle.captures.specs.declared.pass_fault.PassFault.{PassFault}
use Rattle.captures.specs.declared.pass_fault.PassFault.TheVariants.{Capture, TooMany, Memory, Write as Unwritten}
use Rattle.captures.specs.Reference.{format_of, IsCapture, text_before_stop}
use Rattle.captures.specs.CaptureFaults.{failures_of, is_unforeseen_kind, IsHeaderFault, IsFaultAfter}
use Rattle.captures.specs.Readers.{FailsFirst, FailsNext}

-- Records that were read: they keep the rules, and their texts are a prefix of the input, within the limit.
pub record RecordsRead (input : Option (List ℕ)) : Type 0 where
  pub version : Version
  pub start : ℕ
  pub records : List Record
  pub rest : List ℕ
  pub rules : IsCapture version start records
  pub begins : WhereKnown input (λ bytes. bytes ≡ text_before_stop version start records ++ rest)
  pub size : WhereKnown input
      (λ bytes. length (text_before_stop version start records) ≤ (format_of version).max_text_bytes)

-- The fault is that of the first line. Where it was a read that failed, what was read is no whole line; `ahead` is what
-- of the input wasn't read, here and below.
pub record FaultsAtOnce (input ahead : Option (List ℕ)) (f : CaptureFault) : Type 0 where
  pub at : f.at ≡ 0
  pub fault : is_unforeseen_kind f.kind ≡ false → WhereKnown input (λ bytes. IsHeaderFault bytes f)
  pub failed : FailsFirst input f ahead

-- The fault is that of the record after these. Where it was a read that failed, nothing that was read after them is a
-- whole record.
pub record FaultsNext (input ahead : Option (List ℕ)) (read : RecordsRead input) (f : CaptureFault) : Type 0 where
  pub at : f.at ≡ length read.records + 1
  pub fault : is_unforeseen_kind f.kind ≡ false
      → WhereKnown input (λ bytes. IsFaultAfter read.version bytes read.start read.records f)
  pub failed : FailsNext read.version input read.start read.records (Err f) ahead

-- A pass stopped at a fault of the capture: in the first line, where First holds of what it has written, or at the
-- record after those that were read whole, where After holds of these.
abbrev pub StopsAt : (input ahead : Option (List ℕ)) → Type 0 → (RecordsRead input → Type 0) → CaptureFault → Type 0
StopsAt input ahead First After f = (FaultsAtOnce input ahead f × First)
    ⊎ ((read : RecordsRead input) × FaultsNext input ahead read f × After read)

-- where the reader is out of memory, the pass is
abbrev pub reported_as : CaptureFaultKind → CaptureFault → PassFault
reported_as kinds.Memory f = Memory
reported_as other f = Capture f

abbrev pub pass_fault : CaptureFault → PassFault
pass_fault f = reported_as f.kind f

abbrev pub is_memory : CaptureFaultKind → Bool
is_memory kinds.Memory = true
is_memory other = false

-- a failed write, or out of memory
abbrev pub IsWriteOrMemory : PassFault → Type 0
IsWriteOrMemory Unwritten = Unit {0}
IsWriteOrMemory Memory = Unit {0}
IsWriteOrMemory other = ⊥

-- What stands where a pass stopped, by its fault: at the capture's, which is never that of a reader out of memory, as
-- `StopsAt` says; at a message too many, Beyond, by its number; at a failed write and out of memory, Part.
abbrev pub LeavesBy : (input ahead : Option (List ℕ)) → Type 0 → (RecordsRead input → Type 0) → (ℕ → Type 0) → Type 0
    → PassFault → Type 0
LeavesBy input ahead First After Beyond Part (Capture f) =
    (is_memory f.kind ≡ false) × StopsAt input ahead First After f
LeavesBy input ahead First After Beyond Part (TooMany number) = Beyond number
LeavesBy input ahead First After Beyond Part Unwritten = Part
LeavesBy input ahead First After Beyond Part Memory = Part

-- how often the reader and the writer failed in a call that answered this fault
abbrev pub reader_failures : PassFault → ℕ
reader_failures (Capture f) = failures_of f.kind
reader_failures other = 0

abbrev pub writer_failures : PassFault → ℕ
writer_failures Unwritten = 1
writer_failures other = 0

-- where the fault isn't the capture's, a read that failed before it may go unreported
abbrev pub leaves_reads_unreported : PassFault → Bool
leaves_reads_unreported (Capture f) = false
leaves_reads_unreported other = true

-- the count of a reader rose by the failures of it in the answer; or the answer may leave a failed read unreported,
-- and the reader failed once
abbrev pub AttributesReads : {X E : Type 0} → (E → ℕ) → (E → Bool) → ℕ → ℕ → Result X E → Type 0
AttributesReads attributed unreported old new r = MatchResult r (λ _. new ≡ old)
    (λ e. (new ≡ old + attributed e) ⊎ ((unreported e ≡ true) × (new ≡ old + 1)))
