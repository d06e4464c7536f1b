-- What stands where a pass over a capture stops.
use Rattle.std.proofs.Common.{◌≡◌, ◌⊎◌, ◌∙◌, ℕ, inl, inr, false, refl, sym, ap, subst, List, [], Option, Err, arith, unwrap_or}
use Rattle.devices.specs.Reference.{WhereKnown}
use Rattle.captures.specs.declared.version.Version.{Version}
use Rattle.captures.specs.declared.record.Record.{Record}
use Rattle.captures.specs.declared.progress.Progress.{Progress}
use Rattle.captures.specs.declared.capture_fault.CaptureFault.{CaptureFault}
use Rattle.captures.specs.declared.capture_fault.CaptureFaultKind.{CaptureFaultKind}
use Rattle.captures.specs.declared.capture_fault.CaptureFaultKind.TheVariants as kinds
use Rattle.captures.specs.declared.pass_fault.PassFault.{PassFault}
use Rattle.captures.specs.declared.pass_fault.PassFault.TheVariants.{Capture, TooMany, Memory, Write as Unwritten}
use Rattle.captures.specs.CaptureFaults.{failures_of, is_unforeseen_kind, IsFirstFault}
use Rattle.captures.specs.Readers.{ReaderAfter, Gave, FailsNext}
use Rattle.captures.specs.Passes.{RecordsRead, FaultsNext, StopsAt, LeavesBy, IsWriteOrMemory, is_memory, reported_as, pass_fault}
use Rattle.captures.specs.Passes.{reader_failures, writer_failures}

-- the records that a reader has given
abbrev pub reads_of : (v : Version) (text now : Option (List ℕ)) (start : ℕ) (records : List Record) (p : Progress) → ReaderAfter v text start records p now → RecordsRead text
reads_of v text now start records p fits = record {
  version = v;
  start = start;
  records = records;
  rest = unwrap_or now [];
  rules = fits.rules;
  begins = fits.taken;
  size = λ known. let l = fits.left known in omega arith;
}

-- the fault of the record after those that a reader has given
pub faults_next : (v : Version) (text now ahead : Option (List ℕ)) (start : ℕ) (records : List Record) (p q : Progress) (f : CaptureFault) → (fits : ReaderAfter v text start records p now)
    → Gave v text start records (Err f) q ahead → FailsNext v text start records (Err f) ahead
    → FaultsNext text ahead (reads_of v text now start records p fits) f
faults_next v text now ahead start records p q f fits gave fails =
    record { at = gave.0; fault = λ foreseen known. gave.1 known foreseen; failed = fails }

-- where a pass stops, the capture's fault is the first of its text
pub first_of_stop : (input ahead : Option (List ℕ)) (First : Type 0) (After : RecordsRead input → Type 0) (f : CaptureFault) → StopsAt input ahead First After f
    → is_unforeseen_kind f.kind ≡ false → WhereKnown input (λ bytes. IsFirstFault bytes f)
first_of_stop input ahead First After f (inl first) foreseen known = inl (first.0.fault foreseen known)
first_of_stop input ahead First After f (inr later) foreseen known =
    inr (later.0.version, later.0.start, later.0.records, later.1.fault foreseen known)

-- what is reported of a capture's fault
pub reports : (f : CaptureFault) → ((f.kind ≡ kinds.Memory) × (pass_fault f ≡ Memory)) ⊎ ((is_memory f.kind ≡ false) × (pass_fault f ≡ Capture f))
reports f = go f.kind refl
  where
    go : (k : CaptureFaultKind) → f.kind ≡ k → ((f.kind ≡ kinds.Memory) × (reported_as k f ≡ Memory)) ⊎ ((is_memory f.kind ≡ false) × (reported_as k f ≡ Capture f))
    go kinds.Cut e = inr (ap is_memory e, refl)
    go kinds.Header e = inr (ap is_memory e, refl)
    go kinds.Kind e = inr (ap is_memory e, refl)
    go kinds.Number e = inr (ap is_memory e, refl)
    go kinds.Tick e = inr (ap is_memory e, refl)
    go kinds.Connection e = inr (ap is_memory e, refl)
    go kinds.Ended e = inr (ap is_memory e, refl)
    go kinds.Tier e = inr (ap is_memory e, refl)
    go kinds.Length e = inr (ap is_memory e, refl)
    go kinds.Count e = inr (ap is_memory e, refl)
    go kinds.Trailing e = inr (ap is_memory e, refl)
    go kinds.TooLarge e = inr (ap is_memory e, refl)
    go kinds.Read e = inr (ap is_memory e, refl)
    go kinds.Memory e = inl (e, refl)

-- what stands where the capture has a fault: what is due there, or else a part of what is due
pub leaves_by : (input ahead : Option (List ℕ)) (First : Type 0) (After : RecordsRead input → Type 0) (Beyond : ℕ → Type 0) (Part : Type 0) (f : CaptureFault)
    → StopsAt input ahead First After f → Part → LeavesBy input ahead First After Beyond Part (pass_fault f)
leaves_by input ahead First After Beyond Part f stops part = elim (reports f) [
  | inl m ↦ subst (λ (u : PassFault). LeavesBy input ahead First After Beyond Part u) (sym m.1) part
  | inr c ↦ subst (λ (u : PassFault). LeavesBy input ahead First After Beyond Part u) (sym c.1) (c.0, stops)
]

-- what stands where a write failed, or memory ran out
pub leaves_part : (input ahead : Option (List ℕ)) (First : Type 0) (After : RecordsRead input → Type 0) (Beyond : ℕ → Type 0) (Part : Type 0) (f : PassFault)
    → IsWriteOrMemory f → Part → LeavesBy input ahead First After Beyond Part f
leaves_part input ahead First After Beyond Part (Capture f) own part = absurd own
leaves_part input ahead First After Beyond Part (TooMany n) own part = absurd own
leaves_part input ahead First After Beyond Part Unwritten own part = part
leaves_part input ahead First After Beyond Part Memory own part = part

-- how often the devices failed
pub reported_reads : (f : CaptureFault) → reader_failures (pass_fault f) ≡ failures_of f.kind
reported_reads f = elim (reports f) [
  | inl m ↦ ap reader_failures m.1 ∙ sym (ap failures_of m.0)
  | inr c ↦ ap reader_failures c.1
]

pub reported_writes : (f : CaptureFault) → writer_failures (pass_fault f) ≡ 0
reported_writes f = elim (reports f) [ inl m ↦ ap writer_failures m.1 | inr c ↦ ap writer_failures c.1 ]

pub own_reads : (f : PassFault) → IsWriteOrMemory f → reader_failures f ≡ 0
own_reads (Capture f) h = absurd h
own_reads (TooMany n) h = absurd h
own_reads Unwritten h = refl
own_reads Memory h = refl
