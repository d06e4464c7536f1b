-- How often a device is reported: once at most.
use Rattle.std.proofs.Common.{◌≡◌, ◌⊎◌, inl, inr, refl, ℕ, true, Result, Ok, Err}
use Rattle.captures.specs.CaptureFaults as captures
use Rattle.captures.specs.declared.capture_fault.CaptureFaultKind.{CaptureFaultKind}
use Rattle.captures.specs.declared.capture_fault.CaptureFaultKind.TheVariants as capture_kinds
use Rattle.captures.specs.declared.pass_fault.PassFault.{PassFault}
use Rattle.captures.specs.declared.pass_fault.PassFault.TheVariants as passes
use Rattle.captures.specs.Passes.{AttributesReads, reader_failures as pass_failures}
use Rattle.paths.specs.SnapshotFaults as snapshots
use Rattle.paths.specs.declared.snapshot_fault.SnapshotFaultKind.{SnapshotFaultKind}
use Rattle.paths.specs.declared.snapshot_fault.SnapshotFaultKind.TheVariants as snapshot_kinds
use Rattle.faults.specs.declared.fault.Fault.{Fault}
use Rattle.faults.specs.declared.fault.Fault.TheVariants.{Snapshot, Replay, Upgrade, Slim}
use Rattle.program.specs.declared.wanted.Wanted.{Wanted}
use Rattle.runs.specs.Failures.{reader_failures, capture_failures}
use Rattle.program.specs.Replays.{snapshot_failures, is_unreported, is_unreported_at_files}

capture_once : (k : CaptureFaultKind) → (captures.failures_of k ≡ 0) ⊎ (captures.failures_of k ≡ 1)
capture_once capture_kinds.Read = inr refl
capture_once other = inl refl

snapshot_once : (k : SnapshotFaultKind) → (snapshots.failures_of k ≡ 0) ⊎ (snapshots.failures_of k ≡ 1)
snapshot_once snapshot_kinds.Read = inr refl
snapshot_once other = inl refl

pass_once : (f : PassFault) → (pass_failures f ≡ 0) ⊎ (pass_failures f ≡ 1)
pass_once (passes.Capture f) = capture_once f.kind
pass_once other = inl refl

-- the reader of a run
pub reader_once : (f : Fault) → (reader_failures f ≡ 0) ⊎ (reader_failures f ≡ 1)
reader_once (Snapshot f) = snapshot_once f.kind
reader_once (Replay f) = pass_once f
reader_once (Upgrade f) = pass_once f
reader_once (Slim f) = pass_once f
reader_once other = inl refl

-- those of a run with a report
pub snapshot_reader_once : (f : Fault) → (snapshot_failures f ≡ 0) ⊎ (snapshot_failures f ≡ 1)
snapshot_reader_once (Snapshot f) = snapshot_once f.kind
snapshot_reader_once other = inl refl

pub capture_reader_once : (f : Fault) → (capture_failures f ≡ 0) ⊎ (capture_failures f ≡ 1)
capture_reader_once (Replay f) = pass_once f
capture_reader_once other = inl refl

-- what may go unreported in the run may in the run over files
pub unreported_at_files : (wanted : Wanted) (at left : ℕ) (ran : Result Unit Fault) → AttributesReads capture_failures (is_unreported wanted) at left ran → AttributesReads capture_failures (is_unreported_at_files wanted) at left ran
unreported_at_files wanted at left (Ok done) counts = counts
unreported_at_files wanted at left (Err f) (inl is) = inl is
unreported_at_files wanted at left (Err f) (inr is) = inr (weaker f is.0, is.1)
  where
    weaker : (f : Fault) → is_unreported wanted f ≡ true → is_unreported_at_files wanted f ≡ true
    weaker (Replay f) unreported = unreported
    weaker other unreported = cc
