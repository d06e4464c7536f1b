-- How often a device failed in a run that answered a fault.
use Rattle.std.specs.Prelude.{ℕ}
use Rattle.captures.specs.Passes as passes
use Rattle.paths.specs.SnapshotFaults.{failures_of}
use Rattle.faults.specs.declared.fault.Fault.{Fault}
use Rattle.faults.specs.declared.fault.Fault.TheVariants.{Snapshot, Replay, Upgrade, Slim, Write}
use Rattle.faults.specs.declared.fault.Place.TheVariants.{Report}

-- the reader and the writer
abbrev pub reader_failures : Fault → ℕ
reader_failures (Snapshot f) = failures_of f.kind
reader_failures (Replay f) = passes.reader_failures f
reader_failures (Upgrade f) = passes.reader_failures f
reader_failures (Slim f) = passes.reader_failures f
reader_failures other = 0

abbrev pub writer_failures : Fault → ℕ
writer_failures (Replay f) = passes.writer_failures f
writer_failures (Upgrade f) = passes.writer_failures f
writer_failures (Slim f) = passes.writer_failures f
writer_failures other = 0

-- those of a run with a report
abbrev pub capture_failures : Fault → ℕ
capture_failures (Replay f) = passes.reader_failures f
capture_failures other = 0

abbrev pub report_failures : Fault → ℕ
report_failures (Write Report) = 1
report_failures other = 0
