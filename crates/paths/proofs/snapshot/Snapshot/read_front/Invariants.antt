use Rattle.std.proofs.Common.{◌≡◌, ◌-◌, length}
use Rattle.paths.specs.Snapshots.{text_before_end, max_text_bytes, max_files}
use Rattle.devices.proofs.Taking.{Takes}
use Rattle.paths.proofs.snapshot.Snapshot.read_front.Given as goal

abbrev pub invariant-loop-files : goal.invariant-loop-files
invariant-loop-files g l = Takes l.fn.input.bytes max_text_bytes l.input.bytes l.left (text_before_end l.files) × (l.input.failures ≡ l.fn.input.failures)

abbrev pub decreases-loop-files : goal.decreases-loop-files
decreases-loop-files g l = max_files - length l.files
