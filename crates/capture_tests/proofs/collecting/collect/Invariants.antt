use Rattle.std.proofs.Common.{◌≡◌}
use Rattle.captures.specs.Readers.{ReaderAfter}
use Rattle.capture_tests.proofs.collecting.collect.Given as goal

abbrev pub invariant-loop-record : goal.invariant-loop-record
invariant-loop-record g l = ReaderAfter l.version l.fn.input.bytes l.start l.records.items l.reader.progress l.reader.input.now.bytes
    × (l.reader.input.ghost_name ≡ l.initial.reader.input.ghost_name) × (l.reader.input.now.failures ≡ l.initial.reader.input.now.failures)

abbrev pub decreases-loop-record : goal.decreases-loop-record
decreases-loop-record g l = l.reader.progress.capacity
