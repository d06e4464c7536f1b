use Rattle.std.proofs.Common.{◌≡◌, List}
use Rattle.captures.specs.declared.record.Record.{Record}
use Rattle.captures.specs.Readers.{ReaderAfter}
use Rattle.arrivals.specs.Reference.{Arrival}
use Rattle.inspection.specs.Running.{Holds}
use Rattle.inspection.proofs.inspecting.inspect.Given as goal

-- some records were read, and what they hold is kept
abbrev pub invariant-loop-next : goal.invariant-loop-next
invariant-loop-next g l =
    ((records : List Record) × (arrivals : List Arrival)
    × ReaderAfter l.capture.progress.version l.fn.reader.bytes l.capture.progress.start records l.capture.progress l.capture.input.now.bytes
    × Holds records arrivals l.connections l.found)
    × (l.capture.input.ghost_name ≡ l.initial.capture.input.ghost_name) × (l.capture.input.now.failures ≡ l.fn.reader.failures)

abbrev pub decreases-loop-next : goal.decreases-loop-next
decreases-loop-next g l = l.capture.progress.capacity
