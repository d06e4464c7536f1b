use Rattle.std.proofs.Common.{◌≡◌, ◌≤◌, ◌+◌, List, length}
use Rattle.std.specs.Io.KnownBytes.{Appends}
use Rattle.captures.specs.Upgrades.{later}
use Rattle.captures.specs.Captures.{sizes_of}
use Rattle.captures.specs.Reference.{format_of}
use Rattle.captures.specs.declared.record.Record.{Record}
use Rattle.captures.specs.Readers.{ReaderAfter}
use Rattle.arrivals.specs.Reference.{Arrival}
use Rattle.slim.specs.Slims.{slim_before_stop, slimmed}
use Rattle.slim.specs.Steps.{Stands}
use Rattle.slim.proofs.slimming.slim.Given as goal

-- some records were read, their slim records are written, and so much room is left
abbrev pub invariant-loop-next : goal.invariant-loop-next
invariant-loop-next g l =
    ((records : List Record) × (arrivals : List Arrival)
    × ReaderAfter l.capture.progress.version l.fn.reader.bytes l.capture.progress.start records l.capture.progress l.capture.input.now.bytes
    × Stands l.fn.queries records arrivals l.connections
    × Appends l.fn.writer.bytes l.writer.bytes (slim_before_stop l.fn.queries (later l.fn.to l.capture.progress.version) l.capture.progress.start records arrivals)
    × (l.count ≡ length (slimmed l.fn.queries records arrivals)) × (l.count ≤ sizes_of records + length records)
    × (l.at ≡ length records + 1)
    × (length (slim_before_stop l.fn.queries (later l.fn.to l.capture.progress.version) l.capture.progress.start records arrivals) + l.capacity ≡ (format_of (later l.fn.to l.capture.progress.version)).max_text_bytes))
    × (l.capture.input.ghost_name ≡ l.initial.capture.input.ghost_name) × (l.capture.input.now.failures ≡ l.fn.reader.failures) × (l.writer.failures ≡ l.fn.writer.failures)

abbrev pub decreases-loop-next : goal.decreases-loop-next
decreases-loop-next g l = l.capture.progress.capacity
