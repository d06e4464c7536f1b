use Rattle.std.proofs.Common.{◌≡◌, List, length}
use Rattle.std.specs.Io.KnownBytes.{Appends}
use Rattle.captures.specs.Upgrades.{later}
use Rattle.captures.specs.declared.record.Record.{Record}
use Rattle.captures.specs.Reference.{text_before_stop}
use Rattle.captures.specs.Readers.{ReaderAfter}
use Rattle.captures.proofs.upgrading.upgrade.Given as goal

-- some records were read, and they are written
abbrev pub invariant-loop-next : goal.invariant-loop-next
invariant-loop-next g l =
    ((records : List Record) × ReaderAfter l.capture.progress.version l.fn.reader.bytes l.capture.progress.start records l.capture.progress l.capture.input.now.bytes
    × Appends l.fn.writer.bytes l.writer.bytes (text_before_stop (later l.fn.to l.capture.progress.version) l.capture.progress.start records) × (l.count ≡ length records))
    × (l.capture.input.ghost_name ≡ l.initial.capture.input.ghost_name) × (l.capture.input.now.failures ≡ l.fn.reader.failures) × (l.writer.failures ≡ l.fn.writer.failures)

abbrev pub decreases-loop-next : goal.decreases-loop-next
decreases-loop-next g l = l.capture.progress.capacity
