use Rattle.std.proofs.Common.{◌≡◌, flat_map, take}
use Rattle.std.specs.Io.KnownBytes.{Appends}
use Rattle.captures.specs.Reference.{record_text}
use Rattle.slim.proofs.slimming.write_records.Given as goal

-- the first records are written
abbrev pub invariant-loop-record : goal.invariant-loop-record
invariant-loop-record g l =
    Appends l.fn.writer.bytes l.writer.bytes (flat_map record_text (take l.record-index l.records)) × (l.writer.failures ≡ l.fn.writer.failures)
