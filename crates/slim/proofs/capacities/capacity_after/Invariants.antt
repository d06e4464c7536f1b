use Rattle.std.proofs.Common.{◌≡◌, ◌+◌, length, flat_map, take}
use Rattle.captures.specs.Reference.{record_text}
use Rattle.slim.proofs.capacities.capacity_after.Given as goal

abbrev pub invariant-loop-record : goal.invariant-loop-record
invariant-loop-record l = length (flat_map record_text (take l.record-index l.records)) + l.left ≡ l.capacity
