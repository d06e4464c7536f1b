use Rattle.std.proofs.Common.{◌≡◌, take}
use Rattle.std.specs.List.{flat_map}
use Rattle.settings.specs.Keys.{with_keys}
use Rattle.settings.proofs.keys.all_keys.Given as goal

abbrev pub invariant-loop-table : goal.invariant-loop-table
invariant-loop-table l = l.keys.items ≡ flat_map with_keys (take l.table-index l.table-items)
