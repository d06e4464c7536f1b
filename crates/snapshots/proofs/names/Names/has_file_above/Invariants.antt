use Rattle.std.proofs.Common.{◌≡◌, take, false}
use Rattle.std.specs.List.{list_any}
use Rattle.paths.specs.Reference.{lies_in}
use Rattle.snapshots.proofs.names.Names.has_file_above.Given as goal

abbrev pub invariant-loop-len : goal.invariant-loop-len
invariant-loop-len l = list_any (λ len. lies_in (take len l.self.last.items) l.name) (take l.len-index l.len-items) ≡ false
