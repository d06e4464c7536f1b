use Rattle.std.proofs.Common.{◌≡◌, take, nat_eq}
use Rattle.std.specs.List.{filter, starts_with}
use Rattle.snapshots.proofs.names.Names.then.Given as goal

abbrev pub invariant-loop-len : goal.invariant-loop-len
invariant-loop-len l = l.lengths.items ≡ filter (λ len. starts_with nat_eq l.name (take len l.self.last.items)) (take l.len-index l.len-items)
