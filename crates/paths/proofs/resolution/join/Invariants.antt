use Rattle.std.proofs.Common.{◌≡◌, take}
use Rattle.paths.specs.Reference.{joined}
use Rattle.paths.proofs.resolution.join.Given as goal

abbrev pub invariant-loop-at : goal.invariant-loop-at
invariant-loop-at l = l.name.items ≡ joined (take l.at l.segments)
