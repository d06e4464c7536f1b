use Rattle.std.proofs.Common.{◌≡◌, drop}
use Rattle.paths.specs.Reference.{has_good_escapes}
use Rattle.paths.proofs.target.has_good_escapes.Given as goal

abbrev pub invariant-loop-at : goal.invariant-loop-at
invariant-loop-at l = has_good_escapes (drop l.at l.path) ≡ has_good_escapes l.path
