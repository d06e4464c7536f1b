use Rattle.std.proofs.Common.{◌≡◌, bytes_eq, drop}
use Rattle.std.specs.List.{starts_with}
use Rattle.cost_model.proofs.prefix.begins_with.Given as goal

abbrev pub invariant-loop-at : goal.invariant-loop-at
invariant-loop-at l = starts_with bytes_eq (drop l.at l.path) (drop l.at l.prefix) ≡ starts_with bytes_eq l.path l.prefix
