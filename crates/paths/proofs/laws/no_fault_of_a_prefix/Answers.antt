use Rattle.std.proofs.Common.{ℕ, List, subst}
use Rattle.paths.specs.SnapshotFaults.{IsFrontFault}
use Rattle.paths.proofs.NoFault.{prefix_good}
use Rattle.paths.proofs.laws.no_fault_of_a_prefix.Goals as goal

pub returns : goal.returns
returns c = λ bytes files rest f a b. prefix_good files rest f a.rules a.size (subst (λ (w : List ℕ). IsFrontFault w f) a.text b)
