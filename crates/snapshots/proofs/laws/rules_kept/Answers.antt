use Rattle.snapshots.proofs.Rulings.{keeps}
use Rattle.snapshots.proofs.laws.rules_kept.Goals as goal

pub returns : goal.returns
returns c = keeps
