use Rattle.snapshots.proofs.Rulings.{kept_none}
use Rattle.snapshots.proofs.laws.none_broken.Goals as goal

pub returns : goal.returns
returns c = kept_none
