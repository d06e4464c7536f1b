use Rattle.slim.proofs.AgainLaw.{unchanged}
use Rattle.slim.proofs.laws.slim_again.Goals as goal

pub returns : goal.returns
returns c = unchanged
