use Rattle.captures.proofs.UpgradeLaws.{upgrade_twice}
use Rattle.captures.proofs.laws.upgrade_again.Goals as goal

pub returns : goal.returns
returns c = λ to old new again a b. upgrade_twice to old new again a b
