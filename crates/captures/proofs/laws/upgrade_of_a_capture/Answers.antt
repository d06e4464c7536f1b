use Rattle.captures.proofs.UpgradeLaws.{upgrade_is}
use Rattle.captures.proofs.laws.upgrade_of_a_capture.Goals as goal

pub returns : goal.returns
returns c = λ to v bytes start records h. upgrade_is to v bytes start records h
