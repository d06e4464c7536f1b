use Rattle.captures.specs.declared.version.Version.TheVariants.{One, Two}
use Rattle.captures.proofs.UpgradeLaws.{rules_widen}
use Rattle.captures.proofs.laws.records_of_version_one.Goals as goal

pub returns : goal.returns
returns c = λ start records h. rules_widen Two One start records h
