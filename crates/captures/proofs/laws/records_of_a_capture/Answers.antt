use Rattle.captures.specs.declared.version.Version.TheVariants.{Traffic}
use Rattle.captures.proofs.UpgradeLaws.{rules_widen}
use Rattle.captures.proofs.laws.records_of_a_capture.Goals as goal

pub returns : goal.returns
returns c = λ v start records h. rules_widen Traffic v start records h
