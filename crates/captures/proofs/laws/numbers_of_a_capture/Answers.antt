use Rattle.captures.proofs.UpgradeLaws.{numbers_once}
use Rattle.captures.proofs.laws.numbers_of_a_capture.Goals as goal

pub returns : goal.returns
returns c = λ v start records once h. numbers_once v start records once h
