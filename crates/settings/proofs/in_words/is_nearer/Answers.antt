use Rattle.std.proofs.Common.{arith}
use Rattle.std.proofs.lemmas.Grind.{common_steps}
use Rattle.settings.proofs.in_words.is_nearer.Goals as goal

pub returns-in_default : goal.returns-in_default
returns-in_default c = grind (arith, common_steps)

pub returns-in_default-2 : goal.returns-in_default-2
returns-in_default-2 c = grind (arith, common_steps)

pub returns-in-true-false : goal.returns-in-true-false
returns-in-true-false c = grind (arith, common_steps)

pub returns-in-false-true : goal.returns-in-false-true
returns-in-false-true c = grind (arith, common_steps)
