use Rattle.std.proofs.Common.{arith}
use Rattle.std.proofs.lemmas.Grind.{common_steps}
use Rattle.settings.proofs.document.naturals.Goals as goal

pub items-preserved : goal.items-preserved
items-preserved c = grind (arith, common_steps)

pub items-init : goal.items-init
items-init c = grind (arith, common_steps)

pub returns : goal.returns
returns c = grind (arith, common_steps)

pub returns-in_default : goal.returns-in_default
returns-in_default c = grind (arith, common_steps)
