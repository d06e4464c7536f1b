use Rattle.std.proofs.Common.{arith}
use Rattle.std.proofs.lemmas.Grind.{common_steps}
use Rattle.settings.proofs.routes.each_route.Goals as goal

pub items-preserved : goal.items-preserved
items-preserved c = grind (arith, common_steps)

pub items-init : goal.items-init
items-init c = grind (arith, common_steps)

pub returns-clause-routes : goal.returns-clause-routes
returns-clause-routes c = grind (arith, common_steps)

pub returns-in_err-route-clause-routes : goal.returns-in_err-route-clause-routes
returns-in_err-route-clause-routes c = grind (arith, common_steps)
