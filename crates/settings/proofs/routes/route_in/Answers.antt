use Rattle.std.proofs.Common.{arith}
use Rattle.std.proofs.lemmas.Grind.{common_steps}
use Rattle.settings.proofs.routes.route_in.Goals as goal

pub returns-clause-route : goal.returns-clause-route
returns-clause-route c = grind (arith, common_steps)

pub returns-clause-there : goal.returns-clause-there
returns-clause-there c = grind (arith, common_steps)
