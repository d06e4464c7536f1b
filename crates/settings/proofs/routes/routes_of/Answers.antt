use Rattle.std.proofs.Common.{arith}
use Rattle.std.proofs.lemmas.Grind.{common_steps}
use Rattle.settings.specs.Routes.{routes_of}
use Rattle.settings.proofs.Counting.{counted}
use Rattle.settings.proofs.routes.routes_of.Goals as goal

pub returns-clause-routes : goal.returns-clause-routes
unfolding routes_of
returns-clause-routes c = grind (arith, common_steps, counted)

pub returns-clause-there : goal.returns-clause-there
unfolding routes_of
returns-clause-there c = grind (arith, common_steps, counted)
