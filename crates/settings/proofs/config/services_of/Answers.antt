use Rattle.std.proofs.Common.{arith}
use Rattle.std.proofs.lemmas.Grind.{common_steps}
use Rattle.settings.specs.SettingsTable.{services_of}
use Rattle.settings.proofs.config.services_of.Goals as goal

pub returns-clause-services : goal.returns-clause-services
unfolding services_of
returns-clause-services c = grind (arith, common_steps)

pub returns-clause-served : goal.returns-clause-served
unfolding services_of
returns-clause-served c = grind (arith, common_steps)
