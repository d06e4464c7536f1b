use Rattle.std.proofs.Common.{arith}
use Rattle.std.proofs.lemmas.Grind.{common_steps}
use Rattle.settings.specs.SettingsTable.{policy_of}
use Rattle.settings.proofs.config.policy_of.Goals as goal

pub returns : goal.returns
unfolding policy_of
returns c = grind (arith, common_steps)
