use Rattle.std.proofs.Common.{arith}
use Rattle.settings.proofs.Rows.{defaults}
use Rattle.settings.proofs.config.default_settings.Goals as goal

pub returns-in-Ok-clause-value : goal.returns-in-Ok-clause-value
returns-in-Ok-clause-value c = grind (arith, defaults)
