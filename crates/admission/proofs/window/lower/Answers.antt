use Rattle.std.proofs.Common.{rules}
use Rattle.std.proofs.lemmas.Map.Steps.{set_value_same}
use Rattle.admission.proofs.window.lower.Goals as goal

pub returns-else-several-clause-same : goal.returns-else-several-clause-same
returns-else-several-clause-same c = search (rules, set_value_same)
