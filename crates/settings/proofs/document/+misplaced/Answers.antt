use Rattle.std.proofs.Common.{arith}
use Rattle.std.proofs.lemmas.Grind.{common_steps}
use Rattle.settings.proofs.document.+misplaced.Goals as goal

pub misplaced_in-members-preserved : goal.misplaced_in-members-preserved
misplaced_in-members-preserved c = grind (arith, common_steps)

pub misplaced_among-items-preserved : goal.misplaced_among-items-preserved
misplaced_among-items-preserved c = grind (arith, common_steps)
