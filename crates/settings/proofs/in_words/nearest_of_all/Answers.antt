use Rattle.std.proofs.Common.{arith}
use Rattle.std.proofs.lemmas.Grind.{common_steps}
use Rattle.settings.specs.FaultWords.{nearest_among}
use Rattle.settings.proofs.in_words.nearest_of_all.Goals as goal

pub loop-key-preserved : goal.loop-key-preserved
unfolding nearest_among
loop-key-preserved c = grind (arith, common_steps)
