use Rattle.std.proofs.Common.{length}
use Rattle.stage_graph.proofs.helpers.passage.Helpers+Travel+S+J+G+R.run.Given as goal

abbrev pub ghosts-run_on : goal.ghosts-run_on
ghosts-run_on g a = record { plan = a.floor; count = length a.chunks.items }
