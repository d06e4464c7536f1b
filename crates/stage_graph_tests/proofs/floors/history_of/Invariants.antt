use Rattle.std.proofs.Common.{length}
use Rattle.stage_graph_tests.proofs.floors.history_of.Given as goal

abbrev pub ghosts-driven_with-K-Sums : goal.ghosts-driven_with-K-Sums
ghosts-driven_with-K-Sums g a = record { inputs = a.inputs.now; addends = a.addends.now }

abbrev pub ghosts-driven_with-K-RunName : goal.ghosts-driven_with-K-RunName
ghosts-driven_with-K-RunName g a = record { plan = a.plan; count = length a.inputs.now }
