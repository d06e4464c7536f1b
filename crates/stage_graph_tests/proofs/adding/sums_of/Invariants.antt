use Rattle.std.proofs.Common.{length}
use Rattle.stage_graph_tests.proofs.adding.sums_of.Given as goal

abbrev pub ghosts-sums_with-K-Sums : goal.ghosts-sums_with-K-Sums
ghosts-sums_with-K-Sums g a = record { inputs = a.inputs.now; addends = a.addends.now }

abbrev pub ghosts-sums_with-K-RunName : goal.ghosts-sums_with-K-RunName
ghosts-sums_with-K-RunName g a = record { plan = a.plan; count = length a.inputs.now }
