use Rattle.std.proofs.Common.{length}
use Rattle.stage_graph.specs.Helpers.{AreSized}
use Rattle.stage_graph_tests.proofs.helpers.chunks_from.Given as goal

abbrev pub invariant-loop-len : goal.invariant-loop-len
invariant-loop-len l = AreSized length l.size l.chunks.items
