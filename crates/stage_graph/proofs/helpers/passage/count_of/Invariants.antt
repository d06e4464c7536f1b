use Rattle.std.proofs.Common.{◌≡◌, ◌+◌, drop}
use Rattle.std.specs.List.{sum_by}
use Rattle.stage_graph.proofs.helpers.passage.count_of.Given as goal

abbrev pub invariant-loop-chunk : goal.invariant-loop-chunk
invariant-loop-chunk g l = l.count + sum_by g.S.Steps.count (drop l.chunk-index l.chunks) ≡ sum_by g.S.Steps.count l.chunks
