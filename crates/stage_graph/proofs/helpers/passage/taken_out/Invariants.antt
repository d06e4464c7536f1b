use Rattle.std.proofs.Common.{◌≡◌, ◌≤◌, length, map, take, vec_capacity, Some}
use Rattle.stage_graph.specs.Steps.{value_of}
use Rattle.stage_graph.proofs.helpers.passage.taken_out.Given as goal

abbrev pub invariant-loop-item : goal.invariant-loop-item
invariant-loop-item g l = record {
  values : (noted : _) → l.notes ≡ map Some noted
      → map g.S.Steps.content l.chunks.items ≡ map (λ x. value_of g.S.Steps.step l.done (g.S.Steps.content x)) (take (length l.chunks.items) noted);
  capacity : length l.notes ≤ vec_capacity l.chunks;
}
