use Rattle.std.proofs.Common.{◌≡◌, ◌≤◌, map, length, vec_len, vec_capacity}
use Rattle.std.specs.List.{range_with_len}
use Rattle.stage_graph.specs.After.{with_steps}
use Rattle.stage_graph_tests.proofs.adding.items_of.Given as goal

abbrev pub invariant-loop-i : goal.invariant-loop-i
invariant-loop-i g l = (map (λ x. (x.number, x.done)) l.items.items ≡ map (with_steps 0) (range_with_len 0 l.i)) × (vec_len l.items ≡ l.i) × (length l.inputs ≤ vec_capacity l.items)
