use Rattle.std.proofs.Common.{◌≡◌, ◌≤◌, map, take, length, vec_len, vec_capacity}
use Rattle.stage_graph_tests.proofs.adding.values_of.Given as goal

abbrev pub invariant-loop-item : goal.invariant-loop-item
invariant-loop-item g l = (l.values.items ≡ map (λ x. x.value) (take l.item-index l.item-items)) × (vec_len l.values ≡ l.item-index) × (length l.item-items ≤ vec_capacity l.values)
