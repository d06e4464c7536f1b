use Rattle.std.proofs.Common.{◌≡◌, ℕ, ◌<◌, ◌≤◌, length, slice_index, vec_len, vec_capacity}
use Rattle.stage_graph.proofs.Chunking.{FitIn}
use Rattle.stage_graph.proofs.plan.Plan.in_chunks.Given as goal

abbrev pub invariant-loop-capacity : goal.invariant-loop-capacity
invariant-loop-capacity l =
    (vec_len l.capacities ≡ l.capacity-index)
    × (length l.capacity-items ≤ vec_capacity l.capacities)
    × ((k : ℕ) → k < l.capacity-index → FitIn l.size (slice_index l.capacity-items k) (slice_index l.capacities.items k))
