use Rattle.std.proofs.Common.{◌≡◌, ◌≤◌, [], None, replicate, vec_capacity}
use Rattle.stage_queue.proofs.slots.Slots.new.Given as goal

abbrev pub invariant-loop : goal.invariant-loop
invariant-loop g l = (l.slots.items ≡ replicate l.counter None) × (vec_capacity l.slots ≡ l.n) × (l.list.items ≡ []) × (l.n ≤ vec_capacity l.list)
