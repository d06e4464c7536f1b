use Rattle.std.proofs.Common.{◌≡◌, ◌≤◌, None, false, map, take, replicate, vec_len, vec_capacity}
use Rattle.stage_graph.specs.After.{empty_queue}
use Rattle.stage_graph.proofs.floor.Floor.open.Given as goal

abbrev pub invariant-loop-stage : goal.invariant-loop-stage
invariant-loop-stage g l = (l.queues.items ≡ map empty_queue (take l.stage l.plan-inside.capacities.items)) × (l.stages ≤ vec_capacity l.queues) × (vec_len l.queues ≡ l.stage)

abbrev pub invariant-loop-worker : goal.invariant-loop-worker
invariant-loop-worker g l = (l.worker_slots.items ≡ replicate l._worker None) × (l.left.items ≡ replicate l._worker false) × (l.workers ≤ vec_capacity l.worker_slots) × (l.workers ≤ vec_capacity l.left) × (vec_len l.worker_slots ≡ l._worker) × (vec_len l.left ≡ l._worker)
