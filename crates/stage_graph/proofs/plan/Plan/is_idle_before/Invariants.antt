use Rattle.std.proofs.Common.{◌≡◌, drop}
use Rattle.stage_graph.specs.Floors.{idle_before}
use Rattle.stage_graph.proofs.plan.Plan.is_idle_before.Given as goal

abbrev pub invariant-loop-worker : goal.invariant-loop-worker
invariant-loop-worker l = idle_before l.stage (drop l.worker l.self.posts) (drop l.worker l.worker_slots) ≡ idle_before l.stage l.self.posts l.worker_slots
