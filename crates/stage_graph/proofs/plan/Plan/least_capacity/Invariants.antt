use Rattle.std.proofs.Common.{ℕ, ◌<◌, ◌≤◌}
use Rattle.stage_graph.specs.Layouts.{capacity_at}
use Rattle.stage_graph.proofs.plan.Plan.least_capacity.Given as goal

abbrev pub invariant-loop-stage : goal.invariant-loop-stage
invariant-loop-stage l = (0 < l.least) × ((k : ℕ) → k < l.stage → l.least ≤ capacity_at l.self k)
