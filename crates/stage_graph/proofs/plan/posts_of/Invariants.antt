use Rattle.std.proofs.Common.{◌≡◌, take}
use Rattle.stage_graph.specs.Layouts.{posts_of}
use Rattle.stage_graph.proofs.plan.posts_of.Given as goal

abbrev pub invariant-loop-stage : goal.invariant-loop-stage
invariant-loop-stage l = l.posts.items ≡ posts_of 0 (take l.stage l.worker_counts)
