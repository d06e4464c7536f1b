use Rattle.std.proofs.Common.{◌≡◌, ◌++◌, replicate}
use Rattle.stage_graph.proofs.plan.add_workers.Given as goal

abbrev pub invariant-loop : goal.invariant-loop
invariant-loop l = l.posts.items ≡ l.initial.posts.items ++ replicate l.counter l.stage
