use Rattle.stage_graph.proofs.Planning.{plan_from, capacity_from}
use Rattle.stage_graph.proofs.plan.laid_out.Goals as goal

pub invariant_of-result : goal.invariant_of-result
invariant_of-result c = rw (c.in_ok-cuts.ensures.items, c.in_ok-posts.ensures, c.in_ok-capacities.ensures.items) (plan_from c.args.cuts.now c.args.worker_counts.now c.args.capacities.now c.requires, capacity_from c.args.cuts.now c.args.worker_counts.now c.args.capacities.now c.requires)
