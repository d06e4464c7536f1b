use Rattle.std.proofs.Common.{rules, sym, ◌∙◌}
use Rattle.stage_graph.proofs.Lists.{idle_step}
use Rattle.stage_graph.proofs.plan.Plan.is_idle_before.Goals as goal

pub loop-worker-preserved : goal.loop-worker-preserved
loop-worker-preserved c =
    idle_step c.args.stage c.args.self.now.posts c.args.worker_slots.now c.loop-worker.worker c.index.result.now c.is_none.result _ (search rules) (search rules) (search rules) c.is_none.ensures (sym c.is_idle.ensures ∙ c.if-not-is_idle.false) c.loop-worker.invariant
