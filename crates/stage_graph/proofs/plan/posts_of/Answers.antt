use Rattle.std.proofs.Common.{rules, sym}
use Rattle.stage_graph.proofs.Planning.{posts_more}
use Rattle.stage_graph.proofs.plan.posts_of.Goals as goal

pub loop-stage-preserved : goal.loop-stage-preserved
loop-stage-preserved c =
    let t = posts_more c.args.worker_counts.now c.loop-stage.stage (search rules) in
    rw (c.in_ok-add_workers.ensures, c.loop-stage.invariant) (sym t)
