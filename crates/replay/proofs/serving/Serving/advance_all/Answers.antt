use Rattle.std.proofs.Common.{ap, ◌∙◌}
use Rattle.replay.specs.Backs.{back_step, elsewhere}
use Rattle.replay.specs.Chunks.{decided_value}
use Rattle.replay.proofs.Lookups.{stepped_more, step_same}
use Rattle.replay.proofs.serving.Serving.advance_all.Goals as goal

pub loop-item-preserved : goal.loop-item-preserved
loop-item-preserved g c =
    rw c.in_ok-push.ensures.items
    (stepped_more decided_value (back_step g.F.Tree.files 0) c.loop-item.further.items _ _ _ _ c.in-Some.item c.in-Some.ensures.steps.0
    (ap elsewhere c.in_ok-state.ensures.ok ∙ step_same g.F.Tree.files c.in-Some.item.state) c.loop-item.invariant)
