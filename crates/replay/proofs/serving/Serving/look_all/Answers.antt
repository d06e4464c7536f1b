use Rattle.std.proofs.Common.{ap}
use Rattle.replay.specs.Fronts.{floor_step}
use Rattle.replay.specs.Chunks.{seen_value}
use Rattle.replay.proofs.Lookups.{stepped_more, looked_up}
use Rattle.replay.proofs.serving.Serving.look_all.Goals as goal

pub loop-item-preserved : goal.loop-item-preserved
loop-item-preserved g c =
    rw c.in_ok-push.ensures.items
    (stepped_more (seen_value g.F.Tree.files) (floor_step g.F.Tree.files g.K.Pricing.tariff c.args.done) c.loop-item.looked.items _ _ _ _ c.in-Some.item c.in-Some.ensures.steps.0
    (ap (looked_up c.in-Some.item.message) c.in_ok-lookup.ensures.ok) c.loop-item.invariant)
