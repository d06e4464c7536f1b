use Rattle.std.proofs.Common.{◌≡◌, ◌++◌, map}
use Rattle.std.specs.Vec.Iter.{into_iter_items}
use Rattle.replay.specs.Fronts.{floor_step}
use Rattle.replay.specs.Chunks.{seen_value}
use Rattle.replay.proofs.serving.Serving.look_all.Given as goal

abbrev pub invariant-loop-item : goal.invariant-loop-item
invariant-loop-item g l =
    map (seen_value g.F.Tree.files) l.looked.items
    ++ map (floor_step g.F.Tree.files g.K.Pricing.tariff l.done) (map (seen_value g.F.Tree.files) (into_iter_items l.item-iterator))
    ≡ map (floor_step g.F.Tree.files g.K.Pricing.tariff l.done) (map (seen_value g.F.Tree.files) l.fn.items.items)
