use Rattle.std.proofs.Common.{◌≡◌, ◌++◌, map}
use Rattle.std.specs.Vec.Iter.{into_iter_items}
use Rattle.replay.specs.Backs.{back_step}
use Rattle.replay.specs.Chunks.{decided_value}
use Rattle.replay.proofs.serving.Serving.advance_all.Given as goal

abbrev pub invariant-loop-item : goal.invariant-loop-item
invariant-loop-item g l =
    map decided_value l.further.items
    ++ map (back_step g.F.Tree.files 0) (map decided_value (into_iter_items l.item-iterator))
    ≡ map (back_step g.F.Tree.files 0) (map decided_value l.fn.items.items)
