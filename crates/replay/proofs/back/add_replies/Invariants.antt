use Rattle.std.proofs.Common.{◌≡◌, ◌++◌}
use Rattle.std.specs.Prelude.{flat_map}
use Rattle.std.specs.Vec.Iter.{into_iter_items}
use Rattle.replay.specs.Backs.{reply_in}
use Rattle.replay.proofs.back.add_replies.Given as goal

abbrev pub invariant-loop-item : goal.invariant-loop-item
invariant-loop-item g l = l.replies.items ++ flat_map (λ x. reply_in x.state) (into_iter_items l.item-iterator)
    ≡ l.fn.replies.items ++ flat_map (λ x. reply_in x.state) l.fn.chunk.back.items
