use Rattle.std.proofs.Common.{◌≡◌, ◌++◌, map}
use Rattle.std.specs.Vec.Iter.{into_iter_items}
use Rattle.replay.specs.declared.lookup.LookedUp.{LookedUp}
use Rattle.replay.proofs.front.add_lookups.Given as goal

abbrev pub invariant-loop-item : goal.invariant-loop-item
invariant-loop-item g l =
    l.lookups.items ++ map {B = LookedUp} (λ x. record { message = x.message; lookup = x.lookup }) (into_iter_items l.item-iterator)
    ≡ l.fn.lookups.items ++ map {B = LookedUp} (λ x. record { message = x.message; lookup = x.lookup }) l.fn.chunk.front.items
