use Rattle.std.proofs.Common.{◌≡◌, ◌++◌, map}
use Rattle.std.specs.Prelude.{flat_map}
use Rattle.std.specs.Vec.Iter.{into_iter_items}
use Rattle.replay.specs.declared.lookup.LookedUp.{LookedUp}
use Rattle.replay.proofs.front.lookups_of.Given as goal

abbrev pub invariant-loop-chunk : goal.invariant-loop-chunk
invariant-loop-chunk g l =
    l.lookups.items ++ flat_map (λ chunk. map {B = LookedUp} (λ x. record { message = x.message; lookup = x.lookup }) chunk.front.items) (into_iter_items l.chunk-iterator)
    ≡ flat_map (λ chunk. map {B = LookedUp} (λ x. record { message = x.message; lookup = x.lookup }) chunk.front.items) l.fn.chunks.items
