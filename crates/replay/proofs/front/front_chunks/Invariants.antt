use Rattle.std.proofs.Common.{◌≡◌, ◌++◌, ◌<◌, map}
use Rattle.std.specs.Prelude.{flat_map}
use Rattle.std.specs.Vec.Iter.{into_iter_items}
use Rattle.stage_graph.specs.Helpers.{AreSized}
use Rattle.replay.specs.Fronts.{unseen}
use Rattle.replay.specs.Chunks.{chunk_len, seen_value}
use Rattle.replay.proofs.front.front_chunks.Given as goal

abbrev pub invariant-loop-message : goal.invariant-loop-message
invariant-loop-message g l =
    (map (seen_value g.F.Tree.files) (flat_map (λ chunk. chunk.front.items) l.chunks.items ++ l.chunk.front.items)
    ++ map unseen (into_iter_items l.message-iterator) ≡ map unseen l.fn.messages.items)
    × AreSized chunk_len l.fn.size l.chunks.items
    × (chunk_len l.chunk < l.fn.size)
