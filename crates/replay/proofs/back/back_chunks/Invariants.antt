use Rattle.std.proofs.Common.{◌≡◌, ◌++◌, ◌<◌, true, map}
use Rattle.std.specs.Prelude.{flat_map}
use Rattle.std.specs.List.{list_all}
use Rattle.std.specs.Vec.Iter.{into_iter_items}
use Rattle.stage_graph.specs.Helpers.{AreSized}
use Rattle.replay.specs.Backs.{is_back, pending_elsewhere}
use Rattle.replay.specs.Chunks.{chunk_len, decided_value}
use Rattle.replay.specs.declared.back.BackState.{BackState}
use Rattle.replay.specs.declared.back.BackState.TheVariants.{Pending}
use Rattle.replay.specs.declared.back.Unnamed.{Unnamed}
use Rattle.replay.proofs.back.back_chunks.Given as goal

abbrev pub invariant-loop-pending : goal.invariant-loop-pending
invariant-loop-pending g l =
    (map decided_value (flat_map (λ chunk. chunk.back.items) l.chunks.items ++ l.chunk.back.items)
    ++ map {B = BackState Unnamed} (λ t. Pending (pending_elsewhere t)) (into_iter_items l.pending-iterator)
    ≡ map {B = BackState Unnamed} (λ t. Pending (pending_elsewhere t)) l.fn.pending_replies.items)
    × AreSized chunk_len l.fn.size l.chunks.items
    × (chunk_len l.chunk < l.fn.size)
    × (list_all (λ t. is_back g.F.Tree.files (Pending t)) (into_iter_items l.pending-iterator) ≡ true)
