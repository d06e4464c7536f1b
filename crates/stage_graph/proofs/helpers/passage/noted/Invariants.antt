use Rattle.std.proofs.Common.{◌≡◌, ℕ, ◌+◌, ◌++◌, ◌≤◌, map, length, vec_len, vec_capacity, Some}
use Rattle.std.specs.List.{range_with_len}
use Rattle.std.specs.Vec.Iter.{into_iter_items}
use Rattle.stage_graph.specs.After.{with_steps}
use Rattle.stage_graph.proofs.helpers.passage.noted.Given as goal

abbrev pub invariant-loop-chunk : goal.invariant-loop-chunk
invariant-loop-chunk g l = record {
  fresh : map {B = ℕ × ℕ} (λ x. (x.number, x.done)) l.items.items ≡ map (with_steps 0) (range_with_len 0 (vec_len l.items));
  noted : l.notes.items ++ map Some (into_iter_items l.chunk-iterator) ≡ map Some l.fn.chunks.items;
  long : vec_len l.items + length (into_iter_items l.chunk-iterator) ≡ length l.fn.chunks.items;
  same : vec_len l.notes ≡ vec_len l.items;
  capacity : length l.fn.chunks.items ≤ vec_capacity l.items;
  notes_capacity : length l.fn.chunks.items ≤ vec_capacity l.notes;
}
