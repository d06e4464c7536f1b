use Rattle.std.proofs.Common.{vec_len, ◌∙◌, arith}
use Rattle.stage_graph.proofs.Chunking.{length-more}
use Rattle.stage_graph.proofs.Helping.{fresh_more, notes_more}
use Rattle.stage_graph.proofs.helpers.passage.noted.Goals as goal

pub loop-chunk-preserved : goal.loop-chunk-preserved
loop-chunk-preserved g c =
    let k = vec_len c.loop-chunk.items in
    let inv = c.loop-chunk.invariant in
    let steps = c.in-Some.ensures.steps in
    let long = c.push_reserved.ensures in
    let more = c.push_reserved-in-loop-chunk.ensures in
    let some = length-more _ _ _ steps.0 in
    let is = c.in_ok-item.ensures.fresh in record {
      fresh = rw (long.items, long.len) (fresh_more (λ x. x.number) (λ x. x.done) c.loop-chunk.items.items c.in_ok-item.item k inv.fresh (is.0 ∙ c.len-number.ensures) is.1);
      noted = rw more.items (notes_more c.loop-chunk.notes.items _ _ c.in-Some.chunk c.in_ok-item.note _ steps.0 c.in_ok-item.ensures.note inv.noted);
      long = omega (arith, long.len, some, inv.long);
      same = omega (arith, long.len, more.len, inv.same);
      capacity = omega (arith, long.capacity, inv.capacity);
      notes_capacity = omega (arith, more.capacity, inv.notes_capacity);
    }
