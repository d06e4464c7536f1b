use Rattle.std.proofs.Common.{◌≡◌, length, slice_get, Some, refl, arith}
use Rattle.std.proofs.lemmas.Option.{slice_get_read}
use Rattle.stage_graph.specs.Steps.{value_of}
use Rattle.stage_graph.proofs.Helping.{next_arrived, all_arrived}
use Rattle.stage_graph.proofs.helpers.passage.taken_out.Goals as goal

pub loop-item-preserved : goal.loop-item-preserved
loop-item-preserved g c =
    let inv = c.loop-item.invariant in
    let more = c.push_reserved.ensures in
    let note = c.in-Some-get.note.now in
    let at : slice_get c.args.notes.now (length c.loop-item.chunks.items) ≡ Some note =
    let k : c.len.result ≡ length c.loop-item.chunks.items = omega arith in
    let h = c.in-Some-get.ensures.lookup in
    let found = slice_get_read c.args.notes.now (length c.args.notes.now) c.len.result note refl h.3.0 h.1 in
    rw k at found in record {
      values = λ noted all. rw more.items (next_arrived g.S.Steps.content (λ x. value_of g.S.Steps.step c.args.done (g.S.Steps.content x))
          c.args.notes.now c.loop-item.chunks.items c.in-Some-arrived.chunk note at c.in-Some-arrived.ensures inv.values noted all);
      capacity = omega (arith, more.capacity, inv.capacity);
    }

pub returns-clause-values : goal.returns-clause-values
returns-clause-values g c = λ noted all.
    let long : length c.loop-item.chunks.items ≡ length c.args.notes.now = omega (arith, c.if-len-notes.false, c.len-2.ensures) in
    all_arrived g.S.Steps.content (λ x. value_of g.S.Steps.step c.args.done (g.S.Steps.content x)) c.args.notes.now c.loop-item.chunks.items noted
    long all (c.loop-item.invariant.values noted all)
