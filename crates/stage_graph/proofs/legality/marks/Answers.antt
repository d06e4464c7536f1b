use Rattle.std.proofs.Common.{arith, ◌∙◌, sym, ◌∷◌, []}
use Rattle.std.proofs.lemmas.List.{map-append}
use Rattle.std.proofs.lemmas.List.FromFn.{map-range_with_len_more}
use Rattle.stage_graph.specs.After.{with_steps}
use Rattle.stage_graph.proofs.legality.marks.Goals as goal

pub loop-number-preserved : goal.loop-number-preserved
loop-number-preserved c =
    let i = c.loop-number.number in (
      rw c.push_reserved.ensures.items (map-append (λ m. (m.number, m.done)) c.loop-number.all.items (record { number = i; done = 0 } ∷ [])
          ∙ (rw (c.loop-number.invariant.0) (sym (map-range_with_len_more (with_steps 0) 0 i i (omega arith))))),
      omega arith,
      omega arith,
    )
