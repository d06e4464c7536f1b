use Rattle.std.proofs.Common.{◌≡◌, ℕ, arith, ◌∙◌, sym, ◌∷◌, []}
use Rattle.std.proofs.lemmas.List.{map-append}
use Rattle.std.proofs.lemmas.List.FromFn.{map-range_with_len_more}
use Rattle.stage_graph.specs.After.{with_steps}
use Rattle.stage_graph_tests.proofs.adding.items_of.Goals as goal

pub loop-i-preserved : goal.loop-i-preserved
loop-i-preserved g c =
    let i = c.loop-i.i in
    let new : ◌≡◌ {A = ℕ × ℕ} (c.new_item.result.number, c.new_item.result.done) (i, 0) = cc in (
      rw c.push_reserved.ensures.items (map-append (λ x. (x.number, x.done)) c.loop-i.items.items (c.new_item.result ∷ [])
          ∙ (rw (c.loop-i.invariant.0, new) (sym (map-range_with_len_more (with_steps 0) 0 i i (omega arith))))),
      omega arith,
      omega arith,
    )
