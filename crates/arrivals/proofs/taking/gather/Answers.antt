use Rattle.std.proofs.Common.{◌≡◌, List, [], ◌∷◌, ◌++◌, sym, ap, ◌∙◌, append_assoc}
use Rattle.std.specs.Vec.Iter.{into_iter_items}
use Rattle.captures.specs.declared.record.Record.{Record}
use Rattle.arrivals.proofs.Gathers.{gathers_none, next_may, next_gathers}
use Rattle.arrivals.proofs.taking.gather.Goals as goal

pub loop-cut-init : goal.loop-cut-init
loop-cut-init c = (
  [],
  sym c.into_iter-cut-iterator.ensures.into_iter_gives.0,
  λ records arrivals may. rw c.in_ok-pieces.ensures.items (gathers_none records c.args.cuts.items arrivals c.args.connections.now c.args.tiers.now may),
)

pub take_record-requires : goal.take_record-requires
take_record-requires c =
    let inv = c.loop-cut.invariant in
    let given = c.requires in
    let cut = c.in-Some.cut in
    let split : c.args.cuts.items ≡ inv.0 ++ cut ∷ into_iter_items c.next.new.self = inv.1 ∙ ap (λ (rs : List Record). inv.0 ++ rs) c.in-Some.ensures.steps.0 in
    let g = inv.2 given.0 given.1 given.2 in (
      given.0 ++ inv.0,
      given.1 ++ g.more,
      next_may given.0 inv.0 _ c.args.cuts.items cut given.1 _ _ _ _ _ split given.2 g,
    )

pub loop-cut-preserved : goal.loop-cut-preserved
loop-cut-preserved c =
    let inv = c.loop-cut.invariant in
    let cut = c.in-Some.cut in
    let others = into_iter_items c.next.new.self in
    let split : c.args.cuts.items ≡ inv.0 ++ cut ∷ others = inv.1 ∙ ap (λ (rs : List Record). inv.0 ++ rs) c.in-Some.ensures.steps.0 in (
      inv.0 ++ cut ∷ [],
      split ∙ sym (append_assoc inv.0 (cut ∷ []) others),
      λ records arrivals may.
          next_gathers records inv.0 others c.args.cuts.items cut arrivals _ _ _ _ _ _ _ _ split c.in_ok-take_record.ensures may (inv.2 records arrivals may),
    )
