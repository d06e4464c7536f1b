use Rattle.std.proofs.Common.{◌≡◌, sym, ap, ◌∙◌, false}
use Rattle.stage_graph.specs.Floors.{standing, all_done}
use Rattle.stage_graph.specs.declared.unrun.Unrun.TheVariants.{Stopped}
use Rattle.stage_graph.proofs.Closing.{full_is_done, closed_items, stopped_is}
use Rattle.stage_graph.proofs.Counting.{bounds_kept}
use Rattle.stage_graph.proofs.floor.Floor.close.Goals as goal

pub invariant_of-result : goal.invariant_of-result
invariant_of-result g c =
    let p = g.N.RunName.plan in
    let n = g.N.RunName.count in
    let h = c.self.inside.history.items in
    let stands = c.self.invariant.0 in (
      stands.plan,
      closed_items _ p n h _ c.into_list.result.items c.into_list.ensures stands,
      stands.legal,
      rw c.self.view_is c.requires,
      sym (full_is_done _ p n h _ stands) ∙ (sym c.is_full.ensures ∙ c.if-is_full.true),
    )

pub returns-then-is_full-clause-run : goal.returns-then-is_full-clause-run
returns-then-is_full-clause-run g c =
    let p = g.N.RunName.plan in
    let n = g.N.RunName.count in
    let h = c.self.inside.history.items in
    let stands = c.self.invariant.0 in
    (c.self.view_is, rw (← c.self.view_is) (sym (full_is_done _ p n h _ stands) ∙ (sym c.is_full.ensures ∙ c.if-is_full.true)))

pub returns-clause-stopped : goal.returns-clause-stopped
returns-clause-stopped g c =
    let p = g.N.RunName.plan in
    let n = g.N.RunName.count in
    let h = c.self.inside.history.items in
    let stands = c.self.invariant.0 in
    let open-slot : all_done (standing p n h) ≡ false = sym (full_is_done _ p n h _ stands) ∙ (sym c.is_full.ensures ∙ c.if-is_full.false) in
    (ap Stopped (c.from.ensures ∙ c.self.view_is), rw (← c.self.view_is) open-slot, rw (← c.self.view_is) (stopped_is p n h stands.plan stands.legal (rw c.self.view_is c.requires) open-slot))

pub returns-then-is_full-clause-bounds : goal.returns-then-is_full-clause-bounds
returns-then-is_full-clause-bounds g c = let stands = c.self.invariant.0 in rw (← c.self.view_is) (bounds_kept g.N.RunName.plan g.N.RunName.count c.self.inside.history.items stands.plan stands.legal)

pub returns-clause-bounds : goal.returns-clause-bounds
returns-clause-bounds g c = let stands = c.self.invariant.0 in rw (← c.self.view_is) (bounds_kept g.N.RunName.plan g.N.RunName.count c.self.inside.history.items stands.plan stands.legal)
