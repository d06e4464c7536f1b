use Rattle.std.proofs.Common.{◌≡◌, None, arith}
use Rattle.stage_graph.specs.Floors.{standing, back_cause}
use Rattle.stage_graph.proofs.Causes.{may_back}
use Rattle.stage_graph.proofs.Sound.{event_fits, returned_fits}
use Rattle.stage_graph.proofs.Lists.{length_same}
use Rattle.stage_graph.specs.declared.event.Event.TheVariants.{Back}
use Rattle.stage_graph.proofs.Moves.{back_stands, back_allowed}
use Rattle.stage_graph.proofs.floor.Floor.back.Goals as goal

pub push_reserved-requires : goal.push_reserved-requires
push_reserved-requires g c =
    let p = g.N.RunName.plan in
    let n = g.N.RunName.count in
    let h = c.self.inside.history.items in
    let none : back_cause (standing p n h) c.args.worker (g.C.Item.Named.number_of c.args.item) ≡ None = cc in
    let stands = c.self.invariant.0 in
    let r = returned_fits p n h c.args.worker _ stands.plan stands.legal c.requires (may_back (standing p n h) _ _ none) in
    let l = length_same c.self.inside.returned.items _ (λ x. g.C.Item.Named.number_of x) stands.returned_are in
    omega (arith, r, l, c.self.inside.returned.ok.0, c.self.invariant.3)

pub push_reserved-requires-2 : goal.push_reserved-requires-2
push_reserved-requires-2 g c =
    let p = g.N.RunName.plan in
    let n = g.N.RunName.count in
    let h = c.self.inside.history.items in
    let m = g.C.Item.Named.number_of c.args.item in
    let none : back_cause (standing p n h) c.args.worker m ≡ None = cc in
    let stands = c.self.invariant.0 in
    omega (arith, event_fits p n h (Back c.args.worker m) stands.plan stands.legal (back_allowed p n h c.args.worker m c.requires none), c.self.inside.history.ok.0, c.self.invariant.2)

pub invariant_of-self : goal.invariant_of-self
invariant_of-self g c =
    let p = g.N.RunName.plan in
    let n = g.N.RunName.count in
    let h = c.self.inside.history.items in
    let m = g.C.Item.Named.number_of c.args.item in
    let none : back_cause (standing p n h) c.args.worker m ≡ None = cc in
    let stands = c.self.invariant.0 in
    let next = back_stands _ p n h _ c.args.worker c.args.item c.requires none stands in (
      rw (c.push_reserved-2.ensures.items, c.push_reserved.ensures.items, c.number-number.ensures) next,
      c.self.invariant.1,
      omega (arith, c.self.invariant.2, c.push_reserved-2.ensures.capacity),
      omega (arith, c.self.invariant.3, c.push_reserved.ensures.capacity),
    )
