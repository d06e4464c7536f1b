use Rattle.std.proofs.Common.{◌≡◌, None, arith, ap, refl}
use Rattle.stage_graph.specs.Floors.{standing, halt_cause}
use Rattle.stage_graph.proofs.Sound.{event_fits}
use Rattle.stage_graph.specs.declared.event.Event.TheVariants.{Halt}
use Rattle.stage_graph.proofs.Moves.{halt_stands}
use Rattle.std.specs.Option.{is_none}
use Rattle.stage_graph.proofs.floor.Floor.halt.Goals as goal

pub push_reserved-requires : goal.push_reserved-requires
push_reserved-requires g c =
    let p = g.N.RunName.plan in
    let n = g.N.RunName.count in
    let h = c.self.inside.history.items in
    let stands = c.self.invariant.0 in
    let none : halt_cause (standing p n h) ≡ None = rw (← stands.stopped_is, c.if-self.false) refl in
    omega (arith, event_fits p n h Halt stands.plan stands.legal (ap is_none none), c.self.inside.history.ok.0, c.self.invariant.2)

pub invariant_of-self : goal.invariant_of-self
invariant_of-self g c =
    let p = g.N.RunName.plan in
    let n = g.N.RunName.count in
    let h = c.self.inside.history.items in
    let stands = c.self.invariant.0 in
    let none : halt_cause (standing p n h) ≡ None = rw (← stands.stopped_is, c.if-self.false) refl in
    let next = halt_stands _ p n h _ none stands in (
      rw (c.push_reserved.ensures.items) next,
      c.self.invariant.1,
      omega (arith, c.self.invariant.2, c.push_reserved.ensures.capacity),
      c.self.invariant.3,
    )
