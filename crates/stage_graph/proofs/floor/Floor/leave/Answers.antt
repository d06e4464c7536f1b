use Rattle.std.proofs.Common.{◌≡◌, None, arith}
use Rattle.stage_graph.specs.Floors.{standing, leave_cause}
use Rattle.stage_graph.proofs.Sound.{event_fits}
use Rattle.stage_graph.specs.declared.event.Event.TheVariants.{Leave}
use Rattle.stage_graph.proofs.Moves.{leave_stands, leave_allowed}
use Rattle.stage_graph.proofs.floor.Floor.leave.Goals as goal

pub push_reserved-requires : goal.push_reserved-requires
push_reserved-requires g c =
    let p = g.N.RunName.plan in
    let n = g.N.RunName.count in
    let h = c.self.inside.history.items in
    let none : leave_cause p (standing p n h) c.args.worker ≡ None = cc in
    let stands = c.self.invariant.0 in
    omega (arith, event_fits p n h (Leave c.args.worker) stands.plan stands.legal (leave_allowed p n h c.args.worker c.requires none), c.self.inside.history.ok.0, c.self.invariant.2)

pub invariant_of-self : goal.invariant_of-self
invariant_of-self g c =
    let p = g.N.RunName.plan in
    let n = g.N.RunName.count in
    let h = c.self.inside.history.items in
    let none : leave_cause p (standing p n h) c.args.worker ≡ None = cc in
    let stands = c.self.invariant.0 in
    let next = leave_stands _ p n h _ c.args.worker c.requires none stands in (
      rw (c.push_reserved.ensures.items) next,
      c.self.invariant.1,
      omega (arith, c.self.invariant.2, c.push_reserved.ensures.capacity),
      c.self.invariant.3,
    )
