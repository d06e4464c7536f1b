use Rattle.std.proofs.Common.{◌≡◌, Some, None, arith, set}
use Rattle.stage_graph.specs.Floors.{standing, give_cause}
use Rattle.stage_graph.proofs.Sound.{event_fits, held_below, held_not_done}
use Rattle.stage_graph.specs.declared.event.Event.TheVariants.{Give}
use Rattle.stage_graph.proofs.Moves.{give_allowed, give_known, give_last_stands, empty_slot}
use Rattle.stage_graph.proofs.Lists.{placed}
use Rattle.stage_graph.proofs.floor.Floor.finish.Goals as goal

pub push_reserved-requires : goal.push_reserved-requires
push_reserved-requires g c =
    let p = g.N.RunName.plan in
    let n = g.N.RunName.count in
    let h = c.self.inside.history.items in
    let m = g.C.Item.Named.number_of c.args.item in
    let none : give_cause p (standing p n h) c.args.worker m (g.C.Item.Named.done_of c.args.item) ≡ None = rw c.self.view_is c.requires.cause in
    let stands = c.self.invariant.0 in
    omega (arith, event_fits p n h (Give c.args.worker m) stands.plan stands.legal (give_allowed p n h c.args.worker m (g.C.Item.Named.done_of c.args.item) c.requires.worker none), c.self.inside.history.ok.0, c.self.invariant.2)

pub invariant_of-self : goal.invariant_of-self
invariant_of-self g c =
    let p = g.N.RunName.plan in
    let n = g.N.RunName.count in
    let h = c.self.inside.history.items in
    let m = g.C.Item.Named.number_of c.args.item in
    let none : give_cause p (standing p n h) c.args.worker m (g.C.Item.Named.done_of c.args.item) ≡ None = rw c.self.view_is c.requires.cause in
    let stands = c.self.invariant.0 in
    let known = give_known p (standing p n h) c.args.worker m (g.C.Item.Named.done_of c.args.item) none in
    let below = held_below p n h c.args.worker m stands.plan stands.legal c.requires.worker known.0 in
    let free = held_not_done p n h c.args.worker m stands.plan stands.legal c.requires.worker known.0 in
    let empty = empty_slot _ p n h _ m below free stands in
    let next = give_last_stands _ p n h _ c.args.worker c.args.item c.requires.worker c.requires.last below none stands in
    let put : c.place-placed.new.self ≡ set c.self.inside.slots m (Some c.args.item) = placed c.self.inside.slots m c.place-placed.result _ (rw (← c.number-number.ensures) c.place-placed.ensures.fault) empty.0 empty.1 (rw (← c.number-number.ensures) c.place-placed.ensures.ok) in (
      rw (c.push_reserved.ensures.items, c.number-number.ensures, put) next,
      c.self.invariant.1,
      omega (arith, c.self.invariant.2, c.push_reserved.ensures.capacity),
      c.self.invariant.3,
    )
