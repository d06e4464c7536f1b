use Rattle.std.proofs.Common.{◌≡◌, ◌+◌, None, arith, ap, ◌∙◌, get_or}
use Rattle.stage_graph.specs.Layouts.{stage_at}
use Rattle.stage_graph.specs.Floors.{standing, give_cause}
use Rattle.stage_graph.proofs.Causes.{may_give}
use Rattle.stage_graph.proofs.Sound.{event_fits}
use Rattle.stage_graph.specs.declared.event.Event.TheVariants.{Give}
use Rattle.stage_graph.proofs.Moves.{give_allowed, give_next_stands, queue_not_full, next_in}
use Rattle.stage_graph.proofs.floor.Floor.pass_on.Goals as goal

pub put-requires : goal.put-requires
put-requires g c =
    let p = g.N.RunName.plan in
    let n = g.N.RunName.count in
    let h = c.self.inside.history.items in
    let m = g.C.Item.Named.number_of c.args.item in
    let none : give_cause p (standing p n h) c.args.worker m (g.C.Item.Named.done_of c.args.item) ≡ None = rw c.self.view_is c.requires.cause in
    let stands = c.self.invariant.0 in
    let at : c.stage-next.result ≡ stage_at p c.args.worker = c.stage-next.ensures.stage ∙ ap (λ q. stage_at q c.args.worker) c.self.invariant.1 in
    let is : c.index_mut.result.now ≡ get_or c.self.inside.queues.items (stage_at p c.args.worker + 1) c.index_mut.result.now = rw (← at) c.index_mut.ensures.value in
    (queue_not_full _ p n h _ (stage_at p c.args.worker + 1) c.index_mut.result.now (next_in p c.args.worker stands.plan c.requires.worker c.requires.more) is (may_give p (standing p n h) c.args.worker m _ none c.requires.more) stands).1

pub push_reserved-requires : goal.push_reserved-requires
push_reserved-requires g c =
    let p = g.N.RunName.plan in
    let n = g.N.RunName.count in
    let h = c.self.inside.history.items in
    let m = g.C.Item.Named.number_of c.args.item in
    let none : give_cause p (standing p n h) c.args.worker m (g.C.Item.Named.done_of c.args.item) ≡ None = rw c.self.view_is c.requires.cause in
    let stands = c.self.invariant.0 in
    omega (arith, event_fits p n h (Give c.args.worker m) stands.plan stands.legal (give_allowed p n h c.args.worker m (g.C.Item.Named.done_of c.args.item) c.requires.worker none), c.self.inside.history.ok.0, c.self.invariant.2)

pub invariant_of-self : goal.invariant_of-self
invariant_of-self g c =
    let p = g.N.RunName.plan in
    let n = g.N.RunName.count in
    let h = c.self.inside.history.items in
    let m = g.C.Item.Named.number_of c.args.item in
    let none : give_cause p (standing p n h) c.args.worker m (g.C.Item.Named.done_of c.args.item) ≡ None = rw c.self.view_is c.requires.cause in
    let stands = c.self.invariant.0 in
    let at : c.stage-next.result ≡ stage_at p c.args.worker = c.stage-next.ensures.stage ∙ ap (λ q. stage_at q c.args.worker) c.self.invariant.1 in
    let v = c.index_mut.result.now in
    let is : v ≡ get_or c.self.inside.queues.items (stage_at p c.args.worker + 1) v = rw (← at) c.index_mut.ensures.value in
    let not_full = queue_not_full _ p n h _ (stage_at p c.args.worker + 1) v (next_in p c.args.worker stands.plan c.requires.worker c.requires.more) is (may_give p (standing p n h) c.args.worker m _ none c.requires.more) stands in
    let next = give_next_stands _ p n h _ c.args.worker c.args.item v c.requires.worker c.requires.more not_full.0 none stands in (
      rw (c.push_reserved.ensures.items, c.put.ensures, c.number-number.ensures, at) next,
      c.self.invariant.1,
      omega (arith, c.self.invariant.2, c.push_reserved.ensures.capacity),
      c.self.invariant.3,
    )
