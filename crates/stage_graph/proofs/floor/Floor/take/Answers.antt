use Rattle.std.proofs.Common.{◌≡◌, [], None, rules, arith, ap, ◌∙◌, get_or}
use Rattle.stage_graph.specs.Layouts.{stage_at}
use Rattle.stage_graph.specs.Floors.{standing, take_cause}
use Rattle.stage_graph.proofs.Sound.{event_fits}
use Rattle.stage_graph.proofs.Lists.{head_popped}
use Rattle.stage_graph.specs.declared.event.Event.TheVariants.{Take}
use Rattle.stage_graph.proofs.Moves.{take_allowed, take_stands}
use Rattle.std.proofs.lemmas.List.{get_or_read}
use Rattle.stage_graph.proofs.floor.Floor.take.Goals as goal

pub push_reserved-requires : goal.push_reserved-requires
push_reserved-requires g c =
    let p = g.N.RunName.plan in
    let n = g.N.RunName.count in
    let h = c.self.inside.history.items in
    let none : take_cause p (standing p n h) c.args.worker ≡ None = cc in
    let stands = c.self.invariant.0 in
    let v = c.index_mut.result.now in
    let is : v ≡ get_or c.self.inside.queues.items (stage_at p c.args.worker) ([], 0) = get_or_read c.self.inside.queues.items _ v (omega (arith, stands.stages_are)) (search rules) ([], 0) in
    let ok = take_allowed _ p n h _ c.args.worker c.in-Some-pop.item v c.requires is (head_popped v.0 c.in-Some-pop.item cc) none stands in
    omega (arith, event_fits p n h (Take c.args.worker (g.C.Item.Named.number_of c.in-Some-pop.item)) stands.plan stands.legal ok, c.self.inside.history.ok.0, c.self.invariant.2)

pub invariant_of-self-2 : goal.invariant_of-self-2
invariant_of-self-2 g c =
    let p = g.N.RunName.plan in
    let n = g.N.RunName.count in
    let h = c.self.inside.history.items in
    let none : take_cause p (standing p n h) c.args.worker ≡ None = cc in
    let stands = c.self.invariant.0 in
    let v = c.index_mut.result.now in
    let is : v ≡ get_or c.self.inside.queues.items (stage_at p c.args.worker) ([], 0) = get_or_read c.self.inside.queues.items _ v (omega (arith, stands.stages_are)) (search rules) ([], 0) in
    let next = take_stands _ p n h _ c.args.worker c.in-Some-pop.item v c.requires is (head_popped v.0 c.in-Some-pop.item cc) none stands in
    let at : c.stage-stage.result ≡ stage_at p c.args.worker = c.stage-stage.ensures.stage ∙ ap (λ q. stage_at q c.args.worker) c.self.invariant.1 in (
      rw (c.push_reserved.ensures.items, c.pop.ensures.rest, c.number-number.ensures, at) next,
      c.self.invariant.1,
      omega (arith, c.self.invariant.2, c.push_reserved.ensures.capacity),
      c.self.invariant.3,
    )
