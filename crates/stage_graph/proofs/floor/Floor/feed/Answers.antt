use Rattle.std.proofs.Common.{◌≡◌, None, arith}
use Rattle.stage_graph.specs.Floors.{standing, feed_cause}
use Rattle.stage_graph.proofs.Causes.{may_feed}
use Rattle.stage_graph.proofs.Moves.{feed_allowed, feed_stands, queue_not_full}
use Rattle.stage_graph.proofs.Sound.{event_fits}
use Rattle.stage_graph.specs.declared.event.Event.TheVariants.{Feed}
use Rattle.stage_graph.proofs.floor.Floor.feed.Goals as goal

pub put-requires : goal.put-requires
put-requires g c =
    let h = c.self.inside.history.items in
    let none : feed_cause g.N.RunName.plan (standing g.N.RunName.plan g.N.RunName.count h) ≡ None = cc in
    let stands = c.self.invariant.0 in
    (queue_not_full _ g.N.RunName.plan g.N.RunName.count h _ 0 c.index_mut.result.now stands.plan.some c.index_mut.ensures.value (may_feed g.N.RunName.plan (standing g.N.RunName.plan g.N.RunName.count h) none).not_full stands).1

pub push_reserved-requires : goal.push_reserved-requires
push_reserved-requires g c =
    let h = c.self.inside.history.items in
    let none : feed_cause g.N.RunName.plan (standing g.N.RunName.plan g.N.RunName.count h) ≡ None = cc in
    let stands = c.self.invariant.0 in
    let ok = feed_allowed _ g.N.RunName.plan g.N.RunName.count h _ c.in-Some-pop_front.item c.pop_front.new.self.items c.in-Some-pop_front.ensures.items none stands in
    omega (arith, event_fits g.N.RunName.plan g.N.RunName.count h (Feed (g.C.Item.Named.number_of c.in-Some-pop_front.item)) stands.plan stands.legal ok, c.self.inside.history.ok.0, c.self.invariant.2)

pub invariant_of-self-2 : goal.invariant_of-self-2
invariant_of-self-2 g c =
    let h = c.self.inside.history.items in
    let none : feed_cause g.N.RunName.plan (standing g.N.RunName.plan g.N.RunName.count h) ≡ None = cc in
    let stands = c.self.invariant.0 in
    let v = c.index_mut.result.now in
    let at = queue_not_full _ g.N.RunName.plan g.N.RunName.count h _ 0 v stands.plan.some c.index_mut.ensures.value (may_feed g.N.RunName.plan (standing g.N.RunName.plan g.N.RunName.count h) none).not_full stands in
    let next = feed_stands _ g.N.RunName.plan g.N.RunName.count h _ c.in-Some-pop_front.item c.pop_front.new.self.items v c.in-Some-pop_front.ensures.items at.0 none stands in (
      rw (c.push_reserved.ensures.items, c.put.ensures, c.number-number.ensures) next,
      c.self.invariant.1,
      omega (arith, c.self.invariant.2, c.push_reserved.ensures.capacity),
      c.self.invariant.3,
    )
