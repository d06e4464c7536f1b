use Rattle.std.proofs.Common.{◌≡◌, arith, sym, ◌∙◌, true, false, take, length, get_or, ◌<◌}
use Rattle.stage_graph.specs.Floors.{standing, is_allowed, is_legal_from_opening}
use Rattle.std.proofs.lemmas.List.{get_or_default}
use Rattle.stage_graph.specs.declared.event.Event.TheVariants.{Feed}
use Rattle.stage_graph.proofs.Replaying.{refused_at}
use Rattle.stage_graph.proofs.legality.replay_with.Goals as goal

pub returns-then-not-is_allowed : goal.returns-then-not-is_allowed
returns-then-not-is_allowed g c =
    let p = g.N.RunName.plan in
    let n = g.N.RunName.count in
    let h = c.args.history.now in
    let k = c.loop-place.place in
    let e = get_or h k (Feed 0) in
    let at : c.loop-place.floor ≡ take k h = c.loop-place.invariant in
    let inside : k < length h = omega arith in
    let denied : is_allowed p (standing p n (take k h)) e ≡ false = rw (← at) (sym c.is_allowed.ensures ∙ c.if-not-is_allowed.true) in
    let before : is_legal_from_opening p n (take k h) ≡ true = rw (← at, ← c.floor.view_is) c.floor.invariant.0.legal in
    rw (c.requires.plan, c.requires.count) (refused_at p n h k e inside (get_or_default h k (Feed 0) e inside) before denied)
