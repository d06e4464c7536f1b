use Rattle.std.proofs.Common.{◌≡◌, arith, sym, ap, ◌∙◌, map, slice_get, get_or, Some, None, []}
use Rattle.std.specs.Option.{option_copied}
use Rattle.std.proofs.lemmas.List.{get_or_read}
use Rattle.stage_graph.specs.Layouts.{cut_before}
use Rattle.stage_graph.specs.Floors.{standing, queue_at}
use Rattle.stage_graph.specs.After.{with_steps}
use Rattle.stage_graph.proofs.Fronts.{first_some, first_none}
use Rattle.stage_graph.proofs.floor.Floor.is_first.Goals as goal

pub returns-in-Some : goal.returns-in-Some
returns-in-Some g c =
    let p = g.N.RunName.plan in
    let n = g.N.RunName.count in
    let stands = c.self.invariant.0 in
    let v = c.index-queue.result.now in
    let k = c.args.stage in
    let s = standing p n c.self.inside.history.items in
    let is : v ≡ get_or c.self.inside.queues.items k ([], 0) = get_or_read c.self.inside.queues.items k v (omega (arith, stands.stages_are)) c.index-queue.ensures ([], 0) in
    let all : map (λ x. (g.C.Item.Named.number_of x, g.C.Item.Named.done_of x)) v.0 ≡ map (with_steps (cut_before p k)) (queue_at s k) = ap (λ u. map (λ x. (g.C.Item.Named.number_of x, g.C.Item.Named.done_of x)) u.0) is ∙ stands.queues_are k c.requires in
    let top : slice_get v.0 0 ≡ Some c.in-Some.item.now = sym c.front.ensures ∙ ap option_copied c.in-Some.is in
    rw (c.number.ensures, ← c.self.view_is) (first_some (λ x. (g.C.Item.Named.number_of x, g.C.Item.Named.done_of x)) (cut_before p k) v.0 (queue_at s k) c.args.number c.in-Some.item.now all top)

pub returns-in-None : goal.returns-in-None
returns-in-None g c =
    let p = g.N.RunName.plan in
    let n = g.N.RunName.count in
    let stands = c.self.invariant.0 in
    let v = c.index-queue.result.now in
    let k = c.args.stage in
    let s = standing p n c.self.inside.history.items in
    let is : v ≡ get_or c.self.inside.queues.items k ([], 0) = get_or_read c.self.inside.queues.items k v (omega (arith, stands.stages_are)) c.index-queue.ensures ([], 0) in
    let all : map (λ x. (g.C.Item.Named.number_of x, g.C.Item.Named.done_of x)) v.0 ≡ map (with_steps (cut_before p k)) (queue_at s k) = ap (λ u. map (λ x. (g.C.Item.Named.number_of x, g.C.Item.Named.done_of x)) u.0) is ∙ stands.queues_are k c.requires in
    let top : slice_get v.0 0 ≡ None = sym c.front.ensures ∙ ap option_copied c.in-None.is in
    rw (← c.self.view_is) (first_none (λ x. (g.C.Item.Named.number_of x, g.C.Item.Named.done_of x)) (cut_before p k) v.0 (queue_at s k) c.args.number all top)
