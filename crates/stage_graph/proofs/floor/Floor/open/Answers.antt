use Rattle.std.proofs.Common.{◌≡◌, arith, sym, ap, ◌∙◌, map, take, replicate, None, false, length, subst}
use Rattle.std.proofs.lemmas.List.{take_all}
use Rattle.std.proofs.lemmas.List.FromFn.{length-range_with_len}
use Rattle.stage_graph.specs.Layouts.{IsPlan, stages, workers}
use Rattle.stage_graph.specs.Floors.{most_events}
use Rattle.stage_graph.specs.After.{empty_queue, with_steps}
use Rattle.stage_graph.proofs.Opening.{opening_stands}
use Rattle.stage_graph.proofs.Lists.{length-maps}
use Rattle.std.specs.List.{range_with_len}
use Rattle.stage_graph.proofs.floor.Floor.open.Goals as goal

pub invariant_of-result : goal.invariant_of-result
invariant_of-result g c =
    let p = g.N.RunName.plan in
    let n = g.N.RunName.count in
    let at : c.args.plan ≡ p = c.requires.plan in
    let capacities : c.plan.inside.capacities.items ≡ p.capacities = ap (λ l. l.capacities) (c.plan.view_is ∙ at) in
    let plan : IsPlan p = subst IsPlan at c.stages-stages.ensures.plan in
    let worker_count : c.workers-workers.result ≡ workers p = c.workers-workers.ensures ∙ ap workers at in
    let many : c.stages-stages.result ≡ length p.capacities = c.stages-stages.ensures.count ∙ (ap stages at ∙ sym plan.capacities) in
    let all : c.loop-stage.queues.items ≡ map empty_queue p.capacities =
    c.loop-stage.invariant.0 ∙ (ap (λ r. map empty_queue (take c.loop-stage.stage r)) capacities ∙ ap (map empty_queue) (take_all c.loop-stage.stage p.capacities (omega arith))) in
    let turn : c.loop-worker._worker ≡ workers p = omega arith in
    let worker_slots : c.loop-worker.worker_slots.items ≡ replicate (workers p) None = c.loop-worker.invariant.0 ∙ ap (λ k. replicate k None) turn in
    let left : c.loop-worker.left.items ≡ replicate (workers p) false = c.loop-worker.invariant.1 ∙ ap (λ k. replicate k false) turn in
    let backlog : map (λ x. (g.C.Item.Named.number_of x, g.C.Item.Named.done_of x)) c.from_vec.result.items ≡ map (with_steps 0) (range_with_len 0 n) = rw c.from_vec.ensures.items c.requires.fresh in
    let count : c.len-count.result ≡ n = omega (arith, c.len-count.ensures, c.args.items.ok.0, length-maps _ (with_steps 0) c.args.items.items (range_with_len 0 n) c.requires.fresh, length-range_with_len 0 n) in
    let tall : c.stages-stages.result ≡ stages p = c.stages-stages.ensures.count ∙ ap stages at in
    let events : c.in-Some.events ≡ most_events p n = cc (c.in-Some.ensures, count, tall, worker_count) in
    let slots : c.in_ok-slots.slots ≡ replicate n None = c.in_ok-slots.ensures ∙ ap (λ k. replicate k None) count in (
      rw c.in_ok-history.ensures.items (opening_stands _ p n c.from_vec.result.items c.loop-stage.queues.items c.loop-worker.worker_slots.items c.in_ok-slots.slots c.in_ok-returned.returned.items c.loop-worker.left.items plan backlog all worker_slots slots c.in_ok-returned.ensures.items left),
      at,
      omega (arith, c.in_ok-history.ensures.exact, events),
      omega (arith, c.in_ok-returned.ensures.exact, count),
    )
