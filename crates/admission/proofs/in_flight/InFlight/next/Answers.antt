use Rattle.std.proofs.Common.{◌≡◌, ◌<◌, length, arith, rules}
use Rattle.std.specs.BinaryHeap.{heap_items, heap_len}
use Rattle.admission.proofs.FlightLemmas.{next_queued, least_queued, next_on_top, least_on_top, next_none}
use Rattle.admission.proofs.in_flight.InFlight.next.Goals as goal

pub returns-in-Some-clause-next : goal.returns-in-Some-clause-next
returns-in-Some-clause-next c =
    rw (← c.self.view_is)
    (next_queued c.self.inside.admitted c.self.inside.latest c.in-Some.first c.self.inside.queue.items (heap_items c.self.inside.others)
    c.self.invariant c.in-Some.ensures.leads)

pub returns-in-Some-clause-least : goal.returns-in-Some-clause-least
returns-in-Some-clause-least c =
    rw (← c.self.view_is)
    (least_queued c.self.inside.admitted c.self.inside.latest c.in-Some.first c.self.inside.queue.items (heap_items c.self.inside.others)
    c.self.invariant c.in-Some.ensures.leads)

pub returns-in-Some-peek-clause-next : goal.returns-in-Some-peek-clause-next
returns-in-Some-peek-clause-next c =
    let long : length (heap_items c.self.inside.others) ≡ heap_len c.self.inside.others = search rules in
    let some : 0 < heap_len c.self.inside.others = search rules in
    rw (← c.self.view_is)
    (next_on_top c.self.inside.admitted c.self.inside.latest c.in-Some-peek.next.now c.self.inside.queue.items
    (heap_items c.self.inside.others) c.self.invariant c.in_default.ensures.follows (omega (arith, long, some))
    c.in-Some-peek.ensures.lookup (c.in-Some-peek.ensures.greatest c.self.invariant.order))

pub returns-in-Some-peek-clause-least : goal.returns-in-Some-peek-clause-least
returns-in-Some-peek-clause-least c =
    let long : length (heap_items c.self.inside.others) ≡ heap_len c.self.inside.others = search rules in
    let some : 0 < heap_len c.self.inside.others = search rules in
    rw (← c.self.view_is)
    (least_on_top c.self.inside.admitted c.self.inside.latest c.in-Some-peek.next.now c.self.inside.queue.items
    (heap_items c.self.inside.others) c.self.invariant c.in_default.ensures.follows (omega (arith, long, some))
    c.in-Some-peek.ensures.lookup (c.in-Some-peek.ensures.greatest c.self.invariant.order))

pub returns-in-None-clause-next : goal.returns-in-None-clause-next
returns-in-None-clause-next c =
    let long : length (heap_items c.self.inside.others) ≡ heap_len c.self.inside.others = search rules in
    let none : heap_len c.self.inside.others ≡ 0 = search rules in
    rw (← c.self.view_is)
    (next_none c.self.inside.admitted c.self.inside.queue.items (heap_items c.self.inside.others) c.in_default.ensures.follows
    (omega (arith, long, none)))
