use Rattle.std.proofs.Common.{◌≡◌, length, rules}
use Rattle.std.specs.Prelude.{IfNone}
use Rattle.std.specs.BinaryHeap.{heap_items}
use Rattle.admission.proofs.FlightLemmas.{flight_queued, is_queued, flight_popped, is_popped}
use Rattle.admission.proofs.in_flight.InFlight.take.Goals as goal

pub invariant_of-self : goal.invariant_of-self
invariant_of-self c =
    is_queued c.self.inside.admitted c.self.inside.latest c.in-Some.field-0 c.self.inside.queue.items c.pop_front.new.self.items
    (heap_items c.self.inside.others) c.self.invariant c.in-Some.ensures.leads c.pop_front.ensures.rest

pub returns-in-Some : goal.returns-in-Some
returns-in-Some c =
    rw (← c.self.view_is)
    (flight_queued c.self.inside.admitted c.self.inside.latest c.in-Some.field-0 c.self.inside.queue.items c.pop_front.new.self.items
    (heap_items c.self.inside.others) c.self.invariant c.in-Some.ensures.leads c.pop_front.ensures.rest)

pub invariant_of-self-2 : goal.invariant_of-self-2
invariant_of-self-2 c =
    let same : IfNone c.pop.result (heap_items c.pop.new.self ≡ heap_items c.self.inside.others) = search rules in
    is_popped c.self.inside.admitted c.self.inside.latest c.pop.result c.self.inside.queue.items (heap_items c.self.inside.others)
    (heap_items c.pop.new.self) c.self.invariant c.in_default.ensures.follows c.pop.ensures.top c.pop.ensures.permutation
    c.pop.ensures.below_top (search rules) same

pub returns : goal.returns
returns c =
    let same : IfNone c.pop.result (heap_items c.pop.new.self ≡ heap_items c.self.inside.others) = search rules in
    let none : IfNone c.pop.result (length (heap_items c.self.inside.others) ≡ 0) = search rules in
    rw (← c.self.view_is)
    (flight_popped c.self.inside.admitted c.self.inside.latest c.pop.result c.self.inside.queue.items (heap_items c.self.inside.others)
    (heap_items c.pop.new.self) c.self.invariant c.in_default.ensures.follows c.pop.ensures.top c.pop.ensures.permutation
    c.pop.ensures.below_top same none)
