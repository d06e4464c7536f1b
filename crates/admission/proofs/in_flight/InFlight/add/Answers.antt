use Rattle.std.specs.BinaryHeap.{heap_items}
use Rattle.admission.specs.declared.in_flight.Response.{Response}
use Rattle.admission.proofs.FlightLemmas.{flight_behind, is_behind, flight_pushed, is_pushed}
use Rattle.admission.proofs.in_flight.InFlight.add.Goals as goal

pub invariant_of-self-then-self-completion : goal.invariant_of-self-then-self-completion
invariant_of-self-then-self-completion c =
    let response : Response = record { completion = c.args.completion; number = c.self.inside.admitted; sample = c.args.sample } in
    is_behind c.self.inside.latest response c.self.inside.queue.items c.push_back.new.self.items (heap_items c.self.inside.others)
    c.self.invariant c.if-self-completion.true c.in_ok-push_back.ensures.items

pub returns-then-self-completion-clause-ok : goal.returns-then-self-completion-clause-ok
returns-then-self-completion-clause-ok c =
    let response : Response = record { completion = c.args.completion; number = c.self.inside.admitted; sample = c.args.sample } in
    rw (← c.self.view_is)
    (flight_behind c.self.inside.latest response c.self.inside.queue.items c.push_back.new.self.items (heap_items c.self.inside.others)
    c.self.invariant c.in_ok-push_back.ensures.items)

pub invariant_of-self-2 : goal.invariant_of-self-2
invariant_of-self-2 c =
    let response : Response = record { completion = c.args.completion; number = c.self.inside.admitted; sample = c.args.sample } in
    is_pushed c.self.inside.latest response c.self.inside.queue.items (heap_items c.self.inside.others) (heap_items c.push.new.self)
    c.self.invariant c.in_ok-push.ensures.permutation c.in_ok-push.ensures.heap_order

pub returns-clause-ok : goal.returns-clause-ok
returns-clause-ok c =
    let response : Response = record { completion = c.args.completion; number = c.self.inside.admitted; sample = c.args.sample } in
    rw (← c.self.view_is)
    (flight_pushed c.self.inside.latest response c.self.inside.queue.items (heap_items c.self.inside.others) (heap_items c.push.new.self)
    c.self.invariant c.in_ok-push.ensures.permutation)
