use Rattle.std.specs.BinaryHeap.{heap_items}
use Rattle.admission.proofs.FlightLemmas.{flight_none, is_none}
use Rattle.admission.proofs.in_flight.InFlight.new.Goals as goal

pub invariant_of-result : goal.invariant_of-result
invariant_of-result c =
    is_none c.new.result.items (heap_items c.new-2.result) c.new.ensures.items c.new-2.ensures.items c.new-2.ensures.heap_order

pub returns : goal.returns
returns c = flight_none c.new.result.items (heap_items c.new-2.result) c.new.ensures.items c.new-2.ensures.items
