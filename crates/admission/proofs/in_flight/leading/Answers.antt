use Rattle.std.proofs.Common.{◌≡◌, ◌<◌, length, true, false, arith, rules}
use Rattle.std.specs.BinaryHeap.{heap_items, heap_len}
use Rattle.std.specs.VecDeque.{deque_len}
use Rattle.admission.specs.InFlight.{is_after}
use Rattle.admission.proofs.FlightLemmas.{leads_alone, leads_top, follows_top}
use Rattle.admission.proofs.in_flight.leading.Goals as goal

pub returns-in_default-peek-clause-leads : goal.returns-in_default-peek-clause-leads
returns-in_default-peek-clause-leads c =
    let long : length c.args.queue.now.items ≡ deque_len c.args.queue.now = search rules in
    let some : 0 < deque_len c.args.queue.now = search rules in
    let many : length (heap_items c.args.others.now) ≡ heap_len c.args.others.now = search rules in
    let none : heap_len c.args.others.now ≡ 0 = search rules in
    leads_alone c.args.queue.now.items (heap_items c.args.others.now) c.in-Some.first.now (omega (arith, long, some))
    c.in-Some.ensures.lookup (omega (arith, many, none))

pub returns-then-lt-clause-leads : goal.returns-then-lt-clause-leads
returns-then-lt-clause-leads c =
    let long : length c.args.queue.now.items ≡ deque_len c.args.queue.now = search rules in
    let some : 0 < deque_len c.args.queue.now = search rules in
    let before : is_after c.in-Some-peek.other.now.0 c.in-Some.first.now ≡ true = search rules in
    leads_top c.args.queue.now.items (heap_items c.args.others.now) c.in-Some.first.now c.in-Some-peek.other.now
    (omega (arith, long, some)) c.in-Some.ensures.lookup (c.in-Some-peek.ensures.greatest c.requires) before

pub returns-clause-follows : goal.returns-clause-follows
returns-clause-follows c =
    let long : length c.args.queue.now.items ≡ deque_len c.args.queue.now = search rules in
    let some : 0 < deque_len c.args.queue.now = search rules in
    let many : length (heap_items c.args.others.now) ≡ heap_len c.args.others.now = search rules in
    let any : 0 < heap_len c.args.others.now = search rules in
    let upto : is_after c.in-Some-peek.other.now.0 c.in-Some.first.now ≡ false = search rules in
    follows_top c.args.queue.now.items (heap_items c.args.others.now) c.in-Some.first.now c.in-Some-peek.other.now
    (omega (arith, long, some)) c.in-Some.ensures.lookup (omega (arith, many, any)) c.in-Some-peek.ensures.lookup upto
