use Rattle.std.proofs.Common.{refl}
use Rattle.std.specs.BinaryHeap.{heap_items}
use Rattle.admission.proofs.HeapLemmas.{exchanged, from-bound}
use Rattle.admission.proofs.servers.exchange.Goals as goal

pub returns-clause-ticks : goal.returns-clause-ticks
returns-clause-ticks c =
    exchanged c.args.finish c.in-Some.field-0 (record { 0 = c.args.finish }) (heap_items c.args.others.now) (heap_items c.push.new.self)
    (heap_items c.pop.new.self) refl c.in-Ok.ensures.permutation c.in-Some.ensures.permutation
    (from-bound c.in-Some.field-0 (heap_items c.pop.new.self)
    (c.in-Some.ensures.below_top (c.in-Ok.ensures.heap_order c.requires.order)))

pub returns-clause-least : goal.returns-clause-least
returns-clause-least c =
    from-bound c.in-Some.field-0 (heap_items c.pop.new.self)
    (c.in-Some.ensures.below_top (c.in-Ok.ensures.heap_order c.requires.order))
