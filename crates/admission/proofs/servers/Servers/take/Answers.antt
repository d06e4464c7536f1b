use Rattle.std.proofs.Common.{◌≡◌, length, rules}
use Rattle.std.specs.BinaryHeap.{heap_items, heap_len}
use Rattle.admission.specs.Reference.{sorted}
use Rattle.admission.specs.Servers.{ticks_of}
use Rattle.admission.proofs.HeapLemmas.{from-none, first_exchanged, alone_exchanged, none_of}
use Rattle.admission.proofs.servers.Servers.take.Goals as goal

pub invariant_of-self : goal.invariant_of-self
invariant_of-self c =
    let long : length (heap_items c.self.inside.others) ≡ heap_len c.self.inside.others = search rules in
    let empty : heap_len c.self.inside.others ≡ 0 = search rules in
    record {
      order = c.self.invariant.order;
      later = from-none c.args.finish _ (none_of (heap_items c.self.inside.others) (heap_len c.self.inside.others) long empty);
      room = c.self.invariant.room;
    }

pub returns-then-is_empty : goal.returns-then-is_empty
returns-then-is_empty c =
    let long : length (heap_items c.self.inside.others) ≡ heap_len c.self.inside.others = search rules in
    let empty : heap_len c.self.inside.others ≡ 0 = search rules in
    rw (← c.self.view_is, none_of (heap_items c.self.inside.others) (heap_len c.self.inside.others) long empty)
    (alone_exchanged c.self.inside.first c.args.finish (rw (← c.self.view_is) at c.requires))

pub returns-else-is_empty : goal.returns-else-is_empty
returns-else-is_empty c =
    rw (← c.self.view_is)
    (first_exchanged c.self.inside.first c.args.finish (ticks_of (heap_items c.self.inside.others))
    (sorted (ticks_of (heap_items c.exchange-self-inside.new.others))) c.exchange-self-inside.result
    (rw (← c.self.view_is) at c.requires) c.self.invariant.later c.exchange-self-inside.ensures.ticks)
