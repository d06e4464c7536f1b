use Rattle.std.proofs.Common.{◌≡◌, ◌+◌, ◌≤◌, ◌∷◌, replicate}
use Rattle.std.specs.BinaryHeap.{heap_items, heap_len, heap_capacity}
use Rattle.admission.specs.Reference.{sorted}
use Rattle.admission.specs.Servers.{ticks_of, IsOrdered}
use Rattle.admission.proofs.servers.fill.Given as goal

abbrev pub invariant-loop : goal.invariant-loop
invariant-loop l = record {
  order : IsOrdered (heap_items l.others);
  ticks : 0 ∷ sorted (ticks_of (heap_items l.others)) ≡ replicate l.counter 0;
  len : heap_len l.others + 1 ≡ l.counter;
  capacity : l.servers ≤ heap_capacity l.others;
  most : l.counter ≤ l.servers;
}
