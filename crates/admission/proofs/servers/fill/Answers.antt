use Rattle.std.proofs.Common.{◌≡◌, ℕ, ◌<◌, false, true, List, ◌∷◌, ◌∙◌, ap, arith}
use Rattle.std.specs.BinaryHeap.{heap_items, heap_len, heap_capacity}
use Rattle.admission.specs.Servers.{ticks_of}
use Rattle.admission.proofs.HeapLemmas.{ticks-permutation, zero_first, zero_more}
use Rattle.admission.proofs.servers.fill.Goals as goal

pub loop-init : goal.loop-init
loop-init c = record {
  order = rw c.reserve.ensures.items c.requires.order;
  ticks = rw (c.reserve.ensures.items, c.requires.none.0) zero_first;
  len = omega (arith, c.reserve.ensures.len, c.requires.none.1);
  capacity = omega (arith, c.in_ok-reserve.ensures.ok);
  most = c.requires.some;
}

pub unreachable-requires : goal.unreachable-requires
unreachable-requires c =
    let room : heap_len c.loop.others < heap_capacity c.loop.others =
    omega (arith, c.loop.invariant.len, c.loop.invariant.capacity, c.loop-test.true) in
    absurd (let no : false ≡ true = rw c.in_default.is at (c.push.ensures.succeeds room) in cc)

pub loop-preserved : goal.loop-preserved
loop-preserved c = record {
  order = c.in-Ok.ensures.heap_order c.loop.invariant.order;
  ticks = ap (λ (xs : List ℕ). 0 ∷ xs)
      (ticks-permutation (record { 0 = 0 } ∷ heap_items c.loop.others) (heap_items c.push.new.self) c.in-Ok.ensures.permutation)
      ∙ zero_more c.loop.counter (ticks_of (heap_items c.loop.others)) c.loop.invariant.ticks;
  len = omega (arith, c.in-Ok.ensures.len, c.loop.invariant.len);
  capacity = omega (arith, c.in-Ok.ensures.capacity, c.loop.invariant.capacity);
  most = omega (arith, c.loop-test.true);
}
