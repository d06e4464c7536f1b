use Rattle.std.proofs.Common.{◌≡◌, arith}
use Rattle.std.specs.BinaryHeap.{heap_items}
use Rattle.admission.specs.Servers.{ticks_of}
use Rattle.admission.proofs.HeapLemmas.{from-zero, zero_first}
use Rattle.admission.proofs.servers.Servers.new.Goals as goal
use Rattle.admission.proofs.servers.Servers.new.Goals.{then-servers-gt1+in_ok-fill, else-servers-gt1}

pub invariant_of-result : goal.invariant_of-result
invariant_of-result c =
    elim c.if-servers-gt1.branch [
      | then-servers-gt1+in_ok-fill w ↦ rw w.others-is (record {
        order = w.in_ok-fill.ensures.order;
        later = from-zero (ticks_of (heap_items w.fill.new.others));
        room = λ some. omega (arith, w.in_ok-fill.ensures.len, w.in_ok-fill.ensures.capacity);
      })
      | else-servers-gt1 w ↦ rw w.others-is (record {
        order = c.new-others.ensures.heap_order;
        later = from-zero (ticks_of (heap_items c.new-others.result));
        room = λ some. absurd (omega (arith, c.new-others.ensures.len, some));
      })
    ]

pub returns : goal.returns
returns c =
    elim c.if-servers-gt1.branch [
      | then-servers-gt1+in_ok-fill w ↦ rw w.others-is w.in_ok-fill.ensures.ticks
      | else-servers-gt1 w ↦
          let one : c.args.servers ≡ 1 = omega (arith, c.requires.0, w.if-servers-gt1.false) in
          rw (w.others-is, c.new-others.ensures.items, one) zero_first
    ]
