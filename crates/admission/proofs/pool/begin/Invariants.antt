use Rattle.std.proofs.Common.{◌≡◌, ◌≤◌}
use Rattle.std.specs.VecDeque.{deque_len, deque_capacity}
use Rattle.admission.specs.Running.{ahead}
use Rattle.admission.proofs.pool.begin.Given as goal

abbrev pub invariant-loop-first : goal.invariant-loop-first
invariant-loop-first l = record {
  same : ahead l.tick l.starts.items ≡ ahead l.tick l.fn.starts.items;
  len : deque_len l.starts ≤ deque_len l.fn.starts;
  capacity : deque_capacity l.starts ≡ deque_capacity l.fn.starts;
}

abbrev pub decreases-loop-first : goal.decreases-loop-first
decreases-loop-first l = deque_len l.starts
