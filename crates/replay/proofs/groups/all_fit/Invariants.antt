use Rattle.std.proofs.Common.{◌≡◌, ◌≤◌, take}
use Rattle.std.specs.Prelude.{sum_by}
use Rattle.replay.specs.Groups.{page_len}
use Rattle.replay.proofs.groups.all_fit.Given as goal

-- the pages so far fit
abbrev pub invariant-loop-pending : goal.invariant-loop-pending
invariant-loop-pending g l = (l.held ≡ sum_by (page_len l.fn.snapshot) (take l.pending-index l.pending_replies)) × (l.held ≤ l.fn.capacity)
