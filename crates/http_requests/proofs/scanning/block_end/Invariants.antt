use Rattle.std.proofs.Common.{◌-◌, ◌≤◌}
use Rattle.http_requests.specs.Scanning.{NoEndIn}
use Rattle.http_requests.proofs.scanning.block_end.Given as goal

abbrev pub invariant-loop-at : goal.invariant-loop-at
invariant-loop-at l = record { two : 2 ≤ l.at; within : l.at ≤ l.last; none : NoEndIn l.at l.s }

abbrev pub decreases-loop-at : goal.decreases-loop-at
decreases-loop-at l = l.last - l.at
