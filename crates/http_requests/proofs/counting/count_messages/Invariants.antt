use Rattle.std.proofs.Common.{◌-◌, length}
use Rattle.http_requests.proofs.CountLemmas.{Counts}
use Rattle.http_requests.proofs.counting.count_messages.Given as goal

abbrev pub invariant-loop-at : goal.invariant-loop-at
invariant-loop-at l = Counts l.text l.at l.count

abbrev pub decreases-loop-at : goal.decreases-loop-at
decreases-loop-at l = length l.text - l.at
