use Rattle.std.proofs.Common.{◌≤◌, ◌≡◌, ◌+◌, ◌-◌, length, drop}
use Rattle.http_requests.specs.Reference.{blank_len}
use Rattle.inspection.proofs.tails.blanks.Given as goal

abbrev pub invariant-loop-i : goal.invariant-loop-i
invariant-loop-i l = (l.i ≤ length l.s) × (blank_len l.s ≡ l.i + blank_len (drop l.i l.s))

abbrev pub decreases-loop-i : goal.decreases-loop-i
decreases-loop-i l = length l.s - l.i
