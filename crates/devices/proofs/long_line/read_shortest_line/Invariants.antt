use Rattle.std.proofs.Common.{◌≡◌, ◌≤◌, ◌-◌, length}
use Rattle.devices.proofs.Taking.{TakesLine}
use Rattle.devices.proofs.long_line.read_shortest_line.Given as goal

abbrev pub invariant-loop-line : goal.invariant-loop-line
invariant-loop-line g l = TakesLine l.fn.input.bytes l.fn.left l.input.bytes l.left l.line
    × (length l.line ≤ 65) × (l.input.failures ≡ l.fn.input.failures)

abbrev pub decreases-loop-line : goal.decreases-loop-line
decreases-loop-line g l = 65 - length l.line
