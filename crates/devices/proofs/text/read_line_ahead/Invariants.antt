use Rattle.std.proofs.Common.{◌≡◌, ◌≤◌, ◌-◌, length, take}
use Rattle.devices.proofs.Taking.{TakesLine}
use Rattle.devices.proofs.text.read_line_ahead.Given as goal

abbrev pub invariant-loop-len : goal.invariant-loop-len
invariant-loop-len g l = TakesLine l.fn.input.bytes l.fn.left l.input.bytes l.left (take l.len l.bytes)
    × (l.len ≤ 65) × (l.input.failures ≡ l.fn.input.failures) × (length l.bytes ≡ 65)

abbrev pub decreases-loop-len : goal.decreases-loop-len
decreases-loop-len g l = 65 - l.len
