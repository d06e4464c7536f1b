use Rattle.std.proofs.Common.{◌≡◌, ◌≤◌, ◌-◌, take, length}
use Rattle.devices.proofs.Taking.{Takes}
use Rattle.devices.proofs.text.fill.Given as goal

abbrev pub invariant-loop-filled : goal.invariant-loop-filled
invariant-loop-filled g l = Takes l.fn.input.bytes l.fn.left l.input.bytes l.left (take l.filled l.buffer)
    × (l.filled ≤ length l.buffer) × (l.input.failures ≡ l.fn.input.failures)

abbrev pub decreases-loop-filled : goal.decreases-loop-filled
decreases-loop-filled g l = length l.buffer - l.filled
