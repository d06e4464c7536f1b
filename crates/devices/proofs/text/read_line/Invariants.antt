use Rattle.std.proofs.Common.{◌≡◌, length}
use Rattle.devices.proofs.Taking.{TakesLine}
use Rattle.devices.proofs.text.read_line.Given as goal

abbrev pub invariant-loop : goal.invariant-loop
invariant-loop g l = TakesLine l.fn.input.bytes l.fn.left l.input.bytes l.left l.line
    × (length l.line ≡ l.counter) × (l.input.failures ≡ l.fn.input.failures)
