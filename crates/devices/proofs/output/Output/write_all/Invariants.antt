use Rattle.std.proofs.Common.{◌≡◌, true, ◌≤◌, ◌-◌, length, take}
use Rattle.std.specs.Io.KnownBytes.{Appends}
use Rattle.devices.proofs.output.Output.write_all.Given as goal

abbrev pub invariant-loop-written : goal.invariant-loop-written
invariant-loop-written g l = Appends l.fn.self.bytes l.self.bytes (take l.written l.bytes)
    × (l.written ≤ length l.bytes) × (l.self.failures ≡ l.fn.self.failures)
    × (l.fn.self.over ≡ true → l.self.bytes ≡ l.fn.self.bytes) × (l.self.over ≡ l.fn.self.over)

abbrev pub decreases-loop-written : goal.decreases-loop-written
decreases-loop-written g l = length l.bytes - l.written
