use Rattle.std.proofs.Common.{◌≡◌, take}
use Rattle.std.specs.Io.KnownBytes.{Appends}
use Rattle.report.specs.Reports.{reject_lines}
use Rattle.report.proofs.writing.write_rejects.Given as goal

-- the lines so far are written
abbrev pub invariant-loop-number : goal.invariant-loop-number
invariant-loop-number g l = Appends l.fn.out.bytes l.out.bytes (reject_lines (take l.number-index l.rejected)) × (l.out.failures ≡ l.fn.out.failures)
