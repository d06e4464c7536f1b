use Rattle.std.proofs.Common.{◌≡◌}
use Rattle.format_tests.proofs.writing_limits.write_numbered.Given as goal

abbrev pub invariant-loop-number : goal.invariant-loop-number
invariant-loop-number g l = l.output.failures ≡ l.fn.output.failures
