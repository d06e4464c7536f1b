use Rattle.std.proofs.Common.{◌≡◌}
use Rattle.format_tests.proofs.writing.write_allowed.Given as goal

abbrev pub invariant-loop-file : goal.invariant-loop-file
invariant-loop-file g l = l.output.failures ≡ l.fn.output.failures
