use Rattle.std.proofs.Common.{◌≡◌, take}
use Rattle.snapshots.specs.Writers.{Took}
use Rattle.format_tests.proofs.writing.write_files.Given as goal

abbrev pub invariant-loop-file : goal.invariant-loop-file
invariant-loop-file g l = Took (take l.file-index l.files) l.fn.output.bytes l.output.bytes l.writer × (l.output.failures ≡ l.fn.output.failures)
