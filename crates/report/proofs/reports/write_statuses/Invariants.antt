use Rattle.std.proofs.Common.{◌≡◌, ◌++◌, take, length}
use Rattle.std.specs.List.{flat_map}
use Rattle.std.specs.String.{string_bytes}
use Rattle.report.specs.Reports.{by_status}
use Rattle.report.proofs.Lines.{line_of}
use Rattle.report.proofs.reports.write_statuses.Given as goal

abbrev pub invariant-loop-status : goal.invariant-loop-status
invariant-loop-status l =
    string_bytes l.text ≡ string_bytes l.initial.text
    ++ flat_map line_of (take (length l.yielded) (by_status l.fn.counts))
