use Rattle.std.proofs.Common.{◌≡◌, ◌+◌, ◌++◌, take}
use Rattle.std.specs.List.{flat_map}
use Rattle.std.specs.String.{string_bytes}
use Rattle.report.specs.Reports.{numbered_from, numbered_lines, control_line}
use Rattle.report.proofs.reports.write_controls_after.Given as goal

abbrev pub invariant-loop-index : goal.invariant-loop-index
invariant-loop-index l = string_bytes l.text ≡ string_bytes l.initial.text
    ++ flat_map (numbered_lines control_line) (numbered_from (l.fn.others + 1) (take l.index l.controls))
