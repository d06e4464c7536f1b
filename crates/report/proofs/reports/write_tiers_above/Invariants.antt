use Rattle.std.proofs.Common.{◌≡◌, ◌++◌, take}
use Rattle.std.specs.List.{flat_map}
use Rattle.std.specs.String.{string_bytes}
use Rattle.report.specs.Reports.{numbered_from, numbered_lines, tier_lines}
use Rattle.report.proofs.reports.write_tiers_above.Given as goal

abbrev pub invariant-loop-index : goal.invariant-loop-index
invariant-loop-index l = string_bytes l.text ≡ string_bytes l.initial.text
    ++ flat_map (numbered_lines (tier_lines l.version)) (numbered_from 1 (take l.index l.tallies))
