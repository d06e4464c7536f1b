use Rattle.std.proofs.Common.{◌≡◌, ◌++◌, take}
use Rattle.std.specs.String.{string_bytes}
use Rattle.report.specs.Reports.{pool_lines}
use Rattle.report.proofs.reports.write_pools.Given as goal

abbrev pub invariant-loop-pool : goal.invariant-loop-pool
invariant-loop-pool l = string_bytes l.text ≡ string_bytes l.initial.text ++ pool_lines (take l.pool l.pools)
