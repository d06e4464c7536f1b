use Rattle.std.proofs.Common.{rules, arith, ◌+◌}
use Rattle.report.specs.Reports.{tier_lines}
use Rattle.report.proofs.Lines.{numbered-none, numbered-more}
use Rattle.report.proofs.reports.write_tiers_above.Goals as goal

pub loop-index-init : goal.loop-index-init
loop-index-init c = numbered-none (tier_lines c.args.version) 1 _

pub loop-index-preserved : goal.loop-index-preserved
loop-index-preserved c =
    numbered-more (tier_lines c.args.version) 1 (c.loop-index.index + 1) _ _ _ _ c.loop-index.index
    c.index-tallies-index.result (search rules) (omega arith) c.loop-index.invariant
    (rw (← c.index-tallies-index.is) c.in_ok-write_tier.ensures)
