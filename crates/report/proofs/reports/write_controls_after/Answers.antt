use Rattle.std.proofs.Common.{rules, arith, ◌+◌}
use Rattle.report.specs.Reports.{control_line}
use Rattle.report.proofs.Lines.{numbered-none, numbered-more}
use Rattle.report.proofs.reports.write_controls_after.Goals as goal

pub loop-index-init : goal.loop-index-init
loop-index-init c = numbered-none control_line (c.args.others + 1) _

pub loop-index-preserved : goal.loop-index-preserved
loop-index-preserved c =
    numbered-more control_line (c.args.others + 1) (c.args.others + c.loop-index.index + 1) _ _ _ _ c.loop-index.index
    (record { instant = 0; percentile = 0; smoothed = 0; rate = 0 }) (search rules) (omega arith) c.loop-index.invariant
    c.in_ok-write_control.ensures
