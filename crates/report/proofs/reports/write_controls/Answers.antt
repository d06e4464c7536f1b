use Rattle.report.proofs.Lines.{listed-is, rest-is}
use Rattle.report.proofs.reports.write_controls.Goals as goal

pub returns : goal.returns
returns c =
    rw (
      listed-is c.args.version c.args.controls.now,
      ← c.left_out-first.ensures,
      ← rest-is c.left_out-first.result c.args.controls.now,
    ) c.write_controls_after.ensures
