use Rattle.std.proofs.Common.{codes}
use Rattle.inspection.specs.Texts.{line}
use Rattle.inspection.proofs.Lines.{two_written}
use Rattle.inspection.proofs.texts.write_versions.Goals as goal

pub returns : goal.returns
returns c = two_written c.write_line-2.result _ _ _ (line (codes "protocol HTTP/1.0") c.args.counts.http10) (line (codes "protocol HTTP/1.1") c.args.counts.http11) c.in_ok-write_line.ensures c.write_line-2.ensures
