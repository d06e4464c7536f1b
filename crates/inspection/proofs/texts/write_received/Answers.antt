use Rattle.std.proofs.Common.{codes}
use Rattle.inspection.specs.Texts.{line, open_line}
use Rattle.inspection.proofs.Lines.{three_written}
use Rattle.inspection.proofs.texts.write_received.Goals as goal

pub returns : goal.returns
returns c = three_written c.write_line-2.result _ _ _ _ (line (codes "connections") c.args.share.connections) (open_line c.args.version c.args.most_open) (line (codes "bytes") c.args.share.bytes) c.in_ok-write_line.ensures c.in_ok-write_open.ensures c.write_line-2.ensures
