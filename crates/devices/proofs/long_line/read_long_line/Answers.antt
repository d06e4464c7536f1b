use Rattle.devices.proofs.Pieces.{long_line}
use Rattle.devices.proofs.long_line.read_long_line.Goals as goal

pub returns-then-reads_ahead-clause-line : goal.returns-then-reads_ahead-clause-line
returns-then-reads_ahead-clause-line g c =
    long_line c.args.least c.args.longer c.args.kind.now c.args.input.now.bytes c.args.left.now c.read_line_ahead.new.input.bytes c.read_line_ahead.new.left
    c.read_line_ahead.result c.read_line_ahead.ensures.line
