use Rattle.paths.proofs.Pieces.{announced_line}
use Rattle.paths.proofs.heading.read_entry_line.Goals as goal

pub returns-clause-line : goal.returns-clause-line
returns-clause-line g c =
    announced_line c.args.input.now.bytes c.args.left.now c.read_long_line.new.input.bytes c.read_long_line.new.left c.read_long_line.result
    c.read_long_line.ensures.line
