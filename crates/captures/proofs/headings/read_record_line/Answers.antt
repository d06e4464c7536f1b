use Rattle.captures.proofs.Lengths.{record_line}
use Rattle.captures.proofs.headings.read_record_line.Goals as goal

pub returns-clause-line : goal.returns-clause-line
returns-clause-line g c =
    record_line c.args._version c.args.input.now.bytes c.args.left.now c.read_long_line.new.input.bytes c.read_long_line.new.left c.read_long_line.result
    c.read_long_line.ensures.line
