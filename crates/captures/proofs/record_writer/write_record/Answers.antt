use Rattle.devices.proofs.Appending.{writes_then, prefix_first}
use Rattle.captures.specs.Captures.{line_of, rest_of}
use Rattle.captures.proofs.WritingLemmas.{line_then}
use Rattle.captures.proofs.record_writer.write_record.Goals as goal

pub returns-in-Ok-clause-prefix : goal.returns-in-Ok-clause-prefix
returns-in-Ok-clause-prefix g c =
    rw (line_then c.args.next.now) (writes_then _ _ _ (line_of c.args.next.now) (rest_of c.args.next.now) _ c.in-Ok.ensures.prefix c.write_rest.ensures.prefix)

pub returns-in-Err-clause-prefix : goal.returns-in-Err-clause-prefix
returns-in-Err-clause-prefix g c = rw (line_then c.args.next.now) (prefix_first _ _ (line_of c.args.next.now) (rest_of c.args.next.now) c.in-Err.ensures.prefix)
