use Rattle.devices.proofs.Appending.{writes_proper_then, proper_first}
use Rattle.devices.proofs.output.Output.write_both.Goals as goal

pub returns-in-Ok-clause-prefix : goal.returns-in-Ok-clause-prefix
returns-in-Ok-clause-prefix g c = writes_proper_then _ _ _ c.args.first.now c.args.second.now _ c.in-Ok.ensures.prefix c.write_all-in-Ok.ensures.prefix

pub returns-in-Err-clause-prefix : goal.returns-in-Err-clause-prefix
returns-in-Err-clause-prefix g c = proper_first _ _ c.args.first.now c.args.second.now c.in-Err.ensures.prefix
