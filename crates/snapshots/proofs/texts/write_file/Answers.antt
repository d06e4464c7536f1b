use Rattle.std.proofs.Common.{◌++◌, ◌∷◌, []}
use Rattle.devices.proofs.Appending.{writes_proper_then, proper_first}
use Rattle.snapshots.proofs.texts.write_file.Goals as goal

pub returns-in-Ok-clause-prefix : goal.returns-in-Ok-clause-prefix
returns-in-Ok-clause-prefix g c = writes_proper_then _ _ _ c.args.head.now (c.args.bytes.now ++ 10 ∷ []) _ c.in-Ok.ensures.prefix c.write_both.ensures.prefix

pub returns-in-Err-clause-prefix : goal.returns-in-Err-clause-prefix
returns-in-Err-clause-prefix g c = proper_first _ _ c.args.head.now (c.args.bytes.now ++ 10 ∷ []) c.in-Err.ensures.prefix
