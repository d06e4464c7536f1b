use Rattle.std.proofs.Common.{inr, refl}
use Rattle.runs.proofs.snapshotting.refused.Goals as goal

pub returns-in-Ok : goal.returns-in-Ok
returns-in-Ok c = inr (c.in-Ok.named, refl, c.in-Ok.ensures.name, c.in-Ok.ensures.fault)
