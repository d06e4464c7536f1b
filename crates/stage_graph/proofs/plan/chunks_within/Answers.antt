use Rattle.std.proofs.Math.Nat.{div-mul-le_self}
use Rattle.stage_graph.proofs.plan.chunks_within.Goals as goal

pub returns-clause-fits : goal.returns-clause-fits
returns-clause-fits c = div-mul-le_self c.args.capacity c.args.size
