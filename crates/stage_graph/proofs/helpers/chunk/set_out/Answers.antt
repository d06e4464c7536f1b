use Rattle.stage_graph.proofs.Helping.{set_out_so}
use Rattle.stage_graph.proofs.helpers.chunk.set_out.Goals as goal

pub invariant_of-result : goal.invariant_of-result
invariant_of-result g c = record { worked = set_out_so g.S.Steps.content c.args.chunk c.args.note c.requires }
