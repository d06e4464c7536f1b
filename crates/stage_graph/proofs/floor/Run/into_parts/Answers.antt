use Rattle.stage_graph.proofs.Counting.{whole_run}
use Rattle.stage_graph.proofs.floor.Run.into_parts.Goals as goal

pub returns-clause-whole : goal.returns-clause-whole
returns-clause-whole g c = rw c.from.ensures (whole_run g.N.RunName.plan g.N.RunName.count c.self.inside.history.items c.self.invariant.0 c.self.invariant.2 c.self.invariant.3 c.self.invariant.4)
