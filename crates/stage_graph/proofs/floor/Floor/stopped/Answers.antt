use Rattle.std.proofs.Common.{◌∙◌}
use Rattle.stage_graph.proofs.Closing.{stopped_by}
use Rattle.stage_graph.proofs.floor.Floor.stopped.Goals as goal

pub returns-clause-history : goal.returns-clause-history
returns-clause-history g c = let stands = c.self.invariant.0 in stands.stopped_is ∙ rw (← c.self.view_is) (stopped_by g.N.RunName.plan g.N.RunName.count c.self.inside.history.items)
