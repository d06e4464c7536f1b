use Rattle.stage_graph.proofs.Counting.{bounds_kept}
use Rattle.stage_graph.proofs.Laws.{one_place}
use Rattle.stage_graph.proofs.Closing.{stopped_by}
use Rattle.stage_graph.proofs.floor.Floor.history.Goals as goal

pub returns-clause-places : goal.returns-clause-places
returns-clause-places g c = let stands = c.self.invariant.0 in rw (← c.self.view_is) (one_place g.N.RunName.plan g.N.RunName.count c.self.inside.history.items stands.plan stands.legal)

pub returns-clause-stopped : goal.returns-clause-stopped
returns-clause-stopped g c = rw (← c.self.view_is) (stopped_by g.N.RunName.plan g.N.RunName.count c.self.inside.history.items)

pub returns-clause-bounds : goal.returns-clause-bounds
returns-clause-bounds g c = let stands = c.self.invariant.0 in rw (← c.self.view_is) (bounds_kept g.N.RunName.plan g.N.RunName.count c.self.inside.history.items stands.plan stands.legal)
