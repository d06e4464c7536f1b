use Rattle.stage_graph.proofs.helpers.sections.back.Given as goal

abbrev pub ghosts-back_on : goal.ghosts-back_on
ghosts-back_on g a = record { plan = a.held.plan; count = a.held.count }
