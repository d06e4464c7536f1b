use Rattle.stage_graph.proofs.helpers.sections.look.Given as goal

abbrev pub ghosts-look_on : goal.ghosts-look_on
ghosts-look_on g a = record { plan = a.held.plan; count = a.held.count }
