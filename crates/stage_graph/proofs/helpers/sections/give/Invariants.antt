use Rattle.stage_graph.proofs.helpers.sections.give.Given as goal

abbrev pub ghosts-give_on : goal.ghosts-give_on
ghosts-give_on g a = record { plan = a.held.plan; count = a.held.count }
