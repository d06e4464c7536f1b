use Rattle.stage_graph_tests.proofs.helpers.floors_by.Given as goal

abbrev pub ghosts-floors_named : goal.ghosts-floors_named
ghosts-floors_named g a = record { book = a.opened }
