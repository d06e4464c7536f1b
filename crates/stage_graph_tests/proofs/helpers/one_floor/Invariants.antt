use Rattle.stage_graph_tests.proofs.helpers.one_floor.Given as goal

abbrev pub ghosts-one_named : goal.ghosts-one_named
ghosts-one_named g a = record { book = a.opened }
