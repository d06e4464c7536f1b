use Rattle.engine_tests.proofs.explaining.explain_devices.Given as goal

abbrev pub ghosts-explain_replay : goal.ghosts-explain_replay
ghosts-explain_replay g a = record { files = a.snapshot.now }
