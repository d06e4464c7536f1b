use Rattle.engine_tests.proofs.replaying.run_devices.Given as goal

abbrev pub ghosts-run_named : goal.ghosts-run_named
ghosts-run_named g a = record { files = a.files.now }
