use Rattle.program.proofs.replaying.run_replay.Given as goal

abbrev pub ghosts-run_wanted : goal.ghosts-run_wanted
ghosts-run_wanted g a = record { files = a.files.now }
