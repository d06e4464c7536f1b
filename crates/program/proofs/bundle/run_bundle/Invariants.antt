use Rattle.program.proofs.bundle.run_bundle.Given as goal

abbrev pub ghosts-plain_replay : goal.ghosts-plain_replay
ghosts-plain_replay g a = record { files = a.snapshot.now }
