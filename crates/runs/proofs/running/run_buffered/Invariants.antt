use Rattle.runs.proofs.running.run_buffered.Given as goal

abbrev pub ghosts-run_job : goal.ghosts-run_job
ghosts-run_job g a = record { initial = a.sink.bytes }
