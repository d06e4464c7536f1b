use Rattle.program.proofs.replaying.run_buffered.Given as goal

abbrev pub ghosts-run_over_buffers-M-Initial : goal.ghosts-run_over_buffers-M-Initial
ghosts-run_over_buffers-M-Initial g a = record { initial = a.written.bytes }

abbrev pub ghosts-run_over_buffers-N-Initial : goal.ghosts-run_over_buffers-N-Initial
ghosts-run_over_buffers-N-Initial g a = record { initial = a.report.bytes }
