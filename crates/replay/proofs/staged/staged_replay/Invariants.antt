use Rattle.replay.proofs.staged.staged_replay.Given as goal

abbrev pub ghosts-replay_named-K-Pricing : goal.ghosts-replay_named-K-Pricing
ghosts-replay_named-K-Pricing g a = record { tariff = a.server.served.tariff }

abbrev pub ghosts-replay_named-J-Naming : goal.ghosts-replay_named-J-Naming
ghosts-replay_named-J-Naming g a = record { book = a.register }
