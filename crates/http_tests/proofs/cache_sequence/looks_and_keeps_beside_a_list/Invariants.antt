use Rattle.http_tests.proofs.cache_sequence.looks_and_keeps_beside_a_list.Given as goal

abbrev pub ghosts-check_sequence : goal.ghosts-check_sequence
ghosts-check_sequence g a = record { files = a.files.now }
