use Rattle.http_tests.proofs.caches.cache_of_no_file.Given as goal

abbrev pub ghosts-check_steps : goal.ghosts-check_steps
ghosts-check_steps g a = record { files = a.files.now }
