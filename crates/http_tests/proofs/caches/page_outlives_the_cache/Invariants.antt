use Rattle.http_tests.proofs.caches.page_outlives_the_cache.Given as goal

abbrev pub ghosts-check_outlives : goal.ghosts-check_outlives
ghosts-check_outlives g a = record { files = a.files.now }
