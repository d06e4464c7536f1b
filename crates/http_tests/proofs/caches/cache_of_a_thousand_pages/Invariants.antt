use Rattle.http_tests.proofs.caches.cache_of_a_thousand_pages.Given as goal

abbrev pub ghosts-check_thousand : goal.ghosts-check_thousand
ghosts-check_thousand g a = record { files = a.files.now }
