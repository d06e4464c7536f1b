use Rattle.http_tests.proofs.pages.pages_of_two_files.Given as goal

abbrev pub ghosts-check_pages : goal.ghosts-check_pages
ghosts-check_pages g a = record { files = a.files.now }
