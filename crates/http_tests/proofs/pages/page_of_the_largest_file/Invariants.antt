use Rattle.http_tests.proofs.pages.page_of_the_largest_file.Given as goal

abbrev pub ghosts-check_largest : goal.ghosts-check_largest
ghosts-check_largest g a = record { files = a.files.now }
