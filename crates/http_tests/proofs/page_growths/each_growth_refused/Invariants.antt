use Rattle.http_tests.proofs.page_growths.each_growth_refused.Given as goal

abbrev pub ghosts-check_growths : goal.ghosts-check_growths
ghosts-check_growths g a = record { files = a.files.now }
