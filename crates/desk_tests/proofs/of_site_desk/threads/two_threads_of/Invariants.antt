use Rattle.desk_tests.proofs.of_site_desk.threads.two_threads_of.Given as goal

abbrev pub ghosts-two_threads : goal.ghosts-two_threads
ghosts-two_threads g a = record { name = a.blank.name; parts = a.blank.parts }
