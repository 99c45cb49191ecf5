use Rattle.desk_tests.proofs.of_site_desk.threads.one_read_of.Given as goal

abbrev pub ghosts-one_read : goal.ghosts-one_read
ghosts-one_read g a = record { name = a.blank.name; parts = a.blank.parts }
