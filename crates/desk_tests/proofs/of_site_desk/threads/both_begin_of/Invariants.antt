use Rattle.desk_tests.proofs.of_site_desk.threads.both_begin_of.Given as goal

abbrev pub ghosts-both_begin_there : goal.ghosts-both_begin_there
ghosts-both_begin_there g a = record { name = a.blank.name; parts = a.blank.parts }
