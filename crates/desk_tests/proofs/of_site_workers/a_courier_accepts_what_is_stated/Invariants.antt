use Rattle.desk_tests.proofs.of_site_workers.a_courier_accepts_what_is_stated.Given as goal

abbrev pub ghosts-carried : goal.ghosts-carried
ghosts-carried g a = record { name = a.blank.name; parts = a.blank.parts }
