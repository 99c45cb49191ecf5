use Rattle.desk_tests.proofs.of_site_workers.a_courier_whose_inbox_is_closed_early_tells_it.Given as goal

abbrev pub ghosts-carried : goal.ghosts-carried
ghosts-carried g a = record { name = a.blank.name; parts = a.blank.parts }
