use Rattle.desk_tests.proofs.of_site_desk.four_calls_at.Given as goal

abbrev pub ghosts-closed_after_four : goal.ghosts-closed_after_four
ghosts-closed_after_four g a = record { name = a.blank.name; parts = a.blank.parts }
