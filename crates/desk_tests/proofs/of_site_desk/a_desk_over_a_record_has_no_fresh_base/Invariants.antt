use Rattle.desk_tests.proofs.of_site_desk.a_desk_over_a_record_has_no_fresh_base.Given as goal

abbrev pub ghosts-is_fresh_at_once : goal.ghosts-is_fresh_at_once
ghosts-is_fresh_at_once g a = record { name = a.blank.name; parts = a.blank.parts }
