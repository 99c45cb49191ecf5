use Rattle.hostile_rows.proofs.desk.count_told.Given as goal

abbrev pub ghosts-count_over : goal.ghosts-count_over
ghosts-count_over g a = record { name = a.blank.name; parts = a.blank.parts }
