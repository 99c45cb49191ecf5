use Rattle.desk_bench.proofs.serve_desk.Given as goal

abbrev pub ghosts-served_over : goal.ghosts-served_over
ghosts-served_over g a = record { name = a.blank.name; parts = a.blank.parts }
