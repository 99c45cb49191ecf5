use Rattle.desk_tests.proofs.of_site_desk.a_gate_turns_a_call_away.Given as goal

abbrev pub ghosts-turned_then_served : goal.ghosts-turned_then_served
ghosts-turned_then_served g a = record { name = a.blank.name; parts = a.blank.parts }
