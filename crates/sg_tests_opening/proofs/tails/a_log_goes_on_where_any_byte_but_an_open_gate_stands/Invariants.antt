use Rattle.sg_tests_opening.proofs.tails.a_log_goes_on_where_any_byte_but_an_open_gate_stands.Given as goal

abbrev pub ghosts-course_of : goal.ghosts-course_of
ghosts-course_of g a = record { name = a.blank.name; parts = a.blank.parts }
