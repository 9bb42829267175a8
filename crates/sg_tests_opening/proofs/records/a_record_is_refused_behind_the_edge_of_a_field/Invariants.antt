use Rattle.sg_tests_opening.proofs.records.a_record_is_refused_behind_the_edge_of_a_field.Given as goal

abbrev pub ghosts-answer : goal.ghosts-answer
ghosts-answer g a = record { name = a.blank.name; parts = a.blank.parts }
