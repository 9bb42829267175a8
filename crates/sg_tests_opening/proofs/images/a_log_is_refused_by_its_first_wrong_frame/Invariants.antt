use Rattle.sg_tests_opening.proofs.images.a_log_is_refused_by_its_first_wrong_frame.Given as goal

abbrev pub ghosts-answer : goal.ghosts-answer
ghosts-answer g a = record { name = a.blank.name; parts = a.blank.parts }
