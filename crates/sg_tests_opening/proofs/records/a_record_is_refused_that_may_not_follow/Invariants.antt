use Rattle.sg_tests_opening.proofs.records.a_record_is_refused_that_may_not_follow.Given as goal

abbrev pub ghosts-answer : goal.ghosts-answer
ghosts-answer g a = record { name = a.blank.name; parts = a.blank.parts }
