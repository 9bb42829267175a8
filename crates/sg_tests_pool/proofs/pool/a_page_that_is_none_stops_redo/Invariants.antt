use Rattle.sg_tests_pool.proofs.pool.a_page_that_is_none_stops_redo.Given as goal

abbrev pub ghosts-damaged : goal.ghosts-damaged
ghosts-damaged g a = record { name = a.blank.name; parts = a.blank.parts }
