use Rattle.sg_tests_pool.proofs.pool.records_are_repeated_on_a_page_and_a_band.Given as goal

abbrev pub ghosts-redone : goal.ghosts-redone
ghosts-redone g a = record { name = a.blank.name; parts = a.blank.parts }
