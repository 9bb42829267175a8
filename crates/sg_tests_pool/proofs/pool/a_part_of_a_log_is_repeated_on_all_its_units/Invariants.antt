use Rattle.sg_tests_pool.proofs.pool.a_part_of_a_log_is_repeated_on_all_its_units.Given as goal

abbrev pub ghosts-part_redone : goal.ghosts-part_redone
ghosts-part_redone g a = record { name = a.blank.name; parts = a.blank.parts }
