use Rattle.sg_tests_opening.proofs.batches.a_torn_batch_is_laid_over_and_a_rotate_is_done_once.Given as goal

abbrev pub ghosts-rotated : goal.ghosts-rotated
ghosts-rotated g a = record { name = a.blank.name; parts = a.blank.parts }
