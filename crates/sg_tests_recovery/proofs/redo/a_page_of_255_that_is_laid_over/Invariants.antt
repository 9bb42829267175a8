use Rattle.sg_tests_recovery.proofs.redo.a_page_of_255_that_is_laid_over.Given as goal

abbrev pub ghosts-turned : goal.ghosts-turned
ghosts-turned g a = record { name = a.blank.name; parts = a.blank.parts }
