use Rattle.sg_tests_pages.proofs.verbs.verbs_of_a_table.Given as goal

abbrev pub ghosts-in_a_store : goal.ghosts-in_a_store
ghosts-in_a_store g a = record { name = a.blank.name; parts = a.blank.parts }
