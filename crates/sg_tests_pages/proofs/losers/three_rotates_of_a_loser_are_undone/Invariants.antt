use Rattle.sg_tests_pages.proofs.losers.three_rotates_of_a_loser_are_undone.Given as goal

abbrev pub ghosts-undone : goal.ghosts-undone
ghosts-undone g a = record { name = a.blank.name; parts = a.blank.parts }
