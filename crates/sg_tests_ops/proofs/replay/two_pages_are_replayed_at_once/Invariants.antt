use Rattle.sg_tests_ops.proofs.replay.two_pages_are_replayed_at_once.Given as goal

abbrev pub ghosts-met : goal.ghosts-met
ghosts-met g a = record { name = a.blank.name; parts = a.blank.parts }
