use Rattle.sg_index.proofs.seek.+next_in.Given as goal

abbrev pub decreases-next_in : goal.decreases-next_in
decreases-next_in g l = l.level
