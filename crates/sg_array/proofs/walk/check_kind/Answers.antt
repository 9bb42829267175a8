use Rattle.sg_array.proofs.walk.check_kind.Goals as goal

pub returns-then-kind-clause-later : goal.returns-then-kind-clause-later
returns-then-kind-clause-later g c = λ t. g.met.P.PageSpace.later_then t _ _ _ (c.page.follows.holds-at-none.later t) (c.broken.ensures.later t)
