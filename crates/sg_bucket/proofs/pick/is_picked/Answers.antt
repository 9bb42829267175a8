use Rattle.sg_bucket.proofs.pick.is_picked.Goals as goal

pub returns-then-kind-ne-BUCKET_KIND-clause-later : goal.returns-then-kind-ne-BUCKET_KIND-clause-later
returns-then-kind-ne-BUCKET_KIND-clause-later g c = λ t. g.met.P.PageSpace.later_then t _ _ _ (c.page.follows.holds-at-none.later t) (c.broken.ensures.later t)

pub returns-in-Broken-clause-later : goal.returns-in-Broken-clause-later
returns-in-Broken-clause-later g c = λ t. g.met.P.PageSpace.later_then t _ _ _ (c.page.follows.holds-at-none.later t) (c.broken-in-Broken.ensures.later t)
