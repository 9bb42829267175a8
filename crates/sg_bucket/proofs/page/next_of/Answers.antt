use Rattle.sg_bucket.proofs.page.next_of.Goals as goal

pub returns-then-kind-ne-BUCKET_KIND-clause-later : goal.returns-then-kind-ne-BUCKET_KIND-clause-later
returns-then-kind-ne-BUCKET_KIND-clause-later g c = λ t. g.met.P.PageSpace.later_then t _ _ _ (c.page.follows.holds-at-none.later t) (c.broken.ensures.later t)
