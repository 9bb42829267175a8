use Rattle.std.proofs.Common.{sym, ap, subst, ◌∙◌}
use Rattle.sg_base.specs.Sheet.{Sheet}
use Rattle.sg_space.proofs.Known.{same_some}
use Rattle.sg_bucket.specs.Part.{AreEntries}
use Rattle.sg_bucket.proofs.page.look_for.Goals as goal

pub broken-requires-in-Broken : goal.broken-requires-in-Broken
broken-requires-in-Broken g c = λ told.
    let back = c.page.follows.holds-at-none.counts.told told in
    let h = c.requires back in
    let looked = c.in_ok-view.ensures.looked (g.met.P.PageSpace.told_shows _ back) in
    let same = same_some _ _ (sym h.is ∙ looked) in
    c.in-Broken.ensures (subst AreEntries (ap (λ (s : Sheet). s.slots) same) h.has.cells)

pub returns-then-kind-ne-BUCKET_KIND-clause-later : goal.returns-then-kind-ne-BUCKET_KIND-clause-later
returns-then-kind-ne-BUCKET_KIND-clause-later g c = λ t. g.met.P.PageSpace.later_then t _ _ _ (c.page.follows.holds-at-none.later t) (c.broken.ensures.later t)

pub returns-in-Broken-clause-later : goal.returns-in-Broken-clause-later
returns-in-Broken-clause-later g c = λ t. g.met.P.PageSpace.later_then t _ _ _ (c.page.follows.holds-at-none.later t) (c.broken-in-Broken.ensures.later t)
