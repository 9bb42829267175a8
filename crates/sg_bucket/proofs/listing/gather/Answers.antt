use Rattle.std.proofs.Common.{sym, ap, subst, ◌∙◌}
use Rattle.sg_base.specs.Page.{slots_of}
use Rattle.sg_base.specs.Sheet.{Sheet}
use Rattle.sg_space.proofs.Known.{same_some}
use Rattle.sg_bucket.specs.Listing.{IsUnlisted}
use Rattle.sg_bucket.specs.Part.{AreEntries}
use Rattle.sg_bucket.specs.declared.listing.Unlisted.{Unlisted}
use Rattle.sg_bucket.proofs.listing.gather.Goals as goal

pub broken-requires-in-Err-Broken : goal.broken-requires-in-Err-Broken
broken-requires-in-Err-Broken g c = λ told.
    let back = c.page.follows.holds-at-none.counts.told told in
    let h = c.requires back in
    let looked = c.in_ok-view.ensures.looked (g.met.P.PageSpace.told_shows _ back) in
    let same = same_some _ _ (sym h.is ∙ looked) in
    subst (λ (e : Unlisted). IsUnlisted (slots_of c.in_ok-view.view.page.now) e) c.in-Err-Broken.field-0-is c.in-Err-Broken.ensures (subst AreEntries (ap (λ (s : Sheet). s.slots) same) h.has.cells)

pub returns-then-kind-ne-BUCKET_KIND-clause-later : goal.returns-then-kind-ne-BUCKET_KIND-clause-later
returns-then-kind-ne-BUCKET_KIND-clause-later g c = λ t. g.met.P.PageSpace.later_then t _ _ _ (c.page.follows.holds-at-none.later t) (c.broken.ensures.later t)

pub returns-in-Err-Broken-clause-later : goal.returns-in-Err-Broken-clause-later
returns-in-Err-Broken-clause-later g c = λ t. g.met.P.PageSpace.later_then t _ _ _ (c.page.follows.holds-at-none.later t) (c.broken-in-Err-Broken.ensures.later t)
