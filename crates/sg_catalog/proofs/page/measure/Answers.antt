use Rattle.std.proofs.Common.{inl}
use Rattle.sg_catalog.proofs.Parts.{owned_there, page_read, measures_here}
use Rattle.sg_catalog.proofs.page.measure.Goals as goal

pub page-requires : goal.page-requires
page-requires g c = λ told. let h = c.requires told in owned_there c.args.p.0 h.1 h.2

pub broken-requires : goal.broken-requires
broken-requires g c = λ told.
    let back = c.page.follows.holds-at-none.counts.told told in
    let h = c.requires back in
    page_read (h.2).0 c.args.p.0 _ h.1 (h.2).1 (c.in_ok-view.ensures.looked (g.met.P.PageSpace.told_shows _ back)) (inl c.in-Err.ensures)

pub returns-in-Ok-clause-read : goal.returns-in-Ok-clause-read
returns-in-Ok-clause-read g c = λ shows d j h at. measures_here j c.args.p.0 _ h at (c.in_ok-view.ensures.looked shows) c.in-Ok.found c.in-Ok.ensures

pub returns-in-Err-clause-later : goal.returns-in-Err-clause-later
returns-in-Err-clause-later g c = λ t. g.met.P.PageSpace.later_then t _ _ _ (c.page.follows.holds-at-none.later t) (c.broken.ensures.later t)
