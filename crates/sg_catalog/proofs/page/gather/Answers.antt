use Rattle.std.proofs.Common.{subst}
use Rattle.sg_base.specs.Sheet.{sheet_of}
use Rattle.sg_catalog.specs.Look.{IsNoList}
use Rattle.sg_catalog.specs.declared.look.Unlisted.{Unlisted}
use Rattle.sg_catalog.proofs.Parts.{owned_there, page_read, gathers_here}
use Rattle.sg_catalog.proofs.page.gather.Goals as goal

pub page-requires : goal.page-requires
page-requires g c = λ told. let h = c.requires told in owned_there c.args.p.0 h.1 h.2

pub broken-requires : goal.broken-requires
broken-requires g c = λ told.
    let back = c.page.follows.holds-at-none.counts.told told in
    let h = c.requires back in
    page_read (h.2).0 c.args.p.0 _ h.1 (h.2).1 (c.in_ok-view.ensures.looked (g.met.P.PageSpace.told_shows _ back))
    (subst (λ (e : Unlisted). IsNoList (sheet_of c.in_ok-view.view.page.now) e) c.in-Err-Broken.field-0-is c.in-Err-Broken.ensures)

pub returns-in-Ok-clause-read : goal.returns-in-Ok-clause-read
returns-in-Ok-clause-read g c = λ shows d j h at. gathers_here j c.args.p.0 _ h at (c.in_ok-view.ensures.looked shows) c.args.names.now.items c.list_page.new.names.items c.in-Ok.head c.in-Ok.ensures

pub returns-in-Err-Broken-clause-later : goal.returns-in-Err-Broken-clause-later
returns-in-Err-Broken-clause-later g c = λ t. g.met.P.PageSpace.later_then t _ _ _ (c.page.follows.holds-at-none.later t) (c.broken.ensures.later t)
