use Rattle.std.proofs.Common.{◌≡◌, Some, ap, sym, ◌∙◌, refl}
use Rattle.sg_base.specs.Page.{cell_in}
use Rattle.sg_base.specs.Sheet.{Sheet}
use Rattle.sg_space.proofs.cells.read_cell.Goals as goal

same_some : {A : Type 0} (x y : A) → Some x ≡ Some y → x ≡ y
same_some x y h = cc

pub broken-requires : goal.broken-requires
broken-requires g c = λ told.
    let back = c.page.follows.holds-at-none.counts.told told in
    let h = c.requires back in
    let looked = c.in_ok-view.ensures.looked (g.met.P.PageSpace.told_shows _ back) in
    let same = same_some _ _ (sym h.is ∙ looked) in
    c.if-kind.true (c.kind.ensures ∙ (sym (ap (λ (x : Sheet). x.kind) same) ∙ h.has.kind_is))

pub broken-requires-then-not-copy_cell : goal.broken-requires-then-not-copy_cell
broken-requires-then-not-copy_cell g c = λ told.
    let back = c.page.follows.holds-at-none.counts.told told in
    let h = c.requires back in
    let looked = c.in_ok-view.ensures.looked (g.met.P.PageSpace.told_shows _ back) in
    let same = same_some _ _ (sym h.is ∙ looked) in
    c.if-not-copy_cell.ensures.other refl h.has.cell (sym (ap (λ (x : Sheet). cell_in x.slots c.args.slot) same) ∙ h.has.is) h.has.size_is

pub returns-then-kind-clause-later : goal.returns-then-kind-clause-later
returns-then-kind-clause-later g c = λ t. g.met.P.PageSpace.later_then t _ _ _ (c.page.follows.holds-at-none.later t) (c.broken.ensures.later t)

pub returns-then-not-copy_cell-clause-later : goal.returns-then-not-copy_cell-clause-later
returns-then-not-copy_cell-clause-later g c = λ t. g.met.P.PageSpace.later_then t _ _ _ (c.page.follows.holds-at-none.later t) (c.broken-then-not-copy_cell.ensures.later t)
