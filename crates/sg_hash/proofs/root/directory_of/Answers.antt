use Rattle.std.proofs.Common.{ℕ, IsSome, refl, subst, sym, ap, arith, ◌∙◌}
use Rattle.sg_base.specs.Sheet.{Sheet}
use Rattle.sg_space.proofs.Known.{same_some}
use Rattle.sg_hash.proofs.root.directory_of.Goals as goal

pub page-requires : goal.page-requires
page-requires g c = λ told. let h = c.requires told in subst IsSome (sym h.2.first) refl

pub broken-requires : goal.broken-requires
broken-requires g c = λ told.
    let back = c.page.follows.holds-at-none.counts.told told in
    let h = c.requires back in
    let looked = c.in_ok-view.ensures.looked (g.met.P.PageSpace.told_shows _ back) in
    let same = same_some _ _ (sym h.2.first ∙ looked) in
    let kind = ap (λ (s : Sheet). s.kind) same in
    omega arith

pub returns-clause-read : goal.returns-clause-read
returns-clause-read g c = λ shows n t h.
    let looked = c.in_ok-view.ensures.looked shows in
    let same = same_some _ _ (sym h.first ∙ looked) in
    ap (λ (s : Sheet). s.links.0) same ∙ sym (ap (λ (x : ℕ × ℕ). x.0) c.links-directory.ensures)

pub returns-then-kind-ne-ROOT_KIND-clause-later : goal.returns-then-kind-ne-ROOT_KIND-clause-later
returns-then-kind-ne-ROOT_KIND-clause-later g c = λ t. g.met.P.PageSpace.later_then t _ _ _ (c.page.follows.holds-at-none.later t) (c.broken.ensures.later t)
