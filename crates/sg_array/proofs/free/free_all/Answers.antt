use Rattle.std.proofs.Common.{◌≡◌, arith, IsSome, sym, ap, subst, refl, ◌∙◌, inl, inr}
use Rattle.sg_array.proofs.Links.{still_array}
use Rattle.sg_array.proofs.Freed.{index_left, root_left, all_gone}
use Rattle.sg_array.proofs.Wanting.{leaves_wanted, index_wanted}
use Rattle.sg_space.proofs.Few.{few_units}
use Rattle.sg_space.specs.Owned.{Becomes}
use Rattle.sg_space.specs.View.{Space}
use Rattle.sg_array.specs.Array.{Owns, page_count}
use Rattle.sg_array.proofs.free.free_all.Goals as goal

pub broken-requires : goal.broken-requires
broken-requires g c = λ told.
    let back = c.read_root.ensures.counts.told told in
    let shows = g.met.P.PageSpace.told_shows _ back in
    let h = c.requires back in
    let is = c.in_ok-found.ensures.read shows h.0 h.1 in
    let leaves = leaves_wanted h.1 is.0 is.2 c.wanted_pages-wanted.ensures.leaves in
    let array = still_array c.in_ok-found.ensures.kept shows h.1 in
    let few = few_units (h.0).leaves (g.met.P.PageSpace.pages_exact _ told) array.built.names.leaf_pages.apart (λ d p e none. let there = (array.built.leaf d p e).is in (cc)) in
    let there = c.pages.ensures in
    let test = c.if-wanted-pages.true in
    omega arith

pub free_leaves-requires-clause-there : goal.free_leaves-requires-clause-there
free_leaves-requires-clause-there g c = λ told.
    let back = c.read_root.ensures.counts.told told in
    let shows = g.met.P.PageSpace.told_shows _ back in
    let h = c.requires back in
    let is = c.in_ok-found.ensures.read shows h.0 h.1 in
    (h.0, still_array c.in_ok-found.ensures.kept shows h.1, leaves_wanted h.1 is.0 is.2 c.wanted_pages-wanted.ensures.leaves)

pub free_index-requires-clause-there : goal.free_index-requires-clause-there
free_index-requires-clause-there g c = λ told.
    let middle = c.free_leaves.ensures.counts.told told in
    let back = c.read_root.ensures.counts.told middle in
    let shows = g.met.P.PageSpace.told_shows _ back in
    let h = c.requires back in
    let is = c.in_ok-found.ensures.read shows h.0 h.1 in
    let leaves = leaves_wanted h.1 is.0 is.2 c.wanted_pages-wanted.ensures.leaves in
    let array = still_array c.in_ok-found.ensures.kept shows h.1 in
    (h.0, index_left array.built (c.in_ok-free_leaves.ensures.did.pages middle h.0 (array, leaves)) (index_wanted h.1 leaves c.wanted_pages-wanted.ensures.index))

pub free_page-requires : goal.free_page-requires
free_page-requires g c = λ told.
    let last = c.free_index.ensures.counts.told told in
    let middle = c.free_leaves.ensures.counts.told last in
    let back = c.read_root.ensures.counts.told middle in
    let shows = g.met.P.PageSpace.told_shows _ back in
    let h = c.requires back in
    let is = c.in_ok-found.ensures.read shows h.0 h.1 in
    let leaves = leaves_wanted h.1 is.0 is.2 c.wanted_pages-wanted.ensures.leaves in
    let array = still_array c.in_ok-found.ensures.kept shows h.1 in
    let left = index_left array.built (c.in_ok-free_leaves.ensures.did.pages middle h.0 (array, leaves)) (index_wanted h.1 leaves c.wanted_pages-wanted.ensures.index) in
    subst IsSome (sym (root_left left (c.in_ok-free_index.ensures.did.pages last h.0 left)).is) refl

pub returns-clause-did : goal.returns-clause-did
returns-clause-did g c =
    let kept = c.in_ok-found.ensures.kept in
    let one = c.in_ok-free_leaves.ensures.did in
    let two = c.in_ok-free_index.ensures.did in
    let three = c.in_ok-free_page.ensures.did in
    record {
      told = λ t. three.told (two.told (one.told (kept.keeps.told t)));
      gone = λ t a h.
          let shows = g.met.P.PageSpace.told_shows _ t in
          let middle = kept.keeps.told t in
          let last = one.told middle in
          let is = c.in_ok-found.ensures.read shows a h in
          let leaves = leaves_wanted h is.0 is.2 c.wanted_pages-wanted.ensures.leaves in
          let array = still_array kept shows h in
          let first = one.pages middle a (array, leaves) in
          let left = index_left array.built first (index_wanted h leaves c.wanted_pages-wanted.ensures.index) in
          let gone = all_gone array.built left first (two.pages last a left) (three.pages (two.told last)) in
          record {
            pages = subst (λ (s : Space). Becomes s.pages (g.P.PageSpace.view c.free_page.new.self).space.pages (Owns c.args.root.0 a) (λ _. ⊥) (page_count a) 0) (kept.same shows) gone;
            bands = three.bands (two.told last) ∙ (two.bands last ∙ (one.bands middle ∙ ap (λ (s : Space). s.bands) (kept.same shows)));
          };
      may_have = λ t a h p n no x.
          let shows = g.met.P.PageSpace.told_shows _ t in
          let middle = kept.keeps.told t in
          let last = one.told middle in
          let is = c.in_ok-found.ensures.read shows a h in
          let leaves = leaves_wanted h is.0 is.2 c.wanted_pages-wanted.ensures.leaves in
          let array = still_array kept shows h in
          let first = one.pages middle a (array, leaves) in
          let left = index_left array.built first (index_wanted h leaves c.wanted_pages-wanted.ensures.index) in
          three.may_have p n (λ (same : p ≡ c.args.root.0). no (inl same))
          (two.may_have last a left p n (λ o. no (inr (inl o)))
          (one.may_have middle a (array, leaves) p n (λ o. no (inr (inr o))) (kept.keeps.may_have p n x)));
    }

pub returns-in_err-free_leaves-clause-later : goal.returns-in_err-free_leaves-clause-later
returns-in_err-free_leaves-clause-later g c = λ t.
    let then = g.met.P.PageSpace.later_then t in
    then _ _ _ (c.read_root.ensures.later t) (c.free_leaves.ensures.later t)

pub returns-in_err-free_index-clause-later : goal.returns-in_err-free_index-clause-later
returns-in_err-free_index-clause-later g c = λ t.
    let then = g.met.P.PageSpace.later_then t in
    then _ _ _ (c.read_root.ensures.later t) (then _ _ _ (c.free_leaves.ensures.later t) (c.free_index.ensures.later t))

pub returns-in_err-free_page-clause-later : goal.returns-in_err-free_page-clause-later
returns-in_err-free_page-clause-later g c = λ t.
    let then = g.met.P.PageSpace.later_then t in
    then _ _ _ (c.read_root.ensures.later t) (then _ _ _ (c.free_leaves.ensures.later t) (then _ _ _ (c.free_index.ensures.later t) (c.free_page.ensures.later t)))

pub returns-clause-later : goal.returns-clause-later
returns-clause-later g c = λ t.
    let then = g.met.P.PageSpace.later_then t in
    then _ _ _ (c.read_root.ensures.later t) (then _ _ _ (c.free_leaves.ensures.later t) (then _ _ _ (c.free_index.ensures.later t) (c.free_page.ensures.later t)))

pub returns-then-wanted-pages-clause-later : goal.returns-then-wanted-pages-clause-later
returns-then-wanted-pages-clause-later g c = λ t. g.met.P.PageSpace.later_then t _ _ _ (c.read_root.ensures.later t) (c.broken.ensures.later t)
