use Rattle.std.proofs.Common.{◌≡◌, ◌≢◌, ℕ, ◌%◌, ◌<◌, ◌⊎◌, length, ap, ◌∙◌, sym, subst, arith, slice_get, inl, inr, refl}
use Rattle.sg_array.specs.Array.{per_page}
use Rattle.sg_space.proofs.Known.{reads_then}
use Rattle.sg_array.proofs.Growth.{roomy_still}
use Rattle.sg_array.proofs.Links.{still_array, leaf_kind}
use Rattle.sg_array.proofs.Places.{same_quotient, same_rest}
use Rattle.sg_array.proofs.Pushes.{old_leaf, next_below}
use Rattle.sg_array.proofs.extend.old_leaf.Goals as goal

why : (count size peak items size' peak' : ℕ) → count ≡ items → size ≡ size' → peak ≡ peak' → (count < peak) ⊎ (count % per_page size ≢ 0) → (items < peak') ⊎ (items % per_page size' ≢ 0)
why count size peak items size' peak' a b d (inl h) = inl (omega arith)
why count size peak items size' peak' a b d (inr h) = inr (λ e. h (same_rest a refl b ∙ e))

pub leaf_at-requires-clause-there : goal.leaf_at-requires-clause-there
leaf_at-requires-clause-there g c = λ told.
    let h = c.requires.there told in
    let d = same_quotient h.2.count_is c.per_page.ensures h.2.can.fits in
    let below = next_below h.1 (why _ _ _ _ _ _ h.2.count_is h.2.can.fits h.2.peak_is c.requires.why) in
    (h.0, h.1.built.names, subst (λ (n : ℕ). n < length h.0.leaves) (sym d) below)

pub check_kind-requires : goal.check_kind-requires
check_kind-requires g c = λ told.
    let back = c.leaf_at.ensures.counts.told told in
    let shows = g.met.P.PageSpace.told_shows _ back in
    let h = c.requires.there back in
    let array = still_array c.in_ok-leaf.ensures.kept shows h.1 in
    leaf_kind array.built _ (c.in_ok-leaf.ensures.read shows h.0 h.1.built.names)

pub returns-clause-did : goal.returns-clause-did
returns-clause-did g c =
    let kept = reads_then c.in_ok-leaf.ensures.kept c.in_ok-check_kind.ensures.kept in
    record {
      keeps = λ t. kept.keeps;
      done = λ t a h next.
          let shows = g.met.P.PageSpace.told_shows _ t in
          let d = same_quotient next.count_is c.per_page.ensures next.can.fits in
          let at = c.in_ok-leaf.ensures.read shows a h.built.names in
          let below = next_below h (why _ _ _ _ _ _ next.count_is next.can.fits next.peak_is c.requires.why) in
          old_leaf (kept.same shows) h below (ap (λ (n : ℕ). slice_get a.leaves n) (sym d) ∙ at) (roomy_still next.can.roomy kept.keeps);
    }

pub returns-in_err-check_kind-clause-later : goal.returns-in_err-check_kind-clause-later
returns-in_err-check_kind-clause-later g c = λ t. g.met.P.PageSpace.later_then t _ _ _ (c.leaf_at.ensures.later t) (c.check_kind.ensures.later t)

pub returns-clause-later : goal.returns-clause-later
returns-clause-later g c = λ t. g.met.P.PageSpace.later_then t _ _ _ (c.leaf_at.ensures.later t) (c.check_kind.ensures.later t)
