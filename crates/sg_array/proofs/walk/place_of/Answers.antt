use Rattle.std.proofs.Common.{◌≡◌, ℕ, Some, ap, ◌∙◌, ◌/◌, ◌%◌, ◌<◌, length, subst, slice_get, arith}
use Rattle.sg_array.specs.Array.{per_page}
use Rattle.sg_array.proofs.Places.{leaf_below}
use Rattle.sg_array.proofs.Links.{still_array}
use Rattle.sg_array.proofs.walk.place_of.Goals as goal

pub leaf_at-requires-clause-there : goal.leaf_at-requires-clause-there
leaf_at-requires-clause-there g c = λ told.
    let back = c.read_root.ensures.counts.told told in
    let shows = g.met.P.PageSpace.told_shows _ back in
    let h = c.requires back in
    let is = c.in_ok-found.ensures.read shows h.0 h.1 in
    let each = c.per_page-each.ensures ∙ ap per_page is.0 in
    (h.0, (still_array c.in_ok-found.ensures.kept shows h.1).built.names, leaf_below _ c.args.i h.1.built each h.2)

pub returns-clause-read : goal.returns-clause-read
returns-clause-read g c = λ shows a h.
    let kept = c.in_ok-found.ensures.kept in
    let is = c.in_ok-found.ensures.read shows a h in
    let each = c.per_page-each.ensures ∙ ap per_page is.0 in
    let leaf = c.in_ok-leaf.ensures.read (kept.shows shows) a (still_array kept shows h).built.names in
    let count = is.1 in
    let place : c.args.i < length a.items = omega arith in
    record {
      below = place;
      leaf_is = subst (λ (n : ℕ). slice_get a.leaves (c.args.i / n) ≡ Some c.in_ok-leaf.leaf.0) each leaf;
      slot_is = ap (λ (n : ℕ). c.args.i % n) each;
      size_is = is.0;
    }

pub returns-then-i-found-clause-later : goal.returns-then-i-found-clause-later
returns-then-i-found-clause-later g c = λ t. g.met.P.PageSpace.later_then t _ _ _ (c.read_root.ensures.later t) (c.broken.ensures.later t)

pub returns-in_err-leaf-clause-later : goal.returns-in_err-leaf-clause-later
returns-in_err-leaf-clause-later g c = λ t. g.met.P.PageSpace.later_then t _ _ _ (c.read_root.ensures.later t) (c.leaf_at.ensures.later t)

pub returns-clause-later : goal.returns-clause-later
returns-clause-later g c = λ t. g.met.P.PageSpace.later_then t _ _ _ (c.read_root.ensures.later t) (c.leaf_at.ensures.later t)
