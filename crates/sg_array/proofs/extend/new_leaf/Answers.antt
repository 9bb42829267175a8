use Rattle.std.proofs.Common.{ℕ, ◌/◌, ◌%◌, length, ap, ◌∙◌, sym, subst, arith, refl}
use Rattle.sg_space.proofs.Known.{keeps_then}
use Rattle.sg_array.specs.Steps.{HasRoom}
use Rattle.sg_array.proofs.Growth.{index_room}
use Rattle.sg_array.proofs.Places.{same_quotient, same_rest}
use Rattle.sg_array.proofs.Pushes.{grow_ready, new_leaf, is_full}
use Rattle.sg_array.proofs.extend.new_leaf.Goals as goal

pub index_for-requires-clause-there : goal.index_for-requires-clause-there
index_for-requires-clause-there g c = λ told.
    let h = c.requires.there told in
    let part = sym (same_rest h.2.count_is refl h.2.can.fits) ∙ c.requires.full in
    let d = same_quotient h.2.count_is c.per_page.ensures h.2.can.fits in
    (h.0, h.1, grow_ready _ h.1 h.2 c.requires.longest part d)

pub link_new-requires-clause-can : goal.link_new-requires-clause-can
link_new-requires-clause-can g c = λ told.
    let back = c.index_for.ensures.counts.told told in
    let h = c.requires.there back in
    let part = sym (same_rest h.2.count_is refl h.2.can.fits) ∙ c.requires.full in
    let d = same_quotient h.2.count_is c.per_page.ensures h.2.can.fits in
    let can = grow_ready _ h.1 h.2 c.requires.longest part d in
    let did = c.in_ok-index.ensures.did in
    let x = did.done back h.0 h.1 can in
    let page = (x.builds.built).names.index (length h.0.leaves / 509) c.in_ok-index.index.0 x.at in
    let free = x.free in
    let many = can.free in
    record {
      page = record { what = page.what; is = page.is; has = subst (λ (n : ℕ). HasRoom (n % 509) page.what) can.behind (index_room refl page.has) };
      some = omega arith;
      may_take = (did.keeps back).may_take can.may_take;
      may_have = x.roomy.index (length h.0.leaves / 509) c.in_ok-index.index.0 x.at _ (omega arith);
    }

pub returns-clause-did : goal.returns-clause-did
returns-clause-did g c =
    let did = c.in_ok-index.ensures.did in
    let link = c.in_ok-leaf.ensures.did in
    record {
      keeps = λ t. keeps_then (did.keeps t) (link.keeps ((did.keeps t).told t));
      done = λ t a h next.
          let mid = (did.keeps t).told t in
          let part = sym (same_rest next.count_is refl next.can.fits) ∙ c.requires.full in
          let d = same_quotient next.count_is c.per_page.ensures next.can.fits in
          let peak = sym next.count_is ∙ (c.requires.longest ∙ next.peak_is) in
          let can = grow_ready _ h next c.requires.longest part d in
          new_leaf h peak (is_full h peak part) (did.done t a h can) (ap (λ (n : ℕ). n % 509) (sym can.behind)) link.small (link.done mid) (link.keeps mid) (link.may_fill mid);
    }

pub returns-in_err-leaf-clause-later : goal.returns-in_err-leaf-clause-later
returns-in_err-leaf-clause-later g c = g.met.P.PageSpace.later_then _ _ _ _ c.index_for.ensures.later c.link_new.ensures.later

pub returns-clause-later : goal.returns-clause-later
returns-clause-later g c = g.met.P.PageSpace.later_then _ _ _ _ c.index_for.ensures.later c.link_new.ensures.later
