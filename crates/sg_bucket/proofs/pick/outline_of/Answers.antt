use Rattle.std.proofs.Common.{ℕ, sym, ap, arith}
use Rattle.sg_base.specs.Sheet.{sheet_of}
use Rattle.sg_slotted.proofs.Room.{bytes_fit}
use Rattle.sg_bucket.proofs.pick.outline_of.Goals as goal

pub returns-clause-read : goal.returns-clause-read
returns-clause-read g c = λ shows. record {
  what = sheet_of c.in_ok-view.view.page.now;
  is = c.in_ok-view.ensures.looked shows;
  has = record {
    slots = sym c.slots-slots.ensures;
    next = ap (λ (links : ℕ × ℕ). links.0) (sym c.links-next.ensures);
    fits = bytes_fit c.in_ok-view.view.page.now c.in_ok-view.view.slotted;
  };
}

pub returns-clause-most : goal.returns-clause-most
returns-clause-most g c =
    let fit = bytes_fit c.in_ok-view.view.page.now c.in_ok-view.view.slotted in
    let slots = c.slots-slots.ensures in
    omega arith

pub returns-then-kind-ne-BUCKET_KIND-clause-later : goal.returns-then-kind-ne-BUCKET_KIND-clause-later
returns-then-kind-ne-BUCKET_KIND-clause-later g c = λ t. g.met.P.PageSpace.later_then t _ _ _ (c.page.follows.holds-at-none.later t) (c.broken.ensures.later t)
