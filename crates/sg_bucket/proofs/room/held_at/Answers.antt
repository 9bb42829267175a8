use Rattle.std.proofs.Common.{List, ℕ, length, sym, ap, arith}
use Rattle.sg_base.specs.Sheet.{sheet_of}
use Rattle.sg_slotted.proofs.Room.{bytes_fit}
use Rattle.sg_bucket.proofs.room.held_at.Goals as goal

pub returns-clause-read : goal.returns-clause-read
returns-clause-read g c = λ shows. record {
  what = sheet_of c.in_ok-view.view.page.now;
  is = c.in_ok-view.ensures.looked shows;
  has = record {
    cell = c.in-Some.cell.now;
    is = sym c.in-Some.ensures;
    value = ap (λ (x : List ℕ). length x) (sym c.value_in.ensures.value);
    most = let fits = bytes_fit c.in_ok-view.view.page.now c.in_ok-view.view.slotted in let room = c.room-room.ensures in omega arith;
  };
}

pub returns-then-kind-ne-BUCKET_KIND-clause-later : goal.returns-then-kind-ne-BUCKET_KIND-clause-later
returns-then-kind-ne-BUCKET_KIND-clause-later g c = λ t. g.met.P.PageSpace.later_then t _ _ _ (c.page.follows.holds-at-none.later t) (c.broken.ensures.later t)

pub returns-in_default-clause-later : goal.returns-in_default-clause-later
returns-in_default-clause-later g c = λ t. g.met.P.PageSpace.later_then t _ _ _ (c.page.follows.holds-at-none.later t) (c.broken-in_default.ensures.later t)

pub returns-then-not-is_entry-clause-later : goal.returns-then-not-is_entry-clause-later
returns-then-not-is_entry-clause-later g c = λ t. g.met.P.PageSpace.later_then t _ _ _ (c.page.follows.holds-at-none.later t) (c.broken-then-not-is_entry.ensures.later t)
