-- The inverse of an operation right after it.
use Rattle.std.proofs.Common.{◌≡◌, ℕ, ◌+◌, ◌*◌, ◌≤◌, true, false, List, length, Option, Some, IsSome, refl, sym, ap, ◌∙◌, subst, arith, inl, inr}
use Rattle.std.proofs.lemmas.Bool.{cases_Bool}
use Rattle.sg_base.specs.Bytes.{IsBytes}
use Rattle.sg_base.specs.Op.{Op, is_format, opens, shrinks}
use Rattle.sg_base.specs.Op.Op.{Format, Put, Remove, Set, Links, Item, ItemBack}
use Rattle.sg_base.specs.Page.{stored, IsSlotted}
use Rattle.sg_base.specs.Sheet.{Sheet, sheet_of, seen, HasBytes}
use Rattle.sg_ops.specs.Laws.{IsLawful}
use Rattle.sg_ops.specs.Steps.{step, inverse, IsProper}
use Rattle.sg_ops.specs.Table.{Table}
use Rattle.sg_slotted.proofs.Room.{bytes_fit}
use Rattle.sg_step.proofs.Back.{back as back_fits}
use Rattle.sg_step.proofs.CellBytes.{has_bytes}
use Rattle.sg_step.proofs.Sizes.{sizes}

opens_keeps : (op : Op) (p : Sheet) → opens op p ≡ true → shrinks op p ≡ false
opens_keeps (Format k) p e = refl
opens_keeps (Put slot cell) p e = refl
opens_keeps (Remove slot) p e = absurd (cc)
opens_keeps (Set slot cell) p e = absurd (cc)
opens_keeps (Links ab) p e = refl
opens_keeps (Item slot code arg) p e = refl
opens_keeps (ItemBack slot code arg) p e = refl

-- right after an operation its inverse has room, whatever the operation
pub room_after : (t : Table) → IsLawful t → (op : Op) (p new : Sheet) → is_format op ≡ false → HasBytes p → IsProper t op p → step t op p ≡ Some new → 4 * length p.slots + stored p.slots ≤ 4072 → 4 * length new.slots + stored p.slots ≤ 4072
room_after t law op p new plain bytes ok e fit =
    let s = sizes t law op p new plain bytes ok e in
    let f : 4 * length new.slots + stored new.slots ≤ 4072 = s.fit fit in
    elim (cases_Bool (opens op p)) [
      | inl o ↦ let m : stored p.slots ≤ stored new.slots = s.no_less (opens_keeps op p o) in omega arith
      | inr o ↦ let l : length new.slots ≡ length p.slots = s.none_opened o in omega arith
    ]

-- the inverse, on the page that the operation left
pub record IsBackAfter (t : Table) (back : Op) (old mid : Sheet) : Type 0 where
  pub end : Sheet
  pub fits : step t back mid ≡ Some end
  pub alike : (new : Sheet) → step t back mid ≡ Some new → seen new ≡ seen old

pub back_after : (t : Table) (op back : Op) (old : List ℕ) (mid : Sheet) → IsLawful t → IsSlotted old → IsBytes old → is_format op ≡ false → IsProper t op (sheet_of old) → back ≡ inverse op (sheet_of old)
    → step t op (sheet_of old) ≡ Some mid → IsBackAfter t back (sheet_of old) mid
back_after t op back old mid law slotted bytes plain ok is e =
    let p : Sheet = sheet_of old in
    let cells = has_bytes old bytes in
    let n : length p.slots ≤ length mid.slots = (sizes t law op p mid plain cells ok e).no_fewer in
    let b = back_fits t law op p mid mid plain cells ok e refl n (room_after t law op p mid plain cells ok e (bytes_fit old slotted)) in
    let does : step t back mid ≡ Some b.end = ap (λ (o : Op). step t o mid) is ∙ b.done in
    record { end = b.end; fits = does; alike = λ new d. ap seen (same_sheet new b.end (sym d ∙ does)) ∙ b.alike }
  where
    same_sheet : (a b : Sheet) → Some a ≡ Some b → a ≡ b
    same_sheet a b e = cc

pub some_is : {A : Type 0} {o : Option A} {x : A} → o ≡ Some x → IsSome o
some_is {A} {o} {x} e = subst (λ (o : Option A). IsSome o) (sym e) refl
