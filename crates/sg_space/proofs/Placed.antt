-- A cell on a page that was just taken.
use Rattle.std.proofs.Common.{◌≡◌, ℕ, ◌+◌, ◌≤◌, List, [], ◌∷◌, length, Option, Some, IsSome, false, true, refl, sym, ap, subst, ◌∙◌, inl, inr, arith}
use Rattle.std.proofs.lemmas.Bool.{cases_eq}
use Rattle.sg_base.specs.Op.Op.{Put}
use Rattle.sg_base.specs.Page.{bytes_of}
use Rattle.sg_base.specs.Sheet.{Sheet}
use Rattle.sg_ops.specs.Steps.{step, with_slots}
use Rattle.sg_ops.specs.Table.{Table}
use Rattle.sg_slotted.proofs.Room.{bytes_of-push}
use Rattle.sg_step.proofs.Back.{has_room}
use Rattle.sg_space.specs.Pages.{empty_sheet, IsPossible, Changed, Took}
use Rattle.sg_space.specs.Reads.{one_cell, TookWith}
use Rattle.sg_space.specs.Units.{Units, IsChanged, IsTaken}
use Rattle.sg_space.specs.View.{View}

pub first_put : (t : Table) (kind : ℕ) (cell : List ℕ) → length cell ≤ 4068 → step t (Put 0 cell) (empty_sheet kind) ≡ Some (one_cell kind cell)
first_put t kind cell fits =
    let sum : bytes_of (Some cell ∷ []) ≡ 0 + (4 + length cell) = bytes_of-push [] (Some cell) in
    ap (with_slots (empty_sheet kind)) (has_room (Some cell ∷ []) (omega arith))

-- one that was taken and then changed
pub taken_changed : {A : Type 0} {a b c : Units A} {n : ℕ} {P Q : A → Type 0} {change : A → Option A} (y : A) → IsTaken a b n P → IsChanged b c n change → ((x : A) → P x → change x ≡ Some y) → Q y → IsTaken a c n Q
taken_changed y t h made has = record {
  was_free = t.was_free;
  fresh = record { what = y; is = h.here t.fresh.what t.fresh.is ∙ made t.fresh.what t.fresh.has; has = has };
  others = λ m ne. h.others m ne ∙ t.others m ne;
  free = let x = t.free in let y = h.free in omega arith;
  count = h.count ∙ t.count;
}

-- the first cell may be put on a page that was just taken
pub possible_first : (t : Table) (v : View) (p kind : ℕ) (cell : List ℕ) (sheet : Sheet) → length cell ≤ 4068 → ((n : ℕ) → n ≤ 1018 → v.MayHave p n) → sheet ≡ empty_sheet kind → IsPossible t v p (Put 0 cell) sheet
possible_first t v p kind cell sheet fits may is = subst (λ (s : Sheet). IsPossible t v p (Put 0 cell) s) (sym is) (record {
  plain = refl;
  fits = subst (λ (o : Option Sheet). IsSome o) (sym (first_put t kind cell fits)) refl;
  done = tt;
  short = omega arith;
  place = λ e. may 1 (omega arith);
})
  where
    no : false ≡ true → ⊥
    no e = cc

-- a page that was taken, and then its first cell
pub took_with : (t : Table) (a b c : View) (kind : ℕ) (cell : List ℕ) (p : ℕ) → length cell ≤ 4068 → Took a b kind p → Changed t b c p (Put 0 cell) → TookWith a c kind cell p
took_with t a b c kind cell p fits took did = record {
  told = λ h. did.told (took.keeps.told h);
  may_take = λ h. did.may_take (took.keeps.may_take h);
  may_have = λ q n h. elim (cases_eq q p) as (λ _. c.MayHave q n) [
    | inl same ↦ subst (λ (k : ℕ). c.MayHave k n) (sym same) (did.may_still n (λ sheet e. refl) (subst (λ (k : ℕ). b.MayHave k n) same (took.keeps.may_have q n h)))
    | inr other ↦ did.may_have q n other (took.keeps.may_have q n h)
  ];
  pages = λ h. taken_changed (one_cell kind cell) (took.pages h) (did.pages (took.keeps.told h)) (λ x e. ap (step t (Put 0 cell)) e ∙ first_put t kind cell fits) refl;
  bands = λ h. did.bands (took.keeps.told h) ∙ took.bands h;
  may_fill = λ h n le. did.may_still n (λ sheet e. refl) (took.may_fill h n le);
  small = took.small;
  wrote = λ b h. took.wrote b (did.wrote b h);
}
