-- Cells of a page of which one was put or set.
use Rattle.std.proofs.Common.{◌≡◌, ◌≢◌, ℕ, zero, suc, ◌+◌, ◌<◌, ◌≤◌, ◌==◌, ◌&&◌, nat_le, if◌then◌else◌, true, false, Bool, List, [], ◌∷◌, ◌++◌, length, Option, Some, None, is_none, sym, ap, ◌∙◌, refl, arith, set, slice_get, inl, inr}
use Rattle.std.proofs.lemmas.Bool.{cases_lt}
use Rattle.std.proofs.lemmas.Bool.Decides.{nat_tests}
use Rattle.std.proofs.lemmas.List.{get_or-set_other, get_or-set_same, length_push, length-set}
use Rattle.sg_base.specs.Op.Op.{Put, Set}
use Rattle.sg_base.specs.Page.{cell_in, bytes_of}
use Rattle.sg_base.specs.Sheet.{Sheet}
use Rattle.sg_base.specs.Slots.{Slots, IsFree, with_cell, where_room}
use Rattle.sg_ops.specs.Steps.{step, with_slots}
use Rattle.sg_ops.specs.Table.{Table}
use Rattle.sg_step.proofs.Back.{has_room, sets}
use Rattle.sg_step.proofs.Steps.{but_here, but_there, cells_with}

pub cell-set_same : (slots : Slots) (m : ℕ) (x : Option (List ℕ)) → m < length slots → cell_in (set slots m x) m ≡ x
cell-set_same slots m x h = get_or-set_same slots m x None h

pub cell-set_other : (slots : Slots) (m n : ℕ) (x : Option (List ℕ)) → n ≢ m → cell_in (set slots m x) n ≡ cell_in slots n
cell-set_other slots m n x h = get_or-set_other slots m n x None h

pub cell-with_same : (slots : Slots) (m : ℕ) (cell : List ℕ) → m ≤ length slots → cell_in (with_cell slots m cell) m ≡ Some cell
cell-with_same slots m cell h = ap (λ (f : ℕ → Option (List ℕ)). f m) (cells_with slots m cell h) ∙ but_here (cell_in slots) m (Some cell)

pub cell-with_other : (slots : Slots) (m n : ℕ) (cell : List ℕ) → m ≤ length slots → n ≢ m → cell_in (with_cell slots m cell) n ≡ cell_in slots n
cell-with_other slots m n cell h ne = ap (λ (f : ℕ → Option (List ℕ)). f n) (cells_with slots m cell h) ∙ but_there (cell_in slots) m n (Some cell) ne

pub length-with : (slots : Slots) (m : ℕ) (cell : List ℕ) (most : ℕ) → m < most → m ≤ length slots → length slots ≤ most → length (with_cell slots m cell) ≤ most
length-with slots m cell most a b c = by (m == length slots) refl
  where
    by : (test : Bool) → (m == length slots) ≡ test → length (if test then slots ++ (Some cell ∷ []) else set slots m (Some cell)) ≤ most
    by true e = let last : m ≡ length slots = grind (arith, nat_tests, e) in let long : length (slots ++ (Some cell ∷ [])) ≡ length slots + 1 = length_push slots (Some cell) in omega arith
    by false e = let long : length (set slots m (Some cell)) ≡ length slots = length-set slots m (Some cell) in omega arith

-- a cell may be put into a free slot, and set in a full one, where the page has the room
pub put_step : (t : Table) (sheet : Sheet) (slot : ℕ) (cell : List ℕ) → IsFree sheet.slots slot → bytes_of (with_cell sheet.slots slot cell) ≤ 4072 → step t (Put slot cell) sheet ≡ Some (record sheet { slots = with_cell sheet.slots slot cell })
put_step t sheet slot cell free fits =
    let next = free.next in
    let test : nat_le slot (length sheet.slots) ≡ true = grind (arith, nat_tests, next) in
    ap (with_slots sheet) (
    ap (λ (o : Option (List ℕ)). if nat_le slot (length sheet.slots) && is_none o then where_room (with_cell sheet.slots slot cell) else None) free.empty
    ∙ (ap (λ (b : Bool). if b && true then where_room (with_cell sheet.slots slot cell) else None) test ∙ has_room (with_cell sheet.slots slot cell) fits))

pub set_step : (t : Table) (sheet : Sheet) (slot : ℕ) (was cell : List ℕ) → cell_in sheet.slots slot ≡ Some was → bytes_of (set sheet.slots slot (Some cell)) ≤ 4072 → step t (Set slot cell) sheet ≡ Some (record sheet { slots = set sheet.slots slot (Some cell) })
set_step t sheet slot was cell e fits = ap (with_slots sheet) (sets sheet.slots slot was cell e fits)

-- a list with one element more
pub slice_get-push_same : {X : Type 0} (xs : List X) (i : ℕ) (x : X) → i ≡ length xs → slice_get (xs ++ (x ∷ [])) i ≡ Some x
slice_get-push_same [] zero x h = refl
slice_get-push_same [] (suc i) x h = absurd (omega arith)
slice_get-push_same (y ∷ ys) zero x h = absurd (omega arith)
slice_get-push_same (y ∷ ys) (suc i) x h = slice_get-push_same ys i x (omega arith)

pub slice_get-push_other : {X : Type 0} (xs : List X) (i : ℕ) (x : X) → i ≢ length xs → slice_get (xs ++ (x ∷ [])) i ≡ slice_get xs i
slice_get-push_other [] zero x h = absurd (h refl)
slice_get-push_other [] (suc i) x h = refl
slice_get-push_other (y ∷ ys) zero x h = refl
slice_get-push_other (y ∷ ys) (suc i) x h = slice_get-push_other ys i x (λ e. h (ap suc e))
