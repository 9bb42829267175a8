-- One page of an array, and what an operation leaves of it.
use Rattle.std.proofs.Common.{◌≡◌, ◌≢◌, ℕ, zero, suc, ◌+◌, ◌-◌, ◌*◌, ◌/◌, ◌<◌, ◌≤◌, nat_lt, ◌++◌, true, false, List, [], ◌∷◌, length, take, Option, Some, None, is_some, refl, sym, ap, ◌∙◌, subst, arith, set, get_or, slice_get, inl, inr, add-one}
use Rattle.std.proofs.lemmas.Bool.{cases_lt, cases_eq}
use Rattle.std.proofs.lemmas.Bool.Decides.{nat_tests}
use Rattle.std.proofs.lemmas.List.{length-set, length-take-le, get_or_past}
use Rattle.std.proofs.lemmas.Option.{slice_get-get_or, slice_get_past}
use Rattle.std.proofs.Math.Nat.{mul-div-le, mul-le-mul_left}
use Rattle.sg_base.specs.Op.Op.{Set, Remove, Item, ItemBack}
use Rattle.sg_base.specs.Page.{cell_in, cell_size, bytes_of, stored}
use Rattle.sg_base.specs.Sheet.{Sheet}
use Rattle.sg_base.specs.Slots.{Slots, IsFree, with_cell}
use Rattle.sg_ops.specs.Steps.{step, with_slots, item_after, item_before}
use Rattle.sg_ops.specs.Table.{Table, record_at, accepts_of, after_of, before_of}
use Rattle.sg_slotted.proofs.Room.{full_below}
use Rattle.sg_step.proofs.Back.{removes, changes, accepted_after, known_before}
use Rattle.sg_space.proofs.Links.{link_size, stored_most}
use Rattle.sg_space.proofs.Putting.{cell-set_same, cell-set_other, cell-with_same, cell-with_other, length-with, set_step, slice_get-push_same, slice_get-push_other}
use Rattle.sg_space.proofs.InMemory.{slice_get-set_same, slice_get-set_other}
use Rattle.sg_array.specs.Array.{IsRoot, IsIndex, IsLeaf, IsItem, per_page, root_cell}

-- what a change leaves of the slots
abbrev pub with_put : Sheet → ℕ → List ℕ → Sheet
with_put sheet slot cell = record sheet { slots = with_cell sheet.slots slot cell }

abbrev pub with_set : Sheet → ℕ → List ℕ → Sheet
with_set sheet slot cell = record sheet { slots = set sheet.slots slot (Some cell) }

abbrev pub without : Sheet → ℕ → Sheet
without sheet slot = record sheet { slots = set sheet.slots slot None }

pub remove_step : (t : Table) (sheet : Sheet) (slot : ℕ) (was : List ℕ) → cell_in sheet.slots slot ≡ Some was → step t (Remove slot) sheet ≡ Some (without sheet slot)
remove_step t sheet slot was e = ap (with_slots sheet) (removes sheet.slots slot was e)

pub item_step : (t : Table) (sheet : Sheet) (slot code : ℕ) (arg was : List ℕ) → cell_in sheet.slots slot ≡ Some was → accepts_of (record_at t code) was arg ≡ true → step t (Item slot code arg) sheet ≡ Some (with_set sheet slot (after_of (record_at t code) was arg))
item_step t sheet slot code arg was e ok = ap (with_slots sheet) (changes sheet.slots slot (item_after (record_at t code) arg) was _ e (accepted_after (record_at t code) arg was ok))

pub item_back_step : (t : Table) (sheet : Sheet) (slot code : ℕ) (arg was : List ℕ) → cell_in sheet.slots slot ≡ Some was → is_some (record_at t code) ≡ true → step t (ItemBack slot code arg) sheet ≡ Some (with_set sheet slot (before_of (record_at t code) was arg))
item_back_step t sheet slot code arg was e known = ap (with_slots sheet) (changes sheet.slots slot (item_before (record_at t code) arg) was _ e (known_before (record_at t code) arg was known))

-- no page has more bytes of cells than so many times the most that one has
pub bytes_most : (slots : Slots) (size most : ℕ) → ((m : ℕ) → cell_size (cell_in slots m) ≤ size) → length slots ≤ most → bytes_of slots ≤ (size + 4) * most
bytes_most slots size most h few =
    let sum : stored slots ≤ size * length slots = stored_most slots size h in
    let more : (size + 4) * length slots ≤ (size + 4) * most = mul-le-mul_left (size + 4) few in
    omega arith

-- no item is longer than all
option_most : (items : List (List ℕ)) (size i : ℕ) → ((i : ℕ) (item : List ℕ) → slice_get items i ≡ Some item → IsItem size item) → cell_size (slice_get items i) ≤ size
option_most items size i h = go (slice_get items i) refl
  where
    go : (o : Option (List ℕ)) → slice_get items i ≡ o → cell_size o ≤ size
    go None e = omega arith
    go (Some x) e = let same = (h i x e).sized in omega arith

pub leaf_bytes : {size d : ℕ} {items : List (List ℕ)} {sheet : Sheet} → IsLeaf size items d sheet → ((i : ℕ) (item : List ℕ) → slice_get items i ≡ Some item → IsItem size item) → bytes_of sheet.slots ≤ 4072
leaf_bytes {size} {d} {items} {sheet} h each =
    let cells : (m : ℕ) → cell_size (cell_in sheet.slots m) ≤ size = λ m. elim (cases_lt m (per_page size)) [
      | inl b ↦ rw (h.cells m b) (option_most items size (per_page size * d + m) each)
      | inr b ↦ let few = h.few in rw (get_or_past sheet.slots m None (omega arith)) (omega arith)
    ] in
    let most : bytes_of sheet.slots ≤ (size + 4) * per_page size = bytes_most sheet.slots size (per_page size) cells h.few in
    let all : (size + 4) * (4072 / (size + 4)) ≤ 4072 = mul-div-le 4072 (size + 4) in
    omega arith

pub root_bytes : {size count peak : ℕ} {index : List ℕ} {sheet : Sheet} → IsRoot size count peak index sheet → bytes_of sheet.slots ≤ 4072
root_bytes {index = index} {sheet = sheet} h =
    let each : (m : ℕ) → cell_size (cell_in sheet.slots m) ≤ 10 = λ m. elim m as (λ (m : ℕ). cell_size (cell_in sheet.slots m) ≤ 10) [
      | zero ↦ rw h.first (omega arith)
      | suc j ↦ rw (← add-one, h.links j) (let small = link_size (slice_get index j) in omega arith)
    ] in
    let most : bytes_of sheet.slots ≤ 14 * 139 = bytes_most sheet.slots 10 139 each h.few in
    omega arith

pub index_bytes : {leaves : List ℕ} {j : ℕ} {sheet : Sheet} → IsIndex leaves j sheet → bytes_of sheet.slots ≤ 4072
index_bytes {leaves} {j} {sheet} h =
    let each : (m : ℕ) → cell_size (cell_in sheet.slots m) ≤ 4 = λ m. elim (cases_lt m 509) [
      | inl b ↦ rw (h.cells m b) (link_size (slice_get leaves (509 * j + m)))
      | inr b ↦ let few = h.few in rw (get_or_past sheet.slots m None (omega arith)) (omega arith)
    ] in
    let most : bytes_of sheet.slots ≤ 8 * 509 = bytes_most sheet.slots 4 509 each h.few in
    omega arith

-- the root with another first cell
pub root_set : {size count peak : ℕ} {index : List ℕ} {sheet : Sheet} (size' count' peak' : ℕ) → IsRoot size count peak index sheet → IsRoot size' count' peak' index (with_set sheet 0 (root_cell size' count' peak'))
root_set {sheet = sheet} size' count' peak' h =
    let there : 0 < length sheet.slots = full_below sheet.slots 0 _ (sym h.first) in
    record {
      kind = h.kind;
      first = cell-set_same sheet.slots 0 (Some (root_cell size' count' peak')) there;
      links = λ j. cell-set_other sheet.slots 0 (j + 1) (Some (root_cell size' count' peak')) (λ e. omega arith) ∙ h.links j;
      few = rw (length-set sheet.slots 0 (Some (root_cell size' count' peak'))) h.few;
    }

pub root_step : {size count peak : ℕ} {index : List ℕ} {sheet : Sheet} (t : Table) (size' count' peak' : ℕ) → IsRoot size count peak index sheet → step t (Set 0 (root_cell size' count' peak')) sheet ≡ Some (with_set sheet 0 (root_cell size' count' peak'))
root_step {size} {count} {peak} {sheet = sheet} t size' count' peak' h = set_step t sheet 0 (root_cell size count peak) (root_cell size' count' peak') h.first (root_bytes (root_set size' count' peak' h))

-- a cell of as many bytes as the one before
pub same_size : (slots : Slots) (slot : ℕ) (was cell : List ℕ) → cell_in slots slot ≡ Some was → length cell ≡ length was → nat_lt (length cell) (cell_size (cell_in slots slot)) ≡ false
same_size slots slot was cell e long =
    let size : cell_size (cell_in slots slot) ≡ length was = ap cell_size e in
    let test : nat_lt (length cell) (cell_size (cell_in slots slot)) ≡ false = grind (arith, nat_tests, size, long) in
    test

-- the items in front of a place fill the slots in front of it
pub leaf_next : {items : List (List ℕ)} {d : ℕ} {sheet : Sheet} (size m : ℕ) → IsLeaf size items d sheet → m < per_page size → per_page size * d + m ≤ length items → m ≤ length sheet.slots
leaf_next {items} {d} {sheet} size m h below most = elim (cases_eq m 0) [
  | inl e ↦ omega arith
  | inr ne ↦
      let before : per_page size * d + (m - 1) < length items = omega arith in
      let cell : cell_in sheet.slots (m - 1) ≡ Some (get_or items (per_page size * d + (m - 1)) []) = h.cells (m - 1) (omega arith) ∙ slice_get-get_or items (per_page size * d + (m - 1)) [] before in
      let there : m - 1 < length sheet.slots = full_below sheet.slots (m - 1) _ (sym cell) in
      omega arith
]

-- an item page with one item more
pub put_leaf : {items : List (List ℕ)} {d : ℕ} {sheet : Sheet} (size m : ℕ) (item : List ℕ) → IsLeaf size items d sheet → m < per_page size → per_page size * d + m ≡ length items → IsLeaf size (items ++ (item ∷ [])) d (with_put sheet m item)
put_leaf {items} {d} {sheet} size m item h below at =
    let room : m ≤ length sheet.slots = leaf_next size m h below (omega arith) in
    record {
      kind = h.kind;
      cells = λ n less. elim (cases_eq n m) [
        | inl e ↦ subst (λ (x : ℕ). cell_in (with_cell sheet.slots m item) x ≡ slice_get (items ++ (item ∷ [])) (per_page size * d + x)) (sym e)
            (cell-with_same sheet.slots m item room ∙ sym (slice_get-push_same items (per_page size * d + m) item at))
        | inr ne ↦ cell-with_other sheet.slots m n item room ne ∙ (h.cells n less ∙ sym (slice_get-push_other items (per_page size * d + n) item (λ (e : per_page size * d + n ≡ length items). ne (omega arith))))
      ];
      few = length-with sheet.slots m item (per_page size) below room h.few;
    }

-- the slot behind the last item is free
pub leaf_free : {items : List (List ℕ)} {d : ℕ} {sheet : Sheet} (size m : ℕ) → IsLeaf size items d sheet → m < per_page size → per_page size * d + m ≡ length items → IsFree sheet.slots m
leaf_free {items} {d} size m h below at = record { next = leaf_next size m h below (omega arith); empty = h.cells m below ∙ slice_get_past items (per_page size * d + m) (omega arith) }

-- an item page with another item in a slot
pub set_leaf : {items : List (List ℕ)} {d : ℕ} {sheet : Sheet} (size m : ℕ) (item : List ℕ) → IsLeaf size items d sheet → m < per_page size → per_page size * d + m < length items → IsLeaf size (set items (per_page size * d + m) item) d (with_set sheet m item)
set_leaf {items} {d} {sheet} size m item h below within =
    let there : m < length sheet.slots = full_below sheet.slots m (get_or items (per_page size * d + m) []) (sym (h.cells m below ∙ slice_get-get_or items (per_page size * d + m) [] within)) in
    record {
      kind = h.kind;
      cells = λ n less. elim (cases_eq n m) [
        | inl e ↦ subst (λ (x : ℕ). cell_in (set sheet.slots m (Some item)) x ≡ slice_get (set items (per_page size * d + m) item) (per_page size * d + x)) (sym e)
            (cell-set_same sheet.slots m (Some item) there ∙ sym (slice_get-set_same items (per_page size * d + m) item within))
        | inr ne ↦ cell-set_other sheet.slots m n (Some item) ne ∙ (h.cells n less ∙ sym (slice_get-set_other items (per_page size * d + m) (per_page size * d + n) item (λ (e : per_page size * d + n ≡ per_page size * d + m). ne (omega arith))))
      ];
      few = rw (length-set sheet.slots m (Some item)) h.few;
    }

pub slice_get-take_within : {X : Type 0} (xs : List X) (n i : ℕ) → i < n → slice_get (take n xs) i ≡ slice_get xs i
slice_get-take_within xs zero i h = absurd (omega arith)
slice_get-take_within [] (suc n) i h = refl
slice_get-take_within (y ∷ ys) (suc n) zero h = refl
slice_get-take_within (y ∷ ys) (suc n) (suc i) h = slice_get-take_within ys n i (omega arith)

-- all but the last item
pub take_others : (items : List (List ℕ)) (n i : ℕ) → n + 1 ≡ length items → i ≢ n → slice_get (take n items) i ≡ slice_get items i
take_others items n i e ne = elim (cases_lt i n) [
  | inl b ↦ slice_get-take_within items n i b
  | inr b ↦
      let long : length (take n items) ≡ n = length-take-le n items (omega arith) in
      slice_get_past (take n items) i (omega arith) ∙ sym (slice_get_past items i (omega arith))
]

-- an item page without the last item
pub remove_leaf : {items : List (List ℕ)} {d : ℕ} {sheet : Sheet} (size m : ℕ) → IsLeaf size items d sheet → m < per_page size → per_page size * d + m + 1 ≡ length items → IsLeaf size (take (per_page size * d + m) items) d (without sheet m)
remove_leaf {items} {d} {sheet} size m h below at =
    let item : cell_in sheet.slots m ≡ Some (get_or items (per_page size * d + m) []) = h.cells m below ∙ slice_get-get_or items (per_page size * d + m) [] (omega arith) in
    let there : m < length sheet.slots = full_below sheet.slots m _ (sym item) in
    let long : length (take (per_page size * d + m) items) ≡ per_page size * d + m = length-take-le (per_page size * d + m) items (omega arith) in
    record {
      kind = h.kind;
      cells = λ n less. elim (cases_eq n m) [
        | inl e ↦ subst (λ (x : ℕ). cell_in (set sheet.slots m None) x ≡ slice_get (take (per_page size * d + m) items) (per_page size * d + x)) (sym e)
            (cell-set_same sheet.slots m None there ∙ sym (slice_get_past (take (per_page size * d + m) items) (per_page size * d + m) (omega arith)))
        | inr ne ↦ cell-set_other sheet.slots m n None ne ∙ (h.cells n less ∙ sym (take_others items (per_page size * d + m) (per_page size * d + n) at (λ (e : per_page size * d + n ≡ per_page size * d + m). ne (omega arith))))
      ];
      few = rw (length-set sheet.slots m None) h.few;
    }
