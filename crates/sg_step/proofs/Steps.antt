-- Operations on pages by what is seen.
use Rattle.std.proofs.Common.{◌≡◌, ◌≢◌, ℕ, suc, ◌+◌, ◌<◌, ◌≤◌, ◌==◌, ◌&&◌, nat_le, Bool, true, false, cond, if◌then◌else◌, List, [], ◌∷◌, ◌++◌, length, set, Option, Some, None, option_map, is_some, is_none, refl, sym, ap, ◌∙◌, subst, arith, inl, inr}
use Rattle.std.proofs.lemmas.Bool.{cases_lt, cases_eq}
use Rattle.std.proofs.lemmas.Bool.Decides.{nat_tests}
use Rattle.std.proofs.lemmas.List.{get_or-set_same, get_or-set_other, get_or_past, get_or_push, length_push, get_or_append_left}
use Rattle.std.proofs.lemmas.List.Sums.{sum_by-append}
use Rattle.sg_base.specs.Page.{cell_in, cell_size, stored, bytes_of}
use Rattle.std.specs.Prelude.{option_and_then}
use Rattle.sg_ops.specs.Meaning.{RecordMeaning}
use Rattle.sg_ops.specs.Table.{Table, record_at, accepts_of, after_of, before_of}
use Rattle.sg_slotted.proofs.Room.{full_below}
use Rattle.sg_base.specs.Slots.{Slots, cell_bytes, with_cell, where_room, put_in, set_in, remove_in}
use Rattle.sg_base.specs.Sheet.{Sheet, Seen, seen}
use Rattle.sg_base.specs.Op.{Op}
use Rattle.sg_ops.specs.Steps.{item_after, item_before, change_in, with_slots, step}
use Rattle.sg_base.specs.Op.Op.{Format, Put, Remove, Set, Links, Item, ItemBack}

-- the cells with one replaced
abbrev pub but : (ℕ → Option (List ℕ)) → ℕ → Option (List ℕ) → ℕ → Option (List ℕ)
but f i v j = if j == i then v else f j

pub but_here : (f : ℕ → Option (List ℕ)) (i : ℕ) (v : Option (List ℕ)) → but f i v i ≡ v
but_here f i v = let e : (i == i) ≡ true = grind (arith, nat_tests) in rw e refl

pub but_there : (f : ℕ → Option (List ℕ)) (i j : ℕ) (v : Option (List ℕ)) → j ≢ i → but f i v j ≡ f j
but_there f i j v h = let e : (j == i) ≡ false = grind (arith, nat_tests, h) in rw e refl

pub but_but : (f : ℕ → Option (List ℕ)) (i : ℕ) (v w : Option (List ℕ)) → but (but f i v) i w ≡ but f i w
but_but f i v w = λ k j. at j k
  where
    by : (b : Bool) (x : Option (List ℕ)) → cond b w (cond b v x) ≡ cond b w x
    by true x = refl
    by false x = refl

    at : (j : ℕ) → but (but f i v) i w j ≡ but f i w j
    at j = by (j == i) (f j)

pub but_same : (f : ℕ → Option (List ℕ)) (i : ℕ) (v : Option (List ℕ)) → f i ≡ v → but f i v ≡ f
but_same f i v e = λ k j. at j k
  where
    at : (j : ℕ) → but f i v j ≡ f j
    at j = elim (cases_eq j i) [
      | inl same ↦ ap (but f i v) same ∙ (but_here f i v ∙ (sym e ∙ ap f (sym same)))
      | inr other ↦ but_there f i j v other
    ]

-- the cells of a list with one replaced
pub cells_set : (slots : Slots) (i : ℕ) (v : Option (List ℕ)) → i < length slots → cell_in (set slots i v) ≡ but (cell_in slots) i v
cells_set slots i v below = λ k j. at j k
  where
    at : (j : ℕ) → cell_in (set slots i v) j ≡ but (cell_in slots) i v j
    at j = elim (cases_eq j i) [
      | inl same ↦ ap (cell_in (set slots i v)) same ∙ (get_or-set_same slots i v None below ∙ (sym (but_here (cell_in slots) i v) ∙ ap (but (cell_in slots) i v) (sym same)))
      | inr other ↦ get_or-set_other slots i j v None other ∙ sym (but_there (cell_in slots) i j v other)
    ]

pub cells_push : (slots : Slots) (i : ℕ) (v : Option (List ℕ)) → i ≡ length slots → cell_in (slots ++ (v ∷ [])) ≡ but (cell_in slots) i v
cells_push slots i v last = λ k j. at j k
  where
    past : (j : ℕ) → j ≢ i → length slots ≤ j → cell_in (slots ++ (v ∷ [])) j ≡ cell_in slots j
    past j other h = get_or_past (slots ++ (v ∷ [])) j None (omega (arith, length_push slots v)) ∙ sym (get_or_past slots j None h)

    at : (j : ℕ) → cell_in (slots ++ (v ∷ [])) j ≡ but (cell_in slots) i v j
    at j = elim (cases_eq j i) [
      | inl same ↦ get_or_push slots v None j (sym (same ∙ last)) ∙ (sym (but_here (cell_in slots) i v) ∙ ap (but (cell_in slots) i v) (sym same))
      | inr other ↦ elim (cases_lt j (length slots)) [
        | inl below ↦ get_or_append_left slots (v ∷ []) None j below ∙ sym (but_there (cell_in slots) i j v other)
        | inr h ↦ past j other h ∙ sym (but_there (cell_in slots) i j v other)
      ]
    ]

pub cells_with : (slots : Slots) (i : ℕ) (cell : List ℕ) → i ≤ length slots → cell_in (with_cell slots i cell) ≡ but (cell_in slots) i (Some cell)
cells_with slots i cell h = by (i == length slots) refl
  where
    by : (b : Bool) → (i == length slots) ≡ b → cell_in (if b then slots ++ (Some cell ∷ []) else set slots i (Some cell)) ≡ but (cell_in slots) i (Some cell)
    by true e = cells_push slots i (Some cell) (grind (arith, nat_tests, e))
    by false e = cells_set slots i (Some cell) (grind (arith, nat_tests, e, h))

-- the bytes of the cells are seen
none_stored : (b : Slots) → ((i : ℕ) → None ≡ cell_in b i) → 0 ≡ stored b
none_stored [] h = refl
none_stored (x ∷ b) h =
    let first : 0 ≡ cell_size x = ap cell_size (h 0) in
    let rest : 0 ≡ stored b = none_stored b (λ i. h (suc i)) in
    let sum : stored (x ∷ b) ≡ (0 + cell_size x) + stored b = sum_by-append cell_size (x ∷ []) b in
    omega arith

pub stored_seen : (a b : Slots) → cell_in a ≡ cell_in b → stored a ≡ stored b
stored_seen a b e = each a b (λ i. ap (λ (f : ℕ → Option (List ℕ)). f i) e)
  where
    each : (a b : Slots) → ((i : ℕ) → cell_in a i ≡ cell_in b i) → stored a ≡ stored b
    each [] b h = none_stored b h
    each (x ∷ a) [] h = sym (none_stored (x ∷ a) (λ i. sym (h i)))
    each (x ∷ a) (y ∷ b) h =
        let first : cell_size x ≡ cell_size y = ap cell_size (h 0) in
        let rest : stored a ≡ stored b = each a b (λ i. h (suc i)) in
        let left : stored (x ∷ a) ≡ (0 + cell_size x) + stored a = sum_by-append cell_size (x ∷ []) a in
        let right : stored (y ∷ b) ≡ (0 + cell_size y) + stored b = sum_by-append cell_size (y ∷ []) b in
        omega arith

-- what is seen after an operation that fits
abbrev pub seen_step : Table → Op → Seen → Seen
seen_step t (Format kind) s = record { kind = kind; links = (0, 0); cells = λ j. None }
seen_step t (Put slot bytes) s = record s { cells = but s.cells slot (Some bytes) }
seen_step t (Remove slot) s = record s { cells = but s.cells slot None }
seen_step t (Set slot bytes) s = record s { cells = but s.cells slot (Some bytes) }
seen_step t (Links ab) s = record s { links = ab }
seen_step t (Item slot code arg) s = record s { cells = but s.cells slot (option_map (λ c. after_of (record_at t code) c arg) (s.cells slot)) }
seen_step t (ItemBack slot code arg) s = record s { cells = but s.cells slot (option_map (λ c. before_of (record_at t code) c arg) (s.cells slot)) }

-- what a step says
pub record HasSlots (sheet new : Sheet) (answer : Option Slots) : Type 0 where
  pub slots : answer ≡ Some new.slots
  pub is : new ≡ record sheet { slots = new.slots }

some_same : {X : Type 0} (a b : X) → Some a ≡ Some b → a ≡ b
some_same a b e = cc

pub slots_some : (sheet new : Sheet) (answer : Option Slots) → with_slots sheet answer ≡ Some new → HasSlots sheet new answer
slots_some sheet new None e = absurd (cc)
slots_some sheet new (Some x) e =
    let is : new ≡ record sheet { slots = x } = sym (some_same (record sheet { slots = x }) new e) in
    record { slots = ap (λ (s : Sheet). Some s.slots) (sym is); is = is ∙ ap (λ (y : Slots). record sheet { slots = y }) (ap (λ (s : Sheet). s.slots) (sym is)) }

if_some : {X : Type 0} (b : Bool) (x y : X) → cond b (Some x) None ≡ Some y → (b ≡ true) × (x ≡ y)
if_some true x y e = (refl, cc)
if_some false x y e = absurd (cc)

then_some : {X : Type 0} (b : Bool) (o : Option X) (y : X) → cond b o None ≡ Some y → (b ≡ true) × (o ≡ Some y)
then_some true o y e = (refl, e)
then_some false o y e = absurd (cc)

empty_is : (o : Option (List ℕ)) → is_none o ≡ true → o ≡ None
empty_is None e = refl
empty_is (Some c) e = absurd (cc)

full_is : (o : Option (List ℕ)) → is_some o ≡ true → o ≡ Some (cell_bytes o)
full_is None e = absurd (cc)
full_is (Some c) e = refl

pub record IsPut (slots : Slots) (i : ℕ) (cell : List ℕ) (new : Slots) : Type 0 where
  pub next : i ≤ length slots
  pub empty : cell_in slots i ≡ None
  pub is : new ≡ with_cell slots i cell
  pub room : bytes_of new ≤ 4072

pub put_is : (slots new : Slots) (i : ℕ) (cell : List ℕ) → put_in slots i cell ≡ Some new → IsPut slots i cell new
put_is slots new i cell e =
    let p = then_some (nat_le i (length slots) && is_none (cell_in slots i)) (where_room (with_cell slots i cell)) new e in
    let q = if_some (nat_le (bytes_of (with_cell slots i cell)) 4072) (with_cell slots i cell) new p.1 in
    let parts = both (nat_le i (length slots)) (is_none (cell_in slots i)) p.0 in
    let most : bytes_of (with_cell slots i cell) ≤ 4072 = grind (arith, nat_tests, q.0) in
    record { next = grind (arith, nat_tests, parts.0); empty = empty_is (cell_in slots i) parts.1; is = sym q.1; room = subst (λ (x : Slots). bytes_of x ≤ 4072) q.1 most }
  where
    both : (a b : Bool) → (a && b) ≡ true → (a ≡ true) × (b ≡ true)
    both true b e = (refl, e)
    both false b e = absurd (cc)

pub record IsSet (slots : Slots) (i : ℕ) (cell : List ℕ) (new : Slots) : Type 0 where
  pub full : cell_in slots i ≡ Some (cell_bytes (cell_in slots i))
  pub is : new ≡ set slots i (Some cell)
  pub room : bytes_of new ≤ 4072

pub set_is : (slots new : Slots) (i : ℕ) (cell : List ℕ) → set_in slots i cell ≡ Some new → IsSet slots i cell new
set_is slots new i cell e =
    let p = then_some (is_some (cell_in slots i)) (where_room (set slots i (Some cell))) new e in
    let q = if_some (nat_le (bytes_of (set slots i (Some cell))) 4072) (set slots i (Some cell)) new p.1 in
    let most : bytes_of (set slots i (Some cell)) ≤ 4072 = grind (arith, nat_tests, q.0) in
    record { full = full_is (cell_in slots i) p.0; is = sym q.1; room = subst (λ (x : Slots). bytes_of x ≤ 4072) q.1 most }

pub record IsRemoved (slots : Slots) (i : ℕ) (new : Slots) : Type 0 where
  pub full : cell_in slots i ≡ Some (cell_bytes (cell_in slots i))
  pub is : new ≡ set slots i None

pub remove_is : (slots new : Slots) (i : ℕ) → remove_in slots i ≡ Some new → IsRemoved slots i new
remove_is slots new i e =
    let p = then_some (is_some (cell_in slots i)) (Some (set slots i None)) new e in
    record { full = full_is (cell_in slots i) p.0; is = same p.1 }
  where
    same : Some (set slots i None) ≡ Some new → new ≡ set slots i None
    same e = cc

pub record IsCellChanged (slots : Slots) (i : ℕ) (change : List ℕ → Option (List ℕ)) (new : Slots) : Type 0 where
  pub cell : List ℕ
  pub full : cell_in slots i ≡ Some (cell_bytes (cell_in slots i))
  pub made : change (cell_bytes (cell_in slots i)) ≡ Some cell
  pub is : new ≡ set slots i (Some cell)

pub change_is : (slots new : Slots) (i : ℕ) (change : List ℕ → Option (List ℕ)) → change_in slots i change ≡ Some new → IsCellChanged slots i change new
change_is slots new i change e = by (cell_in slots i) refl e
  where
    made : (c : List ℕ) → cell_in slots i ≡ Some c → (o : Option (List ℕ)) → change c ≡ o → option_map (λ (cell : List ℕ). set slots i (Some cell)) o ≡ Some new → IsCellChanged slots i change new
    made c h None f g = absurd (cc)
    made c h (Some x) f g =
        let b : cell_bytes (cell_in slots i) ≡ c = ap cell_bytes h in
        record { cell = x; full = h ∙ ap (λ (x : List ℕ). Some x) (sym b); made = ap change b ∙ f; is = some_same new (set slots i (Some x)) (sym g) }

    by : (o : Option (List ℕ)) → cell_in slots i ≡ o → option_map (λ (cell : List ℕ). set slots i (Some cell)) (option_and_then change o) ≡ Some new → IsCellChanged slots i change new
    by None h e = absurd (cc)
    by (Some c) h e = made c h (change c) refl e

-- what an operation on an item says of it
pub record IsRedone (op : Option RecordMeaning) (arg item left : List ℕ) : Type 0 where
  pub accepted : accepts_of op item arg ≡ true
  pub is : left ≡ after_of op item arg

pub redone_is : (op : Option RecordMeaning) (arg item left : List ℕ) → item_after op arg item ≡ Some left → IsRedone op arg item left
redone_is op arg item left e = let p = if_some (accepts_of op item arg) (after_of op item arg) left e in record { accepted = p.0; is = sym p.1 }

pub record IsUndone (op : Option RecordMeaning) (arg item left : List ℕ) : Type 0 where
  pub known : is_some op ≡ true
  pub is : left ≡ before_of op item arg

pub undone_is : (op : Option RecordMeaning) (arg item left : List ℕ) → item_before op arg item ≡ Some left → IsUndone op arg item left
undone_is op arg item left e = let p = if_some (is_some op) (before_of op item arg) left e in record { known = p.0; is = sym p.1 }

-- what is seen of a page with one cell replaced
seen_set : (sheet new : Sheet) (slots : Slots) (i : ℕ) (v : Option (List ℕ)) → new ≡ record sheet { slots = new.slots } → new.slots ≡ slots → cell_in slots ≡ but (cell_in sheet.slots) i v
    → seen new ≡ record (seen sheet) { cells = but (cell_in sheet.slots) i v }
seen_set sheet new slots i v is e f = ap seen is ∙ ap (λ (g : ℕ → Option (List ℕ)). record (seen sheet) { cells = g }) (ap cell_in e ∙ f)

pub full_there : (slots : Slots) (i : ℕ) → cell_in slots i ≡ Some (cell_bytes (cell_in slots i)) → i < length slots
full_there slots i full = full_below slots i (cell_bytes (cell_in slots i)) (sym full)

-- what is seen after a step is a function of what was seen before it: so an operation that fits keeps alike pages alike
pub step_seen : (t : Table) (op : Op) (sheet new : Sheet) → step t op sheet ≡ Some new → seen new ≡ seen_step t op (seen sheet)
step_seen t (Format kind) sheet new e = let is : new ≡ record { kind = kind; links = (0, 0); slots = [] } = cc in ap seen is
step_seen t (Put slot bytes) sheet new e =
    let h = slots_some sheet new (put_in sheet.slots slot bytes) e in
    let p = put_is sheet.slots new.slots slot bytes h.slots in
    seen_set sheet new (with_cell sheet.slots slot bytes) slot (Some bytes) h.is p.is (cells_with sheet.slots slot bytes p.next)
step_seen t (Remove slot) sheet new e =
    let h = slots_some sheet new (remove_in sheet.slots slot) e in
    let p = remove_is sheet.slots new.slots slot h.slots in
    seen_set sheet new (set sheet.slots slot None) slot None h.is p.is (cells_set sheet.slots slot None (full_there sheet.slots slot p.full))
step_seen t (Set slot bytes) sheet new e =
    let h = slots_some sheet new (set_in sheet.slots slot bytes) e in
    let p = set_is sheet.slots new.slots slot bytes h.slots in
    seen_set sheet new (set sheet.slots slot (Some bytes)) slot (Some bytes) h.is p.is (cells_set sheet.slots slot (Some bytes) (full_there sheet.slots slot p.full))
step_seen t (Links ab) sheet new e = let is : new ≡ record sheet { links = ab } = cc in ap seen is
step_seen t (Item slot code arg) sheet new e =
    let op : Option RecordMeaning = record_at t code in
    let h = slots_some sheet new (change_in sheet.slots slot (item_after op arg)) e in
    let p = change_is sheet.slots new.slots slot (item_after op arg) h.slots in
    let g = redone_is op arg (cell_bytes (cell_in sheet.slots slot)) p.cell p.made in
    seen_set sheet new (set sheet.slots slot (Some p.cell)) slot (Some p.cell) h.is p.is (cells_set sheet.slots slot (Some p.cell) (full_there sheet.slots slot p.full))
    ∙ (ap (λ (x : List ℕ). record (seen sheet) { cells = but (cell_in sheet.slots) slot (Some x) }) g.is
    ∙ ap (λ (o : Option (List ℕ)). record (seen sheet) { cells = but (cell_in sheet.slots) slot (option_map (λ c. after_of op c arg) o) }) (sym p.full))
step_seen t (ItemBack slot code arg) sheet new e =
    let op : Option RecordMeaning = record_at t code in
    let h = slots_some sheet new (change_in sheet.slots slot (item_before op arg)) e in
    let p = change_is sheet.slots new.slots slot (item_before op arg) h.slots in
    let g = undone_is op arg (cell_bytes (cell_in sheet.slots slot)) p.cell p.made in
    seen_set sheet new (set sheet.slots slot (Some p.cell)) slot (Some p.cell) h.is p.is (cells_set sheet.slots slot (Some p.cell) (full_there sheet.slots slot p.full))
    ∙ (ap (λ (x : List ℕ). record (seen sheet) { cells = but (cell_in sheet.slots) slot (Some x) }) g.is
    ∙ ap (λ (o : Option (List ℕ)). record (seen sheet) { cells = but (cell_in sheet.slots) slot (option_map (λ c. before_of op c arg) o) }) (sym p.full))

pub keeps_alike : (t : Table) (op : Op) (p q a b : Sheet) → seen p ≡ seen q → step t op p ≡ Some a → step t op q ≡ Some b → seen a ≡ seen b
keeps_alike t op p q a b same e f = step_seen t op p a e ∙ (ap (seen_step t op) same ∙ sym (step_seen t op q b f))
