-- The entries of slots and of chains of pages, by counting.
use Rattle.std.proofs.Common.{◌≡◌, ℕ, suc, ◌+◌, ◌<◌, ◌≤◌, ◌==◌, Bool, true, false, cond, if◌then◌else◌, List, [], ◌∷◌, ◌++◌, length, set, take, drop, Option, Some, None, sym, ap, refl, arith}
use Rattle.std.specs.List.{sum_by, count_by, remove}
use Rattle.std.proofs.lemmas.Bool.Decides.{nat_tests}
use Rattle.std.proofs.lemmas.List.Sums.{sum_by-cons, sum_by-append, sum_by-set, sum_by_push, get_or-le-sum_by, sum_by-take-drop, sum_by-drop_more}
use Rattle.sg_base.specs.Page.{cell_in}
use Rattle.sg_base.specs.Slots.{Slots, IsFree, with_cell}
use Rattle.sg_slotted.proofs.Room.{full_below}
use Rattle.sg_bucket.specs.Bucket.{entries_of, part_at}
use Rattle.sg_bucket.specs.Entry.{Entry, entry_in, AreOnce, AreExchanged, value_of}
use Rattle.sg_bucket.specs.Part.{entries_in, HasNoKey}
use Rattle.sg_bucket.proofs.Values.{has_key, is_entry, count_no, other_bytes, value_there, is_self}

-- what a slot adds to a sum over the entries
weight : (Entry → ℕ) → Option (List ℕ) → ℕ
weight f None = 0
weight f (Some cell) = f (entry_in cell)

slots_sum : (f : Entry → ℕ) (slots : Slots) → sum_by f (entries_in slots) ≡ sum_by (weight f) slots
unfolding weight
slots_sum f [] = refl
slots_sum f (None ∷ slots) =
    let rest = slots_sum f slots in
    let right : sum_by (weight f) (None ∷ slots) ≡ 0 + sum_by (weight f) slots = sum_by-cons (weight f) None slots in
    omega arith
slots_sum f (Some cell ∷ slots) =
    let rest = slots_sum f slots in
    let left : sum_by f (entry_in cell ∷ entries_in slots) ≡ f (entry_in cell) + sum_by f (entries_in slots) = sum_by-cons f (entry_in cell) (entries_in slots) in
    let right : sum_by (weight f) (Some cell ∷ slots) ≡ f (entry_in cell) + sum_by (weight f) slots = sum_by-cons (weight f) (Some cell) slots in
    omega arith

parts_sum : (f : Entry → ℕ) (parts : List Slots) → sum_by f (entries_of parts) ≡ sum_by (λ slots. sum_by f (entries_in slots)) parts
parts_sum f [] = refl
parts_sum f (slots ∷ parts) =
    let rest = parts_sum f parts in
    let left : sum_by f (entries_in slots ++ entries_of parts) ≡ sum_by f (entries_in slots) + sum_by f (entries_of parts) = sum_by-append f (entries_in slots) (entries_of parts) in
    let right : sum_by (λ (s : Slots). sum_by f (entries_in s)) (slots ∷ parts) ≡ sum_by f (entries_in slots) + sum_by (λ (s : Slots). sum_by f (entries_in s)) parts = sum_by-cons (λ (s : Slots). sum_by f (entries_in s)) slots parts in
    omega arith

pub one_sum : (f : Entry → ℕ) (e : Entry) → sum_by f (e ∷ []) ≡ f e
one_sum f e = let sum : sum_by f (e ∷ []) ≡ f e + 0 = sum_by-cons f e [] in omega arith

-- a slot's cell is one of the entries
pub slot_has : (f : Entry → ℕ) (slots : Slots) (slot : ℕ) (cell : List ℕ) → cell_in slots slot ≡ Some cell → f (entry_in cell) ≤ sum_by f (entries_in slots)
unfolding weight
slot_has f slots slot cell e =
    let all = slots_sum f slots in
    let here : weight f (cell_in slots slot) ≡ f (entry_in cell) = ap (weight f) e in
    let one : weight f (cell_in slots slot) ≤ sum_by (weight f) slots = get_or-le-sum_by (weight f) slots slot None (full_below slots slot cell (sym e)) in
    omega arith

pub part_has : (f : Entry → ℕ) (parts : List Slots) (i : ℕ) → i < length parts → sum_by f (entries_in (part_at parts i)) ≤ sum_by f (entries_of parts)
part_has f parts i below =
    let all = parts_sum f parts in
    let one : sum_by f (entries_in (part_at parts i)) ≤ sum_by (λ (s : Slots). sum_by f (entries_in s)) parts = get_or-le-sum_by (λ (s : Slots). sum_by f (entries_in s)) parts i [] below in
    omega arith

-- a slot set
set_weighs : (f : Entry → ℕ) (slots : Slots) (slot : ℕ) (x : Option (List ℕ)) → slot < length slots → sum_by f (entries_in (set slots slot x)) + weight f (cell_in slots slot) ≡ sum_by f (entries_in slots) + weight f x
set_weighs f slots slot x below =
    let old = slots_sum f slots in
    let new = slots_sum f (set slots slot x) in
    let sum : sum_by (weight f) (set slots slot x) + weight f (cell_in slots slot) ≡ sum_by (weight f) slots + weight f x = sum_by-set (weight f) slots slot x None below in
    omega arith

push_weighs : (f : Entry → ℕ) (slots : Slots) (cell : List ℕ) → sum_by f (entries_in (slots ++ (Some cell ∷ []))) ≡ sum_by f (entries_in slots) + f (entry_in cell)
unfolding weight
push_weighs f slots cell =
    let old = slots_sum f slots in
    let new = slots_sum f (slots ++ (Some cell ∷ [])) in
    let sum : sum_by (weight f) (slots ++ (Some cell ∷ [])) ≡ sum_by (weight f) slots + f (entry_in cell) = sum_by_push (weight f) slots (Some cell) in
    omega arith

-- an entry in a free slot, another one in a full slot, and none there any more
put_by : (f : Entry → ℕ) (slots : Slots) (slot : ℕ) (cell : List ℕ) (b : Bool) → (slot == length slots) ≡ b → IsFree slots slot → sum_by f (entries_in (if b then slots ++ (Some cell ∷ []) else set slots slot (Some cell))) ≡ sum_by f (entries_in slots) + f (entry_in cell)
unfolding weight
put_by f slots slot cell true t free = push_weighs f slots cell
put_by f slots slot cell false t free =
    let next = free.next in
    let below : slot < length slots = grind (arith, nat_tests, t) in
    let none : weight f (cell_in slots slot) ≡ 0 = ap (weight f) free.empty in
    let sum : sum_by f (entries_in (set slots slot (Some cell))) + weight f (cell_in slots slot) ≡ sum_by f (entries_in slots) + f (entry_in cell) = set_weighs f slots slot (Some cell) below in
    omega arith

pub put_exchanges : (slots : Slots) (slot : ℕ) (cell : List ℕ) → IsFree slots slot → AreExchanged (entries_in slots) (entries_in (with_cell slots slot cell)) [] (entry_in cell ∷ [])
put_exchanges slots slot cell free = record {
  had = λ f. omega arith;
  sums = λ f.
      let sum = put_by f slots slot cell (slot == length slots) refl free in
      let one = one_sum f (entry_in cell) in
      omega arith;
}

pub set_exchanges : (slots : Slots) (slot : ℕ) (was cell : List ℕ) → cell_in slots slot ≡ Some was → AreExchanged (entries_in slots) (entries_in (set slots slot (Some cell))) (entry_in was ∷ []) (entry_in cell ∷ [])
unfolding weight
set_exchanges slots slot was cell e = record {
  had = λ f. let one = one_sum f (entry_in was) in let has = slot_has f slots slot was e in omega arith;
  sums = λ f.
      let was_there : weight f (cell_in slots slot) ≡ f (entry_in was) = ap (weight f) e in
      let sum : sum_by f (entries_in (set slots slot (Some cell))) + weight f (cell_in slots slot) ≡ sum_by f (entries_in slots) + f (entry_in cell) = set_weighs f slots slot (Some cell) (full_below slots slot was (sym e)) in
      let one = one_sum f (entry_in cell) in
      let other = one_sum f (entry_in was) in
      omega arith;
}

pub remove_exchanges : (slots : Slots) (slot : ℕ) (was : List ℕ) → cell_in slots slot ≡ Some was → AreExchanged (entries_in slots) (entries_in (set slots slot None)) (entry_in was ∷ []) []
unfolding weight
remove_exchanges slots slot was e = record {
  had = λ f. let one = one_sum f (entry_in was) in let has = slot_has f slots slot was e in omega arith;
  sums = λ f.
      let was_there : weight f (cell_in slots slot) ≡ f (entry_in was) = ap (weight f) e in
      let sum : sum_by f (entries_in (set slots slot None)) + weight f (cell_in slots slot) ≡ sum_by f (entries_in slots) + 0 = set_weighs f slots slot None (full_below slots slot was (sym e)) in
      let other = one_sum f (entry_in was) in
      omega arith;
}

-- an exchange on one page is one of the chain
pub part_exchanges : (parts : List Slots) (i : ℕ) (slots : Slots) (gone come : List Entry) → i < length parts → AreExchanged (entries_in (part_at parts i)) (entries_in slots) gone come → AreExchanged (entries_of parts) (entries_of (set parts i slots)) gone come
part_exchanges parts i slots gone come below x = record {
  had = λ f. let part = part_has f parts i below in let had = x.had f in omega arith;
  sums = λ f.
      let old = parts_sum f parts in
      let new = parts_sum f (set parts i slots) in
      let sum : sum_by (λ (s : Slots). sum_by f (entries_in s)) (set parts i slots) + sum_by f (entries_in (part_at parts i)) ≡ sum_by (λ (s : Slots). sum_by f (entries_in s)) parts + sum_by f (entries_in slots) = sum_by-set (λ (s : Slots). sum_by f (entries_in s)) parts i slots [] below in
      let one = x.sums f in
      omega arith;
}

-- a page more
pub push_exchanges : (parts : List Slots) (cell : List ℕ) → AreExchanged (entries_of parts) (entries_of (parts ++ ((Some cell ∷ []) ∷ []))) [] (entry_in cell ∷ [])
push_exchanges parts cell = record {
  had = λ f. omega arith;
  sums = λ f.
      let old = parts_sum f parts in
      let new = parts_sum f (parts ++ ((Some cell ∷ []) ∷ [])) in
      let sum : sum_by (λ (s : Slots). sum_by f (entries_in s)) (parts ++ ((Some cell ∷ []) ∷ [])) ≡ sum_by (λ (s : Slots). sum_by f (entries_in s)) parts + sum_by f (entry_in cell ∷ []) = sum_by_push (λ (s : Slots). sum_by f (entries_in s)) parts (Some cell ∷ []) in
      omega arith;
}

-- slots without a cell have no entry
pub no_entries : (slots : Slots) → ((slot : ℕ) (cell : List ℕ) → cell_in slots slot ≡ Some cell → ⊥) → entries_in slots ≡ []
no_entries [] none = refl
no_entries (None ∷ slots) none = no_entries slots (λ slot. none (suc slot))
no_entries (Some cell ∷ slots) none = absurd (none 0 cell refl)

-- a page less, that had no entry
pub cut_exchanges : (parts : List Slots) (i : ℕ) → i < length parts → entries_in (part_at parts i) ≡ [] → AreExchanged (entries_of parts) (entries_of (remove parts i)) [] []
cut_exchanges parts i below none = record {
  had = λ f. omega arith;
  sums = λ f.
      let old = parts_sum f parts in
      let new = parts_sum f (remove parts i) in
      let halves : sum_by (λ (s : Slots). sum_by f (entries_in s)) (take i parts) + sum_by (λ (s : Slots). sum_by f (entries_in s)) (drop i parts) ≡ sum_by (λ (s : Slots). sum_by f (entries_in s)) parts = sum_by-take-drop (λ (s : Slots). sum_by f (entries_in s)) parts i in
      let more : sum_by (λ (s : Slots). sum_by f (entries_in s)) (drop i parts) ≡ sum_by f (entries_in (part_at parts i)) + sum_by (λ (s : Slots). sum_by f (entries_in s)) (drop (i + 1) parts) = sum_by-drop_more (λ (s : Slots). sum_by f (entries_in s)) parts i [] below in
      let left : sum_by (λ (s : Slots). sum_by f (entries_in s)) (take i parts ++ drop (suc i) parts) ≡ sum_by (λ (s : Slots). sum_by f (entries_in s)) (take i parts) + sum_by (λ (s : Slots). sum_by f (entries_in s)) (drop (suc i) parts) = sum_by-append (λ (s : Slots). sum_by f (entries_in s)) (take i parts) (drop (suc i) parts) in
      let index : sum_by (λ (s : Slots). sum_by f (entries_in s)) (drop (suc i) parts) ≡ sum_by (λ (s : Slots). sum_by f (entries_in s)) (drop (i + 1) parts) = ap (λ (n : ℕ). sum_by (λ (s : Slots). sum_by f (entries_in s)) (drop n parts)) (let e : suc i ≡ i + 1 = omega arith in e) in
      let empty : sum_by f (entries_in (part_at parts i)) ≡ 0 = ap (λ (es : List Entry). sum_by f es) none in
      omega arith;
}

-- one exchange after another
pub exchanged_then : {a b c come gone : List Entry} → AreExchanged a b [] come → AreExchanged b c gone [] → ((f : Entry → ℕ) → sum_by f gone ≤ sum_by f a) → AreExchanged a c gone come
exchanged_then {a} {b} {c} {come} {gone} x y had = record {
  had = had;
  sums = λ f. let one = x.sums f in let two = y.sums f in omega arith;
}

-- the keys of the slots, and of the chain, that aren't a key
slots_lack : (key : List ℕ) (slots : Slots) → HasNoKey slots key → count_by (has_key key) (entries_in slots) ≡ 0
slots_lack key [] h = refl
slots_lack key (None ∷ slots) h = slots_lack key slots (λ slot. h (suc slot))
slots_lack key (Some cell ∷ slots) h =
    let first = count_no (has_key key) (entry_in cell) (entries_in slots) (other_bytes (entry_in cell).key key (h 0 cell refl)) in
    let rest = slots_lack key slots (λ slot. h (suc slot)) in
    omega arith

pub parts_lack : (key : List ℕ) (parts : List Slots) → ((i : ℕ) → i < length parts → HasNoKey (part_at parts i) key) → count_by (has_key key) (entries_of parts) ≡ 0
parts_lack key [] h = refl
parts_lack key (slots ∷ parts) h =
    let first = slots_lack key slots (h 0 (omega arith)) in
    let rest = parts_lack key parts (λ i below. h (suc i) (omega arith)) in
    let sum : count_by (has_key key) (entries_in slots ++ entries_of parts) ≡ count_by (has_key key) (entries_in slots) + count_by (has_key key) (entries_of parts) = sum_by-append (λ (e : Entry). cond {A = ℕ} (has_key key e) 1 0) (entries_in slots) (entries_of parts) in
    omega arith

-- the value of a key that a slot has
pub value_here : (parts : List Slots) (i slot : ℕ) (cell : List ℕ) → i < length parts → cell_in (part_at parts i) slot ≡ Some cell → AreOnce (entries_of parts) → value_of (entries_of parts) (entry_in cell).key ≡ Some (entry_in cell).value
value_here parts i slot cell below e once =
    let d : Entry = entry_in cell in
    let part = part_has (λ x. cond {A = ℕ} (is_entry d x) 1 0) parts i below in
    let here = slot_has (λ x. cond {A = ℕ} (is_entry d x) 1 0) (part_at parts i) slot cell e in
    let self = is_one d in
    value_there d (entries_of parts) once (omega arith)
  where
    is_one : (d : Entry) → cond {A = ℕ} (is_entry d d) 1 0 ≡ 1
    is_one d = ap (λ (b : Bool). cond {A = ℕ} b 1 0) (is_self d)
