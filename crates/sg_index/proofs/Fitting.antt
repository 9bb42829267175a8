-- Parts of items that fit a node fit one too.
use Rattle.std.proofs.Common.{◌≡◌, ℕ, zero, suc, ◌+◌, ◌<◌, ◌≤◌, ◌^◌, Bool, true, false, List, [], ◌∷◌, ◌++◌, length, take, drop, get_or, refl, sym, subst, arith}
use Rattle.std.specs.Prelude.{◌==◌, insert}
use Rattle.std.proofs.lemmas.Bool.Decides.{nat_tests}
use Rattle.sg_index.specs.declared.item.Item.{Item}
use Rattle.sg_index.specs.Node.{IsEntry, IsBranch, AreBranches, AreFit}
use Rattle.sg_index.specs.Change.{with_first, opened, joined}
use Rattle.sg_index.proofs.Every.{Every, every_join, every_take, every_drop}

-- branches, whatever the first one's separator is
abbrev pub AreLoose : List Item → Type 0
AreLoose items = Every IsBranch items

pub loose : (items : List Item) → AreBranches items → AreLoose items
loose [] h = tt
loose (i ∷ is) h = (h.1, h.2)

pub fit_take : (leaf : Bool) (n : ℕ) (items : List Item) → AreFit leaf items → AreFit leaf (take n items)
fit_take true n items h = every_take IsEntry n items h
fit_take false zero items h = tt
fit_take false (suc n) [] h = tt
fit_take false (suc n) (i ∷ is) h = (h.0, h.1, every_take IsBranch n is h.2)

opened_loose : (items : List Item) → AreLoose items → AreBranches (with_first [] items)
opened_loose [] h = tt
opened_loose (i ∷ is) h = (refl, record { key = omega arith; value = h.0.value; child = h.0.child }, h.1)

pub fit_opened : (leaf : Bool) (n : ℕ) (items : List Item) → AreFit leaf items → AreFit leaf (opened leaf (drop n items))
fit_opened true n items h = every_drop IsEntry n items h
fit_opened false n items h = opened_loose (drop n items) (every_drop IsBranch n items (loose items h))

first_loose : (key : List ℕ) → length key ≤ 64 → (items : List Item) → AreLoose items → AreLoose (with_first key items)
first_loose key few [] h = tt
first_loose key few (i ∷ is) h = (record { key = few; value = h.0.value; child = h.0.child }, h.1)

pub branches_join : (xs ys : List Item) → AreBranches xs → AreLoose ys → 1 ≤ length xs → AreBranches (xs ++ ys)
branches_join [] ys a b some = absurd (omega (arith, some))
branches_join (x ∷ xs) ys a b some = (a.0, a.1, every_join IsBranch xs ys a.2 b)

pub fit_joined : (leaf : Bool) (left : List Item) (key : List ℕ) (right : List Item) → length key ≤ 64 → 1 ≤ length left → AreFit leaf left → AreFit leaf right → AreFit leaf (joined leaf left key right)
fit_joined true left key right few some a b = every_join IsEntry left right a b
fit_joined false left key right few some a b = branches_join left (with_first key right) a (first_loose key few right (loose right b)) some

-- a branch put behind the first one
pub fit_branch : (n : ℕ) (items : List Item) (i : Item) → 1 ≤ n → 1 ≤ length items → AreBranches items → IsBranch i → AreBranches (take n items ++ (i ∷ drop n items))
fit_branch n items i behind some h b = branches_join (take n items) (i ∷ drop n items) (fit_take false n items h) (b, every_drop IsBranch n items (loose items h)) (by n items behind some)
  where
    by : (n : ℕ) (xs : List Item) → 1 ≤ n → 1 ≤ length xs → 1 ≤ length (take n xs)
    by zero xs p q = absurd (omega (arith, p))
    by (suc n) [] p q = absurd (omega (arith, q))
    by (suc n) (x ∷ xs) p q = omega arith

pub key_fits : (leaf : Bool) (items : List Item) (n : ℕ) (d : Item) → AreFit leaf items → n < length items → length (get_or items n d).key ≤ 64
key_fits true [] n d h lt = absurd (omega (arith, lt))
key_fits true (i ∷ is) zero d h lt = h.0.key
key_fits true (i ∷ is) (suc n) d h lt = key_fits true is n d h.1 (omega (arith, lt))
key_fits false [] n d h lt = absurd (omega (arith, lt))
key_fits false (i ∷ is) zero d h lt = h.1.key
key_fits false (i ∷ is) (suc n) d h lt = rest is n h.2 (omega (arith, lt))
  where
    rest : (xs : List Item) (m : ℕ) → Every IsBranch xs → m < length xs → length (get_or xs m d).key ≤ 64
    rest [] m e f = absurd (omega (arith, f))
    rest (x ∷ xs) zero e f = e.0.key
    rest (x ∷ xs) (suc m) e f = rest xs m e.1 (omega (arith, f))

-- the separator between two halves is short
pub separator_fits : (leaf : Bool) (items : List Item) (n : ℕ) (sep : List ℕ) → AreFit leaf items → n < length items → ((d : Item) → sep ≡ (get_or items n d).key) → length sep ≤ 64
separator_fits leaf items n sep fit lt is =
    let d : Item = record { key = []; value = []; child = 0 } in
    subst (λ (k : List ℕ). length k ≤ 64) (sym (is d)) (key_fits leaf items n d fit lt)

-- the items of an inner node, with one branch more
pub fit_more : (level : ℕ) → (level ≡ 0 → ⊥) → (n : ℕ) (items after : List Item) (i : Item) → n < length items → AreFit (level == 0) items → length i.key ≤ 64 → i.value ≡ [] → i.child < 2 ^ 32 → after ≡ insert items (n + 1) i → AreFit (level == 0) after
fit_more level high n items after i within fit key value child is =
    let inner : (level == 0) ≡ false = grind (arith, nat_tests, high) in
    let old : AreFit false items = subst (λ (leaf : Bool). AreFit leaf items) inner fit in
    let new : AreFit false (insert items (n + 1) i) = fit_branch (n + 1) items i (omega arith) (omega (arith, within)) old (record { key = key; value = value; child = child }) in
    subst (λ (leaf : Bool). AreFit leaf after) (sym inner) (subst (AreFit false) (sym is) new)
