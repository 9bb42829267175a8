-- Live transactions in the slots of a slab: what one slot's change makes of the list.
use Rattle.std.proofs.Common.{◌≡◌, ℕ, zero, suc, ◌+◌, ◌<◌, Bool, true, false, cond, not, List, [], ◌∷◌, ◌++◌, map, length, get_or, set, Option, Some, None, refl, sym, ap, ◌∙◌, arith}
use Rattle.std.proofs.Common.{inl, inr}
use Rattle.std.specs.Prelude.{◌||◌, ◌==◌, sum_by, count_by, is_some, All}
use Rattle.std.specs.List.{list_any, filter}
use Rattle.std.proofs.lemmas.Bool.{eqb-true, eq-eqb, ne_eqb, lt-ltb, le-ltb}
use Rattle.std.proofs.lemmas.List.Sums.{sum_by-cons}
use Rattle.sg_serial.proofs.Commute.{true_or_false, or_left, or_right}
use Rattle.slab.specs.Slab.{entries_from}
use Rattle.sg_core.specs.declared.txns.Live.{Live}
use Rattle.sg_core.specs.Live.{Txn, is_of, without}
use Rattle.sg_core.specs.Slots.{shown, live_of, AreDistinct}
use Rattle.sg_core.proofs.Order.{is_late}

-- the entries of the slots are the list
pub live-entries : (key : ℕ) (slots : List (Option Live)) → map (λ e. shown e.1) (entries_from key slots) ≡ live_of slots
live-entries key [] = refl
live-entries key (None ∷ rest) = live-entries (key + 1) rest
live-entries key (Some l ∷ rest) = ap (λ xs. shown l ∷ xs) (live-entries (key + 1) rest)

pub live-length : (slots : List (Option Live)) → length (live_of slots) ≡ count_by is_some slots
live-length [] = refl
live-length (None ∷ rest) = let e = live-length rest in let f = sum_by-cons (λ slot. cond (is_some slot) 1 0) None rest in omega (arith, e, f)
live-length (Some l ∷ rest) = let e = live-length rest in let f = sum_by-cons (λ slot. cond (is_some slot) 1 0) (Some l) rest in omega (arith, e, f)

-- slots with the same entries give the same list
same_live : (xs ys : List (Option Live)) → ((j : ℕ) → get_or ys j None ≡ get_or xs j None) → live_of ys ≡ live_of xs
same_live [] [] h = refl
same_live [] (None ∷ ys) h = same_live [] ys (λ j. h (suc j))
same_live [] (Some y ∷ ys) h = absurd (let e = h 0 in cc)
same_live (None ∷ xs) [] h = same_live xs [] (λ j. h (suc j))
same_live (Some x ∷ xs) [] h = absurd (let e = h 0 in cc)
same_live (x ∷ xs) (y ∷ ys) h = go x y (h 0) (same_live xs ys (λ j. h (suc j)))
  where
    go : (x y : Option Live) → y ≡ x → live_of ys ≡ live_of xs → live_of (y ∷ ys) ≡ live_of (x ∷ xs)
    go None None e rest = rest
    go None (Some b) e rest = absurd (cc)
    go (Some a) None e rest = absurd (cc)
    go (Some a) (Some b) e rest = let q : b ≡ a = cc in ap (λ (l : Live). shown l ∷ live_of ys) q ∙ ap (λ zs. shown a ∷ zs) rest

-- where an entry was added: what stands before it, and what behind
pub record IsAdded (xs ys : List (Option Live)) (l : Live) : Type 0 where
  pub front : List Txn
  pub back : List Txn
  pub before : live_of xs ≡ front ++ back
  pub after : live_of ys ≡ front ++ shown l ∷ back

pub added : (xs ys : List (Option Live)) (key : ℕ) (l : Live) → get_or xs key None ≡ None → get_or ys key None ≡ Some l → ((j : ℕ) → (j ≡ key → ⊥) → get_or ys j None ≡ get_or xs j None) → IsAdded xs ys l
added [] [] key l was now others = absurd (cc)
added (x ∷ xs) [] key l was now others = absurd (cc)
added [] (y ∷ ys) zero l was now others =
    record { front = []; back = []; before = refl; after = ap (λ slot. live_of (slot ∷ ys)) now ∙ ap (λ zs. shown l ∷ zs) (same_live [] ys (λ j. others (suc j) (λ e. absurd (cc)))) }
added (x ∷ xs) (y ∷ ys) zero l was now others = record {
  front = [];
  back = live_of xs;
  before = ap (λ slot. live_of (slot ∷ xs)) was;
  after = ap (λ slot. live_of (slot ∷ ys)) now ∙ ap (λ zs. shown l ∷ zs) (same_live xs ys (λ j. others (suc j) (λ e. absurd (cc))));
}
added [] (y ∷ ys) (suc key) l was now others =
    let rest = added [] ys key l refl now (λ j ne. others (suc j) (λ e. ne (omega arith))) in
    record { front = rest.front; back = rest.back; before = rest.before; after = ap (λ slot. live_of (slot ∷ ys)) (others 0 (λ e. absurd (cc))) ∙ rest.after }
added (x ∷ xs) (y ∷ ys) (suc key) l was now others =
    go x (others 0 (λ e. absurd (cc))) (added xs ys key l was now (λ j ne. others (suc j) (λ e. ne (omega arith))))
  where
    go : (x : Option Live) → y ≡ x → IsAdded xs ys l → IsAdded (x ∷ xs) (y ∷ ys) l
    go None e rest = record { front = rest.front; back = rest.back; before = rest.before; after = ap (λ slot. live_of (slot ∷ ys)) e ∙ rest.after }
    go (Some a) e rest = record {
      front = shown a ∷ rest.front;
      back = rest.back;
      before = ap (λ zs. shown a ∷ zs) rest.before;
      after = ap (λ slot. live_of (slot ∷ ys)) e ∙ ap (λ zs. shown a ∷ zs) rest.after;
    }

-- an entry that passes is among the list
pub in_live : (p : Txn → Bool) (slots : List (Option Live)) (key : ℕ) (l : Live) → get_or slots key None ≡ Some l → p (shown l) ≡ true → list_any p (live_of slots) ≡ true
in_live p [] key l there passes = absurd (cc)
in_live p (None ∷ rest) zero l there passes = absurd (cc)
in_live p (Some a ∷ rest) zero l there passes = let q : a ≡ l = cc in or_left (p (shown a)) (list_any p (live_of rest)) (ap (λ (b : Live). p (shown b)) q ∙ passes)
in_live p (None ∷ rest) (suc key) l there passes = in_live p rest key l there passes
in_live p (Some a ∷ rest) (suc key) l there passes = or_right (p (shown a)) (list_any p (live_of rest)) (in_live p rest key l there passes)

-- another than the first stands behind it
pub is_other : (slots : List (Option Live)) (a l : Live) (key : ℕ) → list_any (is_of a.transaction.0) (live_of slots) ≡ false → get_or slots key None ≡ Some l → is_of l.transaction.0 (shown a) ≡ false
is_other slots a l key alone there = elim (true_or_false (is_of l.transaction.0 (shown a))) [
  | inl y ↦ (let q : l.transaction.0 ≡ a.transaction.0 = sym (eqb-true a.transaction.0 l.transaction.0 y) in
      let found = in_live (is_of a.transaction.0) slots key l there (eq-eqb l.transaction.0 a.transaction.0 q) in absurd (cc))
  | inr n ↦ n
]

first_false : (a b : Bool) → (a || b) ≡ false → a ≡ false
first_false true b h = h
first_false false b h = refl

second_false : (a b : Bool) → (a || b) ≡ false → b ≡ false
second_false true b h = absurd (cc)
second_false false b h = h

-- a change of one transaction changes nothing where it isn't
unchanged : (f : Txn → Txn) (t : ℕ) (xs : List Txn) → list_any (is_of t) xs ≡ false → map (λ x. cond (is_of t x) (f x) x) xs ≡ xs
unchanged f t [] h = refl
unchanged f t (x ∷ xs) h = ap (λ b. cond b (f x) x ∷ map (λ y. cond (is_of t y) (f y) y) xs) (first_false (is_of t x) (list_any (is_of t) xs) h) ∙ ap (λ ys. x ∷ ys) (unchanged f t xs (second_false (is_of t x) (list_any (is_of t) xs) h))

nothing_left_out : (t : ℕ) (xs : List Txn) → list_any (is_of t) xs ≡ false → without t xs ≡ xs
nothing_left_out t [] h = refl
nothing_left_out t (x ∷ xs) h = ap (λ b. cond (not b) (x ∷ without t xs) (without t xs)) (first_false (is_of t x) (list_any (is_of t) xs) h) ∙ ap (λ ys. x ∷ ys) (nothing_left_out t xs (second_false (is_of t x) (list_any (is_of t) xs) h))

-- an entry was replaced
pub live-replaced : (f : Txn → Txn) (slots : List (Option Live)) (key : ℕ) (l new : Live) → get_or slots key None ≡ Some l → AreDistinct (live_of slots) → shown new ≡ f (shown l)
    → live_of (set slots key (Some new)) ≡ map (λ x. cond (is_of l.transaction.0 x) (f x) x) (live_of slots)
live-replaced f [] key l new there distinct e = absurd (cc)
live-replaced f (None ∷ rest) zero l new there distinct e = absurd (cc)
live-replaced f (Some a ∷ rest) zero l new there distinct e =
    let q : a ≡ l = cc in
    let alone : list_any (is_of l.transaction.0) (live_of rest) ≡ false = ap (λ (b : Live). list_any (is_of b.transaction.0) (live_of rest)) (sym q) ∙ distinct.0 in
    ap (λ x. x ∷ live_of rest) (e ∙ (ap (λ (b : Live). f (shown b)) (sym q) ∙ ap (λ b. cond b (f (shown a)) (shown a)) (sym (eq-eqb a.transaction.0 l.transaction.0 (ap (λ (b : Live). b.transaction.0) q)))))
    ∙ ap (λ ys. cond (is_of l.transaction.0 (shown a)) (f (shown a)) (shown a) ∷ ys) (sym (unchanged f l.transaction.0 (live_of rest) alone))
live-replaced f (None ∷ rest) (suc key) l new there distinct e = live-replaced f rest key l new there distinct e
live-replaced f (Some a ∷ rest) (suc key) l new there distinct e =
    ap (λ b. cond b (f (shown a)) (shown a) ∷ live_of (set rest key (Some new))) (sym (is_other rest a l key distinct.0 there))
    ∙ ap (λ ys. cond (is_of l.transaction.0 (shown a)) (f (shown a)) (shown a) ∷ ys) (live-replaced f rest key l new there distinct.1 e)

-- an entry was taken out
pub live-removed : (slots : List (Option Live)) (key : ℕ) (l : Live) → get_or slots key None ≡ Some l → AreDistinct (live_of slots) → live_of (set slots key None) ≡ without l.transaction.0 (live_of slots)
live-removed [] key l there distinct = absurd (cc)
live-removed (None ∷ rest) zero l there distinct = absurd (cc)
live-removed (Some a ∷ rest) zero l there distinct =
    let q : a ≡ l = cc in
    let alone : list_any (is_of l.transaction.0) (live_of rest) ≡ false = ap (λ (b : Live). list_any (is_of b.transaction.0) (live_of rest)) (sym q) ∙ distinct.0 in
    sym (ap (λ b. cond (not b) (shown a ∷ without l.transaction.0 (live_of rest)) (without l.transaction.0 (live_of rest))) (eq-eqb a.transaction.0 l.transaction.0 (ap (λ (b : Live). b.transaction.0) q)) ∙ nothing_left_out l.transaction.0 (live_of rest) alone)
live-removed (None ∷ rest) (suc key) l there distinct = live-removed rest key l there distinct
live-removed (Some a ∷ rest) (suc key) l there distinct =
    ap (λ ys. shown a ∷ ys) (live-removed rest key l there distinct.1)
    ∙ sym (ap (λ b. cond (not b) (shown a ∷ without l.transaction.0 (live_of rest)) (without l.transaction.0 (live_of rest))) (is_other rest a l key distinct.0 there))

-- the sum, with what stood there before and what stands there then
abbrev pub sum_of : List Txn → ℕ
sum_of xs = sum_by (λ x. x.reserved) xs

abbrev pub part_of : Option Live → ℕ
part_of None = 0
part_of (Some l) = l.reserved

pub sum-changed : (slots : List (Option Live)) (key : ℕ) (l : Live) (slot : Option Live) → get_or slots key None ≡ Some l → sum_of (live_of (set slots key slot)) + l.reserved ≡ sum_of (live_of slots) + part_of slot
sum-changed [] key l slot there = absurd (cc)
sum-changed (None ∷ rest) zero l slot there = absurd (cc)
sum-changed (Some a ∷ rest) zero l None there = let q : a ≡ l = cc in let n = ap (λ (b : Live). b.reserved) q in let e = sum_by-cons (λ x. x.reserved) (shown a) (live_of rest) in omega (arith, n, e)
sum-changed (Some a ∷ rest) zero l (Some new) there =
    let q : a ≡ l = cc in let n = ap (λ (b : Live). b.reserved) q in let e = sum_by-cons (λ x. x.reserved) (shown a) (live_of rest) in let f = sum_by-cons (λ x. x.reserved) (shown new) (live_of rest) in omega (arith, n, e, f)
sum-changed (None ∷ rest) (suc key) l slot there = sum-changed rest key l slot there
sum-changed (Some a ∷ rest) (suc key) l slot there =
    let e = sum_by-cons (λ x. x.reserved) (shown a) (live_of rest) in let f = sum_by-cons (λ x. x.reserved) (shown a) (live_of (set rest key slot)) in let r = sum-changed rest key l slot there in omega (arith, e, f, r)

-- each number stands once
any_added : (p : Txn → Bool) (fs : List Txn) (v : Txn) (bs : List Txn) → list_any p (fs ++ v ∷ bs) ≡ (p v || list_any p (fs ++ bs))
any_added p [] v bs = refl
any_added p (a ∷ fs) v bs = ap (λ b. p a || b) (any_added p fs v bs) ∙ go (p a) (p v)
  where
    go : (c d : Bool) → (c || (d || list_any p (fs ++ bs))) ≡ (d || (c || list_any p (fs ++ bs)))
    go true true = refl
    go true false = refl
    go false d = refl

late_other : (v : Txn) (ys : List Txn) → list_any (is_late v) ys ≡ false → list_any (is_of v.transaction) ys ≡ false
late_other v [] h = refl
late_other v (y ∷ ys) h =
    let less : is_late v y ≡ false = first_false (is_late v y) (list_any (is_late v) ys) h in
    let apart : y.transaction ≡ v.transaction → ⊥ = λ q. (let l : v.transaction < suc y.transaction = omega arith in let e = lt-ltb v.transaction (suc y.transaction) l in cc) in
    ap (λ b. b || list_any (is_of v.transaction) ys) (ne_eqb y.transaction v.transaction apart) ∙ late_other v ys (second_false (is_late v y) (list_any (is_late v) ys) h)

pub distinct-added : (fs : List Txn) (v : Txn) (bs : List Txn) → list_any (is_late v) (fs ++ bs) ≡ false → AreDistinct (fs ++ bs) → AreDistinct (fs ++ v ∷ bs)
distinct-added [] v bs h d = (late_other v bs h, d)
distinct-added (a ∷ fs) v bs h d =
    let less : is_late v a ≡ false = first_false (is_late v a) (list_any (is_late v) (fs ++ bs)) h in
    let apart : v.transaction ≡ a.transaction → ⊥ = λ q. (let l : v.transaction < suc a.transaction = omega arith in let e = lt-ltb v.transaction (suc a.transaction) l in cc) in (
      any_added (is_of a.transaction) fs v bs ∙ (ap (λ b. b || list_any (is_of a.transaction) (fs ++ bs)) (ne_eqb v.transaction a.transaction apart) ∙ d.0),
      distinct-added fs v bs (second_false (is_late v a) (list_any (is_late v) (fs ++ bs)) h) d.1,
    )

any_filter : (p q : Txn → Bool) (xs : List Txn) → list_any q xs ≡ false → list_any q (filter p xs) ≡ false
any_filter p q [] h = refl
any_filter p q (x ∷ xs) h = go (p x) (any_filter p q xs (second_false (q x) (list_any q xs) h))
  where
    go : (b : Bool) → list_any q (filter p xs) ≡ false → list_any q (cond b (x ∷ filter p xs) (filter p xs)) ≡ false
    go true e = ap (λ c. c || list_any q (filter p xs)) (first_false (q x) (list_any q xs) h) ∙ e
    go false e = e

pub distinct-filter : (p : Txn → Bool) (xs : List Txn) → AreDistinct xs → AreDistinct (filter p xs)
distinct-filter p [] d = tt
distinct-filter p (x ∷ xs) d = go (p x) (distinct-filter p xs d.1)
  where
    go : (b : Bool) → AreDistinct (filter p xs) → AreDistinct (cond b (x ∷ filter p xs) (filter p xs))
    go true rest = (any_filter p (is_of x.transaction) xs d.0, rest)
    go false rest = rest

module _ (g : Txn → Txn) (same : (x : Txn) → (g x).transaction ≡ x.transaction) where
  any_map : (t : ℕ) (xs : List Txn) → list_any (is_of t) (map g xs) ≡ list_any (is_of t) xs
  any_map t [] = refl
  any_map t (x ∷ xs) = ap (λ n. (n == t) || list_any (is_of t) (map g xs)) (same x) ∙ ap (λ b. is_of t x || b) (any_map t xs)

  pub distinct-map : (xs : List Txn) → AreDistinct xs → AreDistinct (map g xs)
  distinct-map [] d = tt
  distinct-map (x ∷ xs) d = (ap (λ n. list_any (is_of n) (map g xs)) (same x) ∙ (any_map x.transaction xs ∙ d.0), distinct-map xs d.1)

-- a list whose numbers are all below
pub none_late : (v : Txn) (xs : List Txn) → All (λ x. x.transaction < v.transaction) xs → list_any (is_late v) xs ≡ false
none_late v [] h = refl
none_late v (x ∷ xs) h =
    let less : x.transaction < v.transaction = h 0 x (omega arith) in
    ap (λ b. b || list_any (is_late v) xs) (le-ltb v.transaction (suc x.transaction) (omega arith)) ∙ none_late v xs (λ k d l. h (suc k) d (omega arith))
