-- The notes of an array are local to the cells that they touch.
use Rattle.std.proofs.Common.{◌≡◌, ℕ, ◌+◌, ◌-◌, ◌<◌, ◌≤◌, ◌==◌, nat_lt, arith, Bool, true, false, cond, not, ◌||◌, List, [], ◌∷◌, Some, None, refl, sym, ap, ◌∙◌, subst, le_refl, le_trans}
use Rattle.sg_recovery.specs.Log.{is_in}
use Rattle.sg_recovery.specs.ArrayCase.{Cell, Held, Arr, Note1, Set1, put, cell, LeHeld, has_cell, all_in, inside1, unstep1, touched1}
use Rattle.sg_recovery.specs.ArrayCase.Cell.{Len, Item}
use Rattle.sg_recovery.specs.ArrayCase.Held.{Length, Here, Gone}
use Rattle.sg_recovery.specs.ArrayCase.Note1.{Pushed, Popped, Wrote}
use Rattle.sg_recovery.proofs.Basic.{some_one, cond_true, cond_false, same_number, number_is, other_number, lt_is, lt_true, lt_false, lt_not, or_cases, and_left, and_right}

pub le_same : (a : Held) → LeHeld a a
le_same (Length l p) = (p, refl, le_refl p)
le_same (Here v) = refl
le_same Gone = refl

pub le_more : (a b c : Held) → LeHeld a b → LeHeld b c → LeHeld a c
le_more (Length l p) b c h k =
    let m : LeHeld (Length l h.0) c = subst (λ z. LeHeld z c) h.1 k in
    (m.0, m.1, le_trans h.2 m.2)
le_more (Here v) b c h k = subst (λ z. LeHeld z c) h k
le_more Gone b c h k = subst (λ z. LeHeld z c) h k

all_has : (xs ys : List ℕ) (i : ℕ) → all_in xs ys ≡ true → is_in i xs ≡ true → is_in i ys ≡ true
all_has [] ys i h k = absurd (cc)
all_has (x ∷ xs) ys i h k =
    or_cases (x == i) (is_in i xs) (is_in i ys ≡ true) k (λ e. subst (λ z. is_in z ys ≡ true) (number_is x i e) (and_left (is_in x ys) (all_in xs ys) h)) (λ e. all_has xs ys i (and_right (is_in x ys) (all_in xs ys) h) e)

pub inside_has : (a b : Set1) (c : Cell) → inside1 a b ≡ true → has_cell a c ≡ true → has_cell b c ≡ true
inside_has a b Len h k = by_test a.has_len b.has_len (and_left (not a.has_len || b.has_len) (all_in a.items b.items) h) k
  where
    by_test : (x y : Bool) → (not x || y) ≡ true → x ≡ true → y ≡ true
    by_test true y p q = p
    by_test false y p q = absurd (cc)
inside_has a b (Item i) h k = all_has a.items b.items i (and_right (not a.has_len || b.has_len) (all_in a.items b.items) h) k

-- in one reading of the length, and in another that has no less
same_length : (o p : Arr) → LeHeld (cell o Len) (cell p Len) → (p.len ≡ o.len) × (o.peak ≤ p.peak)
same_length o p h =
    let e : Length p.len p.peak ≡ Length o.len h.0 = h.1 in
    let a : p.len ≡ o.len = cc in
    let b : p.peak ≡ h.0 = cc in
    (a, subst (λ z. o.peak ≤ z) (sym b) h.2)

-- the item there, in both
pub same_item : (o p : Arr) (i : ℕ) → i < o.len → LeHeld (cell o (Item i)) (cell p (Item i)) → i < p.len
same_item o p i lt h = by_test (nat_lt i p.len) refl
  where
    have : cell p (Item i) ≡ Here (o.item i)
    have = subst (λ z. LeHeld z (cell p (Item i))) (cond_true (nat_lt i o.len) (Here (o.item i)) Gone (lt_true i o.len lt)) h

    by_test : (b : Bool) → nat_lt i p.len ≡ b → i < p.len
    by_test true e = lt_is i p.len e
    by_test false e = absurd (gone (sym (cond_false (nat_lt i p.len) (Here (p.item i)) Gone e) ∙ have))
      where
        gone : Gone ≡ Here (o.item i) → ⊥
        gone z = absurd (cc)

only : (i j : ℕ) → is_in i (j ∷ []) ≡ true → i ≡ j
only i j h = or_cases (j == i) false (i ≡ j) h (λ e. sym (number_is j i e)) (λ e. absurd (cc))

others : (i j : ℕ) → is_in i (j ∷ []) ≡ false → i ≡ j → ⊥
others i j h e = clash (j == i) h (subst (λ z. (z == i) ≡ true) e (same_number i))
  where
    clash : (b : Bool) → (b || false) ≡ false → b ≡ true → ⊥
    clash true x y = absurd (cc)
    clash false x y = absurd (cc)

-- the same note in another reading: what CellLaws.note_local asks
pub record Undone1 (n : Note1) (o o1 p : Arr) : Type 0 where
  pub end : Arr
  pub is : unstep1 p n [] ≡ Some end
  pub same : touched1 p n [] ≡ touched1 o n []
  pub inner : (c : Cell) → has_cell (touched1 o n []) c ≡ true → LeHeld (cell o1 c) (cell end c)
  pub exact : ((c : Cell) → has_cell (touched1 o n []) c ≡ true → cell p c ≡ cell o c) → (c : Cell) → has_cell (touched1 o n []) c ≡ true → cell end c ≡ cell o1 c
  pub outer : (c : Cell) → has_cell (touched1 o n []) c ≡ false → cell end c ≡ cell p c

-- a test that has one outcome for two lengths
same_cell : (a b : Bool) (x : ℕ) → a ≡ b → cond a (Here x) Gone ≡ cond b (Here x) Gone
same_cell a b x e = ap (λ c. cond c (Here x) Gone) e

-- a length one less, or one more, at another index
less_one : (i n : ℕ) → (i ≡ n - 1 → ⊥) → 0 < n → nat_lt i (n - 1) ≡ nat_lt i n
less_one i n ne lt = by_test (nat_lt i n) refl
  where
    by_test : (b : Bool) → nat_lt i n ≡ b → nat_lt i (n - 1) ≡ b
    by_test true e = lt_true i (n - 1) (low (lt_is i n e))
      where
        low : i < n → i < n - 1
        low z = omega arith
    by_test false e = lt_false i (n - 1) (high (lt_not i n e))
      where
        high : n ≤ i → n - 1 ≤ i
        high z = omega arith

more_one : (i n : ℕ) → (i ≡ n → ⊥) → nat_lt i (n + 1) ≡ nat_lt i n
more_one i n ne = by_test (nat_lt i n) refl
  where
    by_test : (b : Bool) → nat_lt i n ≡ b → nat_lt i (n + 1) ≡ b
    by_test true e = lt_true i (n + 1) (low (lt_is i n e))
      where
        low : i < n → i < n + 1
        low z = omega arith
    by_test false e = lt_false i (n + 1) (high (lt_not i n e))
      where
        high : n ≤ i → n + 1 ≤ i
        high z = omega arith

-- what undoing gives
was_there : (b : Bool) (q o1 : Arr) → cond b (Some q) None ≡ Some o1 → (b ≡ true) × (q ≡ o1)
was_there true q o1 h = (refl, some_one q o1 h)
was_there false q o1 h = absurd (cc)

pub push_local : (o o1 p : Arr) → unstep1 o Pushed [] ≡ Some o1 → ((c : Cell) → has_cell (touched1 o Pushed []) c ≡ true → LeHeld (cell o c) (cell p c)) → Undone1 Pushed o o1 p
push_local o o1 p h le =
    let was = was_there (nat_lt 0 o.len) (record { len = o.len - 1; peak = o.peak; item = o.item }) o1 h in
    subst (λ z. Undone1 Pushed o z p) was.1 (known (lt_is 0 o.len was.0))
  where
    lens : (p.len ≡ o.len) × (o.peak ≤ p.peak)
    lens = same_length o p (le Len refl)

    q : Arr
    q = record { len = o.len - 1; peak = o.peak; item = o.item }

    r : Arr
    r = record { len = p.len - 1; peak = p.peak; item = p.item }

    gone : (a : Arr) (i n : ℕ) → i ≡ n - 1 → cond (nat_lt i (n - 1)) (Here (a.item i)) Gone ≡ Gone
    gone a i n e = cond_false (nat_lt i (n - 1)) (Here (a.item i)) Gone (lt_false i (n - 1) (omega arith))

    both : (i : ℕ) → i ≡ o.len - 1 → cell r (Item i) ≡ cell q (Item i)
    both i e = gone p i p.len (e ∙ ap (λ z. z - 1) (sym lens.0)) ∙ sym (gone o i o.len e)

    inner : (c : Cell) → has_cell (touched1 o Pushed []) c ≡ true → LeHeld (cell q c) (cell r c)
    inner Len z = (p.peak, ap (λ a. Length (a - 1) p.peak) lens.0, lens.1)
    inner (Item i) z = subst (λ a. LeHeld (cell q (Item i)) a) (sym (both i (only i (o.len - 1) z))) (le_same (cell q (Item i)))

    exact : ((c : Cell) → has_cell (touched1 o Pushed []) c ≡ true → cell p c ≡ cell o c) → (c : Cell) → has_cell (touched1 o Pushed []) c ≡ true → cell r c ≡ cell q c
    exact f Len z =
        let e : Length p.len p.peak ≡ Length o.len o.peak = f Len refl in
        let a : p.peak ≡ o.peak = cc in
        ap (λ y. Length (y - 1) p.peak) lens.0 ∙ ap (λ y. Length (o.len - 1) y) a
    exact f (Item i) z = both i (only i (o.len - 1) z)

    outer : 0 < o.len → (c : Cell) → has_cell (touched1 o Pushed []) c ≡ false → cell r c ≡ cell p c
    outer some Len z = absurd (cc)
    outer some (Item i) z = same_cell (nat_lt i (p.len - 1)) (nat_lt i p.len) (p.item i) (less_one i p.len (λ e. others i (o.len - 1) z (e ∙ ap (λ a. a - 1) lens.0)) (subst (λ a. 0 < a) (sym lens.0) some))

    known : 0 < o.len → Undone1 Pushed o q p
    known some = record {
      end = r;
      is = cond_true (nat_lt 0 p.len) (Some r) None (lt_true 0 p.len (subst (λ a. 0 < a) (sym lens.0) some));
      same = ap (λ a. record { has_len = true; items = (a - 1) ∷ [] }) lens.0;
      inner = inner;
      exact = exact;
      outer = outer some;
    }

pub pop_local : (v : ℕ) (o o1 p : Arr) → unstep1 o (Popped v) [] ≡ Some o1 → ((c : Cell) → has_cell (touched1 o (Popped v) []) c ≡ true → LeHeld (cell o c) (cell p c)) → Undone1 (Popped v) o o1 p
pop_local v o o1 p h le =
    let was = was_there (nat_lt o.len o.peak) (record { len = o.len + 1; peak = o.peak; item = put o.len v o.item }) o1 h in
    subst (λ z. Undone1 (Popped v) o z p) was.1 (known (lt_is o.len o.peak was.0))
  where
    lens : (p.len ≡ o.len) × (o.peak ≤ p.peak)
    lens = same_length o p (le Len refl)

    q : Arr
    q = record { len = o.len + 1; peak = o.peak; item = put o.len v o.item }

    r : Arr
    r = record { len = p.len + 1; peak = p.peak; item = put p.len v p.item }

    back : (a : Arr) (i n : ℕ) → i ≡ n → cond (nat_lt i (n + 1)) (Here (put n v a.item i)) Gone ≡ Here v
    back a i n e = cond_true (nat_lt i (n + 1)) (Here (put n v a.item i)) Gone (lt_true i (n + 1) (omega arith)) ∙ ap Here (cond_true (i == n) v (a.item i) (subst (λ z. (i == z) ≡ true) e (same_number i)))

    both : (i : ℕ) → i ≡ o.len → cell r (Item i) ≡ cell q (Item i)
    both i e = back p i p.len (e ∙ sym lens.0) ∙ sym (back o i o.len e)

    inner : (c : Cell) → has_cell (touched1 o (Popped v) []) c ≡ true → LeHeld (cell q c) (cell r c)
    inner Len z = (p.peak, ap (λ a. Length (a + 1) p.peak) lens.0, lens.1)
    inner (Item i) z = subst (λ a. LeHeld (cell q (Item i)) a) (sym (both i (only i o.len z))) (le_same (cell q (Item i)))

    exact : ((c : Cell) → has_cell (touched1 o (Popped v) []) c ≡ true → cell p c ≡ cell o c) → (c : Cell) → has_cell (touched1 o (Popped v) []) c ≡ true → cell r c ≡ cell q c
    exact f Len z =
        let e : Length p.len p.peak ≡ Length o.len o.peak = f Len refl in
        let a : p.peak ≡ o.peak = cc in
        ap (λ y. Length (y + 1) p.peak) lens.0 ∙ ap (λ y. Length (o.len + 1) y) a
    exact f (Item i) z = both i (only i o.len z)

    outer : (c : Cell) → has_cell (touched1 o (Popped v) []) c ≡ false → cell r c ≡ cell p c
    outer Len z = absurd (cc)
    outer (Item i) z =
        let ne : i ≡ p.len → ⊥ = λ e. others i o.len z (e ∙ lens.0) in
        ap (λ a. cond (nat_lt i (p.len + 1)) (Here a) Gone) (cond_false (i == p.len) v (p.item i) (other_number i p.len ne)) ∙ same_cell (nat_lt i (p.len + 1)) (nat_lt i p.len) (p.item i) (more_one i p.len ne)

    known : o.len < o.peak → Undone1 (Popped v) o q p
    known some = record {
      end = r;
      is = cond_true (nat_lt p.len p.peak) (Some r) None (lt_true p.len p.peak (room some));
      same = ap (λ a. record { has_len = true; items = a ∷ [] }) lens.0;
      inner = inner;
      exact = exact;
      outer = outer;
    }
      where
        room : o.len < o.peak → p.len < p.peak
        room z = omega (arith, lens.0, lens.1)

pub write_local : (k v : ℕ) (o o1 p : Arr) → unstep1 o (Wrote k v) [] ≡ Some o1 → ((c : Cell) → has_cell (touched1 o (Wrote k v) []) c ≡ true → LeHeld (cell o c) (cell p c)) → Undone1 (Wrote k v) o o1 p
write_local k v o o1 p h le =
    let was = was_there (nat_lt k o.len) (record { len = o.len; peak = o.peak; item = put k v o.item }) o1 h in
    subst (λ z. Undone1 (Wrote k v) o z p) was.1 (known (lt_is k o.len was.0))
  where
    q : Arr
    q = record { len = o.len; peak = o.peak; item = put k v o.item }

    r : Arr
    r = record { len = p.len; peak = p.peak; item = put k v p.item }

    here : (a : Arr) (i : ℕ) → i ≡ k → k < a.len → cond (nat_lt i a.len) (Here (put k v a.item i)) Gone ≡ Here v
    here a i e lt = cond_true (nat_lt i a.len) (Here (put k v a.item i)) Gone (lt_true i a.len (omega arith)) ∙ ap Here (cond_true (i == k) v (a.item i) (subst (λ z. (i == z) ≡ true) e (same_number i)))

    there : k < o.len → k < p.len
    there lt = same_item o p k lt (le (Item k) (or_yes (k == k) (same_number k)))
      where
        or_yes : (b : Bool) → b ≡ true → (b || false) ≡ true
        or_yes true e = refl
        or_yes false e = absurd (cc)

    both : k < o.len → (i : ℕ) → i ≡ k → cell r (Item i) ≡ cell q (Item i)
    both lt i e = here p i e (there lt) ∙ sym (here o i e lt)

    inner : k < o.len → (c : Cell) → has_cell (touched1 o (Wrote k v) []) c ≡ true → LeHeld (cell q c) (cell r c)
    inner lt Len z = absurd (cc)
    inner lt (Item i) z = subst (λ a. LeHeld (cell q (Item i)) a) (sym (both lt i (only i k z))) (le_same (cell q (Item i)))

    exact : k < o.len → (c : Cell) → has_cell (touched1 o (Wrote k v) []) c ≡ true → cell r c ≡ cell q c
    exact lt Len z = absurd (cc)
    exact lt (Item i) z = both lt i (only i k z)

    outer : (c : Cell) → has_cell (touched1 o (Wrote k v) []) c ≡ false → cell r c ≡ cell p c
    outer Len z = refl
    outer (Item i) z = ap (λ a. cond (nat_lt i p.len) (Here a) Gone) (cond_false (i == k) v (p.item i) (other_number i k (others i k z)))

    known : k < o.len → Undone1 (Wrote k v) o q p
    known lt = record { end = r; is = cond_true (nat_lt k p.len) (Some r) None (lt_true k p.len (there lt)); same = refl; inner = inner lt; exact = λ f. exact lt; outer = outer }

-- Without places the commuting fails: the last item is written, and the push of it is undone before that or after.
pub no_swap : (o : Arr) → o.len ≡ 1 → (p : Arr) → unstep1 o Pushed [] ≡ Some p → unstep1 p (Wrote 0 7) [] ≡ None
no_swap o one p h =
    let was = was_there (nat_lt 0 o.len) (record { len = o.len - 1; peak = o.peak; item = o.item }) p h in
    subst (λ z. unstep1 z (Wrote 0 7) [] ≡ None) was.1 (cond_false (nat_lt 0 (o.len - 1)) (Some (record { len = o.len - 1; peak = o.peak; item = put 0 7 o.item })) None (lt_false 0 (o.len - 1) (omega arith)))

pub can_in_order : (o : Arr) → o.len ≡ 1 → (p : Arr) × (q : Arr) × (unstep1 o (Wrote 0 7) [] ≡ Some p) × (unstep1 p Pushed [] ≡ Some q)
can_in_order o one = (
  record { len = o.len; peak = o.peak; item = put 0 7 o.item },
  record { len = o.len - 1; peak = o.peak; item = put 0 7 o.item },
  cond_true (nat_lt 0 o.len) (Some (record { len = o.len; peak = o.peak; item = put 0 7 o.item })) None (lt_true 0 o.len (omega arith)),
  cond_true (nat_lt 0 o.len) (Some (record { len = o.len - 1; peak = o.peak; item = put 0 7 o.item })) None (lt_true 0 o.len (omega arith)),
)
