-- Live transactions in the order of their numbers have the same in them as in any order.
use Rattle.std.proofs.Common.{◌≡◌, ℕ, suc, ◌+◌, ◌<◌, ◌≤◌, Bool, true, false, cond, List, [], ◌∷◌, ◌++◌, map, length, Option, Some, None, refl, sym, ap, ◌∙◌, arith}
use Rattle.std.specs.Prelude.{◌||◌, nat_lt, sum_by, slice_get}
use Rattle.std.specs.Option.{option_map}
use Rattle.std.specs.List.{list_any, filter, find}
use Rattle.std.proofs.lemmas.Bool.{ltb-true, ltb-false, lt-ltb, le-ltb}
use Rattle.std.proofs.lemmas.List.Sums.{sum_by-cons}
use Rattle.sg_serial.specs.Locks.{lesser}
use Rattle.sg_base.specs.declared.numbers.TxnId.{TxnId}
use Rattle.sg_core.specs.Live.{Txn, number_of}
use Rattle.sg_core.specs.Order.{placed, in_order, least_number}

or_swap : (a b c : Bool) → (a || (b || c)) ≡ (b || (a || c))
or_swap true true c = refl
or_swap true false c = refl
or_swap false b c = refl

-- whether one passes
placed_any : (p : Txn → Bool) (x : Txn) (ys : List Txn) → list_any p (placed x ys) ≡ (p x || list_any p ys)
placed_any p x [] = refl
placed_any p x (y ∷ ys) = go (nat_lt y.transaction x.transaction) (placed_any p x ys)
  where
    go : (b : Bool) → list_any p (placed x ys) ≡ (p x || list_any p ys) → list_any p (cond b (y ∷ placed x ys) (x ∷ y ∷ ys)) ≡ (p x || (p y || list_any p ys))
    go true rest = ap (λ b. p y || b) rest ∙ or_swap (p y) (p x) (list_any p ys)
    go false rest = refl

pub ordered_any : (p : Txn → Bool) (xs : List Txn) → list_any p (in_order xs) ≡ list_any p xs
ordered_any p [] = refl
ordered_any p (x ∷ xs) = placed_any p x (in_order xs) ∙ ap (λ b. p x || b) (ordered_any p xs)

-- how many there are
placed_length : (x : Txn) (ys : List Txn) → length (placed x ys) ≡ suc (length ys)
placed_length x [] = refl
placed_length x (y ∷ ys) = go (nat_lt y.transaction x.transaction) (placed_length x ys)
  where
    go : (b : Bool) → length (placed x ys) ≡ suc (length ys) → length (cond b (y ∷ placed x ys) (x ∷ y ∷ ys)) ≡ suc (suc (length ys))
    go true rest = ap suc rest
    go false rest = refl

pub ordered_length : (xs : List Txn) → length (in_order xs) ≡ length xs
ordered_length [] = refl
ordered_length (x ∷ xs) = placed_length x (in_order xs) ∙ ap suc (ordered_length xs)

-- the sum over all
module _ (f : Txn → ℕ) where
  placed_sum : (x : Txn) (ys : List Txn) → sum_by f (placed x ys) ≡ f x + sum_by f ys
  placed_sum x [] = sum_by-cons f x []
  placed_sum x (y ∷ ys) = go (nat_lt y.transaction x.transaction) (placed_sum x ys)
    where
      go : (b : Bool) → sum_by f (placed x ys) ≡ f x + sum_by f ys → sum_by f (cond b (y ∷ placed x ys) (x ∷ y ∷ ys)) ≡ f x + sum_by f (y ∷ ys)
      go true rest = let a = sum_by-cons f y (placed x ys) in let c = sum_by-cons f y ys in omega (arith, a, rest, c)
      go false rest = sum_by-cons f x (y ∷ ys)

  pub ordered_sum : (xs : List Txn) → sum_by f (in_order xs) ≡ sum_by f xs
  ordered_sum [] = refl
  ordered_sum (x ∷ xs) = placed_sum x (in_order xs) ∙ (ap (λ n. f x + n) (ordered_sum xs) ∙ sym (sum_by-cons f x xs))

pub first_false : (a b : Bool) → (a || b) ≡ false → a ≡ false
first_false true b h = h
first_false false b h = refl

second_false : (a b : Bool) → (a || b) ≡ false → b ≡ false
second_false true b h = absurd (cc)
second_false false b h = h

-- one whose number is above all others comes last
module _ (v : Txn) where
  -- not below v
  abbrev pub is_late : Txn → Bool
  is_late y = nat_lt v.transaction (suc y.transaction)

  placed_last : (ys : List Txn) → list_any is_late ys ≡ false → placed v ys ≡ ys ++ v ∷ []
  placed_last [] h = refl
  placed_last (y ∷ ys) h =
      let below : v.transaction < suc y.transaction → ⊥ = λ l. (let e = lt-ltb v.transaction (suc y.transaction) l in let n = first_false (is_late y) (list_any is_late ys) h in cc) in
      let less : y.transaction < v.transaction = omega arith in
      ap (λ b. cond b (y ∷ placed v ys) (v ∷ y ∷ ys)) (lt-ltb y.transaction v.transaction less) ∙ ap (λ zs. y ∷ zs) (placed_last ys (second_false (is_late y) (list_any is_late ys) h))

  placed_before : (a : Txn) (ys : List Txn) → is_late a ≡ false → placed a (ys ++ v ∷ []) ≡ placed a ys ++ v ∷ []
  placed_before a [] h =
      let more : v.transaction < suc a.transaction → ⊥ = λ l. (let e = lt-ltb v.transaction (suc a.transaction) l in cc) in
      ap (λ b. cond b (v ∷ a ∷ []) (a ∷ v ∷ [])) (le-ltb v.transaction a.transaction (omega arith))
  placed_before a (y ∷ ys) h = go (nat_lt y.transaction a.transaction) (placed_before a ys h)
    where
      go : (b : Bool) → placed a (ys ++ v ∷ []) ≡ placed a ys ++ v ∷ [] → cond b (y ∷ placed a (ys ++ v ∷ [])) (a ∷ y ∷ (ys ++ v ∷ [])) ≡ cond b (y ∷ placed a ys) (a ∷ y ∷ ys) ++ v ∷ []
      go true rest = ap (λ zs. y ∷ zs) rest
      go false rest = refl

  pub ordered_last : (fs bs : List Txn) → list_any is_late (fs ++ bs) ≡ false → in_order (fs ++ v ∷ bs) ≡ in_order (fs ++ bs) ++ v ∷ []
  ordered_last [] bs h = placed_last (in_order bs) (ordered_any is_late bs ∙ h)
  ordered_last (a ∷ fs) bs h =
      ap (placed a) (ordered_last fs bs (second_false (is_late a) (list_any is_late (fs ++ bs)) h))
      ∙ placed_before a (in_order (fs ++ bs)) (first_false (is_late a) (list_any is_late (fs ++ bs)) h)

-- the order is kept: none behind one has a smaller number
abbrev is_below : Txn → Txn → Bool
is_below x y = nat_lt y.transaction x.transaction

abbrev IsOrdered : List Txn → Type 0
IsOrdered [] = Unit {0}
IsOrdered (x ∷ xs) = (list_any (is_below x) xs ≡ false) × IsOrdered xs

none_below : (x y : Txn) (ys : List Txn) → is_below x y ≡ false → list_any (is_below y) ys ≡ false → list_any (is_below x) ys ≡ false
none_below x y [] h i = refl
none_below x y (z ∷ ys) h i = go (is_below x z) refl (none_below x y ys h (second_false (is_below y z) (list_any (is_below y) ys) i))
  where
    go : (b : Bool) → is_below x z ≡ b → list_any (is_below x) ys ≡ false → (b || list_any (is_below x) ys) ≡ false
    go true e rest =
        let p : z.transaction < x.transaction = ltb-true z.transaction x.transaction e in
        let q : x.transaction ≤ y.transaction = ltb-false y.transaction x.transaction h in
        let r : y.transaction ≤ z.transaction = ltb-false z.transaction y.transaction (first_false (is_below y z) (list_any (is_below y) ys) i) in
        absurd (omega arith)
    go false e rest = rest

placed_keeps : (x : Txn) (ys : List Txn) → IsOrdered ys → IsOrdered (placed x ys)
placed_keeps x [] h = (refl, tt)
placed_keeps x (y ∷ ys) h = go (is_below x y) refl (placed_keeps x ys h.1)
  where
    go : (b : Bool) → is_below x y ≡ b → IsOrdered (placed x ys) → IsOrdered (cond b (y ∷ placed x ys) (x ∷ y ∷ ys))
    go true e rest =
        let less : y.transaction < x.transaction = ltb-true y.transaction x.transaction e in
        let not_less : is_below y x ≡ false = le-ltb x.transaction y.transaction (omega arith) in
        (placed_any (is_below y) x ys ∙ (ap (λ b. b || list_any (is_below y) ys) not_less ∙ h.0), rest)
    go false e rest = (ap (λ b. b || list_any (is_below x) ys) e ∙ none_below x y ys e h.0, h)

ordered_keeps : (xs : List Txn) → IsOrdered (in_order xs)
ordered_keeps [] = tt
ordered_keeps (x ∷ xs) = placed_keeps x (in_order xs) (ordered_keeps xs)

-- those that pass are in order too
any_filter : (p q : Txn → Bool) (xs : List Txn) → list_any q xs ≡ false → list_any q (filter p xs) ≡ false
any_filter p q [] h = refl
any_filter p q (x ∷ xs) h = go (p x) (any_filter p q xs (second_false (q x) (list_any q xs) h))
  where
    go : (b : Bool) → list_any q (filter p xs) ≡ false → list_any q (cond b (x ∷ filter p xs) (filter p xs)) ≡ false
    go true e = ap (λ c. c || list_any q (filter p xs)) (first_false (q x) (list_any q xs) h) ∙ e
    go false e = e

placed_first : (x : Txn) (ys : List Txn) → list_any (is_below x) ys ≡ false → placed x ys ≡ x ∷ ys
placed_first x [] h = refl
placed_first x (y ∷ ys) h = ap (λ b. cond b (y ∷ placed x ys) (x ∷ y ∷ ys)) (first_false (is_below x y) (list_any (is_below x) ys) h)

placed_filter : (p : Txn → Bool) (x : Txn) (ys : List Txn) → IsOrdered ys → filter p (placed x ys) ≡ cond (p x) (placed x (filter p ys)) (filter p ys)
placed_filter p x [] h = refl
placed_filter p x (y ∷ ys) h = go (is_below x y) refl (placed_filter p x ys h.1)
  where
    behind : is_below x y ≡ true → (c d : Bool) → filter p (placed x ys) ≡ cond c (placed x (filter p ys)) (filter p ys)
        → cond d (y ∷ filter p (placed x ys)) (filter p (placed x ys)) ≡ cond c (placed x (cond d (y ∷ filter p ys) (filter p ys))) (cond d (y ∷ filter p ys) (filter p ys))
    behind e true true rest = ap (λ zs. y ∷ zs) rest ∙ sym (ap (λ b. cond b (y ∷ placed x (filter p ys)) (x ∷ y ∷ filter p ys)) e)
    behind e false true rest = ap (λ zs. y ∷ zs) rest
    behind e true false rest = rest
    behind e false false rest = rest

    before : list_any (is_below x) (y ∷ ys) ≡ false → (c : Bool) → cond c (x ∷ filter p (y ∷ ys)) (filter p (y ∷ ys)) ≡ cond c (placed x (filter p (y ∷ ys))) (filter p (y ∷ ys))
    before none true = sym (placed_first x (filter p (y ∷ ys)) (any_filter p (is_below x) (y ∷ ys) none))
    before none false = refl

    go : (b : Bool) → is_below x y ≡ b → filter p (placed x ys) ≡ cond (p x) (placed x (filter p ys)) (filter p ys) → filter p (cond b (y ∷ placed x ys) (x ∷ y ∷ ys)) ≡ cond (p x) (placed x (filter p (y ∷ ys))) (filter p (y ∷ ys))
    go true e rest = behind e (p x) (p y) rest
    go false e rest = before (ap (λ b. b || list_any (is_below x) ys) e ∙ none_below x y ys e h.0) (p x)

pub ordered_filter : (p : Txn → Bool) (xs : List Txn) → in_order (filter p xs) ≡ filter p (in_order xs)
ordered_filter p [] = refl
ordered_filter p (x ∷ xs) = go (p x) refl (ordered_filter p xs)
  where
    go : (b : Bool) → p x ≡ b → in_order (filter p xs) ≡ filter p (in_order xs) → in_order (cond b (x ∷ filter p xs) (filter p xs)) ≡ filter p (placed x (in_order xs))
    go true e rest = ap (placed x) rest ∙ sym (placed_filter p x (in_order xs) (ordered_keeps xs) ∙ ap (λ b. cond b (placed x (filter p (in_order xs))) (filter p (in_order xs))) e)
    go false e rest = rest ∙ sym (placed_filter p x (in_order xs) (ordered_keeps xs) ∙ ap (λ b. cond b (placed x (filter p (in_order xs))) (filter p (in_order xs))) e)

-- a change that keeps the numbers keeps the order
module _ (g : Txn → Txn) (same : (x : Txn) → (g x).transaction ≡ x.transaction) where
  placed_map : (x : Txn) (ys : List Txn) → placed (g x) (map g ys) ≡ map g (placed x ys)
  placed_map x [] = refl
  placed_map x (y ∷ ys) =
      ap (λ n. cond (nat_lt n (g x).transaction) (g y ∷ placed (g x) (map g ys)) (g x ∷ g y ∷ map g ys)) (same y)
      ∙ (ap (λ n. cond (nat_lt y.transaction n) (g y ∷ placed (g x) (map g ys)) (g x ∷ g y ∷ map g ys)) (same x)
      ∙ go (nat_lt y.transaction x.transaction) (placed_map x ys))
    where
      go : (b : Bool) → placed (g x) (map g ys) ≡ map g (placed x ys) → cond b (g y ∷ placed (g x) (map g ys)) (g x ∷ g y ∷ map g ys) ≡ map g (cond b (y ∷ placed x ys) (x ∷ y ∷ ys))
      go true rest = ap (λ zs. g y ∷ zs) rest
      go false rest = refl

  pub ordered_map : (xs : List Txn) → in_order (map g xs) ≡ map g (in_order xs)
  ordered_map [] = refl
  ordered_map (x ∷ xs) = ap (placed (g x)) (ordered_map xs) ∙ placed_map x (in_order xs)

-- the first that passes is that with the least number
abbrev number : Txn → ℕ
number x = x.transaction

found_late : (p : Txn → Bool) (x : Txn) (ys : List Txn) → list_any (is_below x) ys ≡ false → Some x.transaction ≡ lesser x.transaction (option_map number (find p ys))
found_late p x [] h = refl
found_late p x (y ∷ ys) h = go (p y) (found_late p x ys (second_false (is_below x y) (list_any (is_below x) ys) h))
  where
    go : (b : Bool) → Some x.transaction ≡ lesser x.transaction (option_map number (find p ys)) → Some x.transaction ≡ lesser x.transaction (option_map number (cond b (Some y) (find p ys)))
    go true e = ap Some (let q : x.transaction ≤ y.transaction = ltb-false y.transaction x.transaction (first_false (is_below x y) (list_any (is_below x) ys) h) in omega arith)
    go false e = e

placed_find : (p : Txn → Bool) (x : Txn) (ys : List Txn) → IsOrdered ys → option_map number (find p (placed x ys)) ≡ cond (p x) (lesser x.transaction (option_map number (find p ys))) (option_map number (find p ys))
placed_find p x [] h = go (p x)
  where
    go : (b : Bool) → option_map number (cond b (Some x) None) ≡ cond b (Some x.transaction) None
    go true = refl
    go false = refl
placed_find p x (y ∷ ys) h = go (is_below x y) refl (placed_find p x ys h.1)
  where
    behind : is_below x y ≡ true → (c d : Bool) → option_map number (find p (placed x ys)) ≡ cond c (lesser x.transaction (option_map number (find p ys))) (option_map number (find p ys))
        → option_map number (cond d (Some y) (find p (placed x ys))) ≡ cond c (lesser x.transaction (option_map number (cond d (Some y) (find p ys)))) (option_map number (cond d (Some y) (find p ys)))
    behind e true true rest = ap Some (let less : y.transaction < x.transaction = ltb-true y.transaction x.transaction e in omega arith)
    behind e false true rest = refl
    behind e true false rest = rest
    behind e false false rest = rest

    before : list_any (is_below x) (y ∷ ys) ≡ false → (c : Bool) → option_map number (cond c (Some x) (find p (y ∷ ys))) ≡ cond c (lesser x.transaction (option_map number (find p (y ∷ ys)))) (option_map number (find p (y ∷ ys)))
    before none true = found_late p x (y ∷ ys) none
    before none false = refl

    go : (b : Bool) → is_below x y ≡ b → option_map number (find p (placed x ys)) ≡ cond (p x) (lesser x.transaction (option_map number (find p ys))) (option_map number (find p ys)) → option_map number (find p (cond b (y ∷ placed x ys) (x ∷ y ∷ ys))) ≡ cond (p x) (lesser x.transaction (option_map number (find p (y ∷ ys)))) (option_map number (find p (y ∷ ys)))
    go true e rest = behind e (p x) (p y) rest
    go false e rest = before (ap (λ b. b || list_any (is_below x) ys) e ∙ none_below x y ys e h.0) (p x)

pub ordered_find : (p : Txn → Bool) (xs : List Txn) → option_map number (find p (in_order xs)) ≡ least_number p xs
ordered_find p [] = refl
ordered_find p (x ∷ xs) = placed_find p x (in_order xs) (ordered_keeps xs) ∙ ap (λ r. cond (p x) (lesser x.transaction r) r) (ordered_find p xs)

-- the lesser of two numbers, of which either may not be there
abbrev pub lesser_of : Option ℕ → Option ℕ → Option ℕ
lesser_of None other = other
lesser_of (Some n) other = lesser n other

pub lesser_none : (r : Option ℕ) → lesser_of r None ≡ r
lesser_none None = refl
lesser_none (Some n) = refl

-- one more has been looked at
pub least_step : (b : Bool) (n : ℕ) (least r : Option ℕ) → lesser_of (cond b (lesser n least) least) r ≡ lesser_of least (cond b (lesser n r) r)
least_step true n None r = refl
least_step true n (Some m) None = ap Some (omega arith)
least_step true n (Some m) (Some k) = ap Some (omega arith)
least_step false n least r = refl

-- the first of all, and the first that passes, by their numbers
abbrev numbered : ℕ → TxnId
numbered n = record { 0 = n }

pub first_is : (xs : List Txn) → option_map number_of (slice_get (in_order xs) 0) ≡ option_map numbered (least_number (λ x. true) xs)
first_is xs = go (in_order xs) ∙ ap (option_map numbered) (ordered_find (λ x. true) xs)
  where
    go : (ys : List Txn) → option_map number_of (slice_get ys 0) ≡ option_map numbered (option_map number (find (λ x. true) ys))
    go [] = refl
    go (y ∷ ys) = refl

pub next_is : (p : Txn → Bool) (xs : List Txn) → option_map number_of (find p (in_order xs)) ≡ option_map numbered (least_number p xs)
next_is p xs = go (find p (in_order xs)) ∙ ap (option_map numbered) (ordered_find p xs)
  where
    go : (o : Option Txn) → option_map number_of o ≡ option_map numbered (option_map number o)
    go None = refl
    go (Some y) = refl
