-- The order of the frames.
use Rattle.std.proofs.Common.{◌≡◌, ◌≢◌, ◌⊎◌, inl, inr, ⊎_elim, ◌<◌, ◌≤◌, ◌+◌, ◌-◌, ◌++◌, ℕ, zero, suc, Bool, true, false, cond, Option, Some, None, List, [], ◌∷◌, length, nat_eq, refl, ap, sym, ◌∙◌, subst, arith}
use Rattle.std.specs.Prelude.{Contains, IsSome, sum_by, IsTrue}
use Rattle.std.specs.List.{All}
use Rattle.std.specs.Option.{option_map_or}
use Rattle.std.specs.Map.{lookup, lookup_entry, remove_entry, set_value}
use Rattle.std.proofs.lemmas.Bool.{cases_eq}
use Rattle.std.proofs.lemmas.Bool.Decides.{nat_tests}
use Rattle.std.proofs.lemmas.List.{take_all}
use Rattle.std.proofs.lemmas.Map.{length-set_value}
use Rattle.std.proofs.lemmas.Grind.{common_steps}
use Rattle.std.proofs.lemmas.List.Elements.{All-head, All-tail}
use Rattle.std.proofs.lemmas.List.Sums.{sum_by-cons}
use Rattle.lru.proofs.Splits.{Contains-middle, Contains-head, Contains-tail, Contains-cons, Contains-nil}
use Rattle.lru.specs.LruCache.{promoted, lru_cache, put_entries}
use Rattle.lru.proofs.CallerLemmas.{Contains-promoted}
use Rattle.sg_pool.specs.Order.{below, pins_of, IsOrder, IsUsed}

pub length-below : (n : ℕ) → length (below n) ≡ n
length-below zero = refl
length-below (suc n) = ap suc (length-below n)

pub absent : (n k : ℕ) → n ≤ k → lookup_entry (nat_eq k) (below n) ≡ None
absent zero k h = refl
absent (suc n) k h =
    let differ : nat_eq k n ≡ false = grind (arith, nat_tests) in
    rw differ (absent n k (omega arith))

pub put-below : (k cap : ℕ) → k < cap → put_entries nat_eq (lru_cache (below k) cap) k false ≡ below (k + 1)
put-below k cap h =
    let e : k + 1 ≡ suc k = omega arith in
    rw e (rw (absent k k (omega arith)) (ap (λ es. (k, false) ∷ es) (take_all (cap - 1) (below k) (let e = length-below k in omega (arith, e)))))

some_one : (x e : ℕ × Bool) → Some x ≡ Some e → x ≡ e
some_one x e is = cc

swapped : (a b c d : ℕ) → a + c ≡ d → a + (b + c) ≡ b + d
swapped a b c d e = omega (arith, e)

-- a sum over the entries is the same in another order
module _ (f : ℕ × Bool → ℕ) (test : ℕ → Bool) where
  removed : (es : List (ℕ × Bool)) (e : ℕ × Bool) → lookup_entry test es ≡ Some e → f e + sum_by f (remove_entry test es) ≡ sum_by f es
  removed [] e is = absurd (grind (arith, common_steps, is))
  removed (x ∷ es) e is = (elim (test x.0) as (λ y. test x.0 ≡ y → f e + sum_by f (remove_entry test (x ∷ es)) ≡ sum_by f (x ∷ es)) [
    | true ↦ λ t. let same : Some x ≡ Some e = rw t at is in let one : x ≡ e = some_one x e same in rw t (ap (λ (y : ℕ × Bool). f y + sum_by f es) (sym one) ∙ sym (sum_by-cons f x es))
    | false ↦ λ t. let rest = removed es e (rw t at is) in rw t (ap (λ (n : ℕ). f e + n) (sum_by-cons f x (remove_entry test es)) ∙ (swapped (f e) (f x) (sum_by f (remove_entry test es)) (sum_by f es) rest ∙ sym (sum_by-cons f x es)))
  ]) refl

  promoted_by : (es : List (ℕ × Bool)) (o : Option (ℕ × Bool)) → lookup_entry test es ≡ o → sum_by f (option_map_or (λ e. e ∷ remove_entry test es) o es) ≡ sum_by f es
  promoted_by es None h = refl
  promoted_by es (Some e) h = sum_by-cons f e (remove_entry test es) ∙ removed es e h

  pub sum_promoted : (es : List (ℕ × Bool)) → sum_by f (promoted test es) ≡ sum_by f es
  sum_promoted es = promoted_by es (lookup_entry test es) refl

suc_one : (n : ℕ) → 1 + n ≡ suc n
suc_one n = omega arith

ones : (es : List (ℕ × Bool)) → sum_by (λ e. 1) es ≡ length es
ones [] = refl
ones (e ∷ es) = let a : sum_by (λ e. 1) (e ∷ es) ≡ 1 + sum_by (λ e. 1) es = sum_by-cons (λ (x : ℕ × Bool). 1) e es in let b = ones es in a ∙ (ap (λ (n : ℕ). 1 + n) b ∙ suc_one (length es))

-- of one entry
abbrev pub pin : ℕ × Bool → ℕ
pin e = cond e.1 1 0

pins_are : (es : List (ℕ × Bool)) → pins_of es ≡ sum_by pin es
pins_are es = refl

all_pinned : (es : List (ℕ × Bool)) → All (λ e. IsTrue e.1) es → pins_of es ≡ length es
all_pinned [] all = refl
all_pinned (e ∷ es) all =
    let high : e.1 ≡ true = All-head (λ (x : ℕ × Bool). x.1 ≡ true) e es all in
    let one : pin e ≡ 1 = ap (λ (b : Bool). cond b 1 0) high in
    sum_by-cons pin e es ∙ (ap (λ (n : ℕ). n + pins_of es) one ∙ (ap (λ (n : ℕ). 1 + n) (all_pinned es (All-tail (λ (x : ℕ × Bool). x.1 ≡ true) e es all)) ∙ suc_one (length es)))

pub not_all : (es : List (ℕ × Bool)) (count : ℕ) → 32 ≤ count → IsOrder count es → All (λ e. IsTrue e.1) es → ⊥
not_all es count many order all = let a = all_pinned es all in let b = order.few in let c = order.size in absurd (omega (arith, many, a, b, c))

pub key_there : (es xs ys : List (ℕ × Bool)) (k count : ℕ) → es ≡ xs ++ (k, false) ∷ ys → IsOrder count es → k < count
key_there es xs ys k count is order = order.keys (k, false) (subst (λ (l : List (ℕ × Bool)). Contains l (k, false)) (sym is) (Contains-middle xs (k, false) ys))

same_key : (k j : ℕ) → nat_eq k j ≡ true → k ≡ j
same_key k j e = grind (arith, nat_tests)

other_key : (k j : ℕ) → k ≢ j → nat_eq k j ≡ false
other_key k j differ = grind (arith, nat_tests)

not_some : (o : Option Bool) → o ≡ None → IsSome o → ⊥
not_some None e some = cc
not_some (Some b) e some = cc

-- a key that is looked up with an entry
module _ (k : ℕ) where
  entry_of : (es : List (ℕ × Bool)) (o : Option Bool) → lookup (nat_eq k) es ≡ o → IsSome o → (b : Bool) × (o ≡ Some b) × (lookup_entry (nat_eq k) es ≡ Some (k, b))
  entry_of [] o is some = absurd (not_some o (sym is) some)
  entry_of (e ∷ es) o is some = (elim (nat_eq k e.0) as (λ y. nat_eq k e.0 ≡ y → (b : Bool) × (o ≡ Some b) × (lookup_entry (nat_eq k) (e ∷ es) ≡ Some (k, b))) [
    | true ↦ λ t. let found : Some e.1 ≡ o = rw t at is in let key : k ≡ e.0 = same_key k e.0 t in (e.1, sym found, rw t (ap (λ (j : ℕ). Some (j, e.1)) (sym key)))
    | false ↦ λ t. let rest = entry_of es o (rw t at is) some in (rest.0, rest.1, rw t rest.2)
  ]) refl

  pub entry_there : (es : List (ℕ × Bool)) → IsSome (lookup (nat_eq k) es) → (b : Bool) × (lookup (nat_eq k) es ≡ Some b) × (lookup_entry (nat_eq k) es ≡ Some (k, b))
  entry_there es some = entry_of es (lookup (nat_eq k) es) refl some

  -- it goes first
  pub used_promoted : (es : List (ℕ × Bool)) → IsSome (lookup (nat_eq k) es) → IsUsed k es (promoted (nat_eq k) es)
  used_promoted es some =
      let it = entry_there es some in
      record { is_pinned = it.0; was = it.1; first = ap (λ (o : Option (ℕ × Bool)). option_map_or (λ e. e ∷ remove_entry (nat_eq k) es) o es) it.2 }

-- the other keys stay
module _ (k j : ℕ) (differ : j ≢ k) where
  pub still_there : (es : List (ℕ × Bool)) → lookup (nat_eq j) (remove_entry (nat_eq k) es) ≡ lookup (nat_eq j) es
  still_there [] = refl
  still_there (e ∷ es) = (elim (nat_eq k e.0) as (λ y. nat_eq k e.0 ≡ y → lookup (nat_eq j) (remove_entry (nat_eq k) (e ∷ es)) ≡ lookup (nat_eq j) (e ∷ es)) [
    | true ↦ λ t. let key : k ≡ e.0 = same_key k e.0 t in let out : nat_eq j e.0 ≡ false = other_key j e.0 (λ same. differ (same ∙ sym key)) in rw (t, out) refl
    | false ↦ λ t. rw t ((elim (nat_eq j e.0) as (λ y. nat_eq j e.0 ≡ y → lookup (nat_eq j) (e ∷ remove_entry (nat_eq k) es) ≡ lookup (nat_eq j) (e ∷ es)) [
      | true ↦ λ u. rw u refl
      | false ↦ λ u. rw u (still_there es)
    ]) refl)
  ]) refl

-- each frame is still there
each_used : (k count : ℕ) (es : List (ℕ × Bool)) → IsSome (lookup (nat_eq k) es) → ((j : ℕ) → j < count → IsSome (lookup (nat_eq j) es)) → (j : ℕ) → j < count → IsSome (lookup (nat_eq j) (promoted (nat_eq k) es))
each_used k count es some each j lt =
    let it = entry_there k es some in
    subst (λ (o : Option (ℕ × Bool)). IsSome (lookup (nat_eq j) (option_map_or (λ e. e ∷ remove_entry (nat_eq k) es) o es))) (sym it.2)
    (⊎_elim
    (λ same. let t : nat_eq j k ≡ true = grind (arith, nat_tests) in rw t refl)
    (λ differ. let t : nat_eq j k ≡ false = other_key j k differ in rw t (subst IsSome (sym (still_there k j differ es)) (each j lt)))
    (cases_eq j k))

pub order_promoted : (k count : ℕ) (es : List (ℕ × Bool)) → IsSome (lookup (nat_eq k) es) → IsOrder count es → IsOrder count (promoted (nat_eq k) es)
order_promoted k count es some order = record {
  size = sym (ones (promoted (nat_eq k) es)) ∙ (sum_promoted (λ e. 1) (nat_eq k) es ∙ (ones es ∙ order.size));
  keys = λ e c. order.keys e (Contains-promoted (nat_eq k) es e c);
  each = each_used k count es some order.each;
  few = let same : pins_of (promoted (nat_eq k) es) ≡ pins_of es = sum_promoted pin (nat_eq k) es in let few = order.few in omega (arith, same, few);
}

-- A FRAME IS PINNED, OR NOT ANY MORE
module _ (k : ℕ) (b : Bool) where
  set_first : (e : ℕ × Bool) (es : List (ℕ × Bool)) → nat_eq k e.0 ≡ true → set_value (nat_eq k) (e ∷ es) b ≡ (e.0, b) ∷ es
  set_first e es t = rw t refl

  set_later : (e : ℕ × Bool) (es : List (ℕ × Bool)) → nat_eq k e.0 ≡ false → set_value (nat_eq k) (e ∷ es) b ≡ e ∷ set_value (nat_eq k) es b
  set_later e es t = rw t refl

  keys_set : (count : ℕ) (es : List (ℕ × Bool)) → ((e : ℕ × Bool) → Contains es e → e.0 < count) → (e : ℕ × Bool) → Contains (set_value (nat_eq k) es b) e → e.0 < count
  keys_set count [] each e has = absurd (Contains-nil e has)
  keys_set count (x ∷ es) each e has = (elim (nat_eq k x.0) as (λ y. nat_eq k x.0 ≡ y → e.0 < count) [
    | true ↦ λ t. elim (Contains-cons (x.0, b) es e (subst (λ (l : List (ℕ × Bool)). Contains l e) (set_first x es t) has)) [
      | inl same ↦ subst (λ (y : ℕ × Bool). y.0 < count) same (each x (Contains-head x es))
      | inr in_rest ↦ each e (Contains-tail x es e in_rest)
    ]
    | false ↦ λ t. elim (Contains-cons x (set_value (nat_eq k) es b) e (subst (λ (l : List (ℕ × Bool)). Contains l e) (set_later x es t) has)) [
      | inl same ↦ subst (λ (y : ℕ × Bool). y.0 < count) same (each x (Contains-head x es))
      | inr in_rest ↦ keys_set count es (λ y c. each y (Contains-tail x es y c)) e in_rest
    ]
  ]) refl

  each_set : (j : ℕ) (es : List (ℕ × Bool)) → IsSome (lookup (nat_eq j) es) → IsSome (lookup (nat_eq j) (set_value (nat_eq k) es b))
  each_set j [] some = some
  each_set j (x ∷ es) some = (elim (nat_eq j x.0) as (λ y. nat_eq j x.0 ≡ y → IsSome (lookup (nat_eq j) (set_value (nat_eq k) (x ∷ es) b))) [
    | true ↦ λ u. (elim (nat_eq k x.0) as (λ y. nat_eq k x.0 ≡ y → IsSome (lookup (nat_eq j) (set_value (nat_eq k) (x ∷ es) b))) [
      | true ↦ λ t. rw (set_first x es t) (rw u refl)
      | false ↦ λ t. rw (set_later x es t) (rw u refl)
    ]) refl
    | false ↦ λ u. let rest : IsSome (lookup (nat_eq j) es) = rw u at some in (elim (nat_eq k x.0) as (λ y. nat_eq k x.0 ≡ y → IsSome (lookup (nat_eq j) (set_value (nat_eq k) (x ∷ es) b))) [
      | true ↦ λ t. rw (set_first x es t) (rw u rest)
      | false ↦ λ t. rw (set_later x es t) (rw u (each_set j es rest))
    ]) refl
  ]) refl

  pins_set : (es : List (ℕ × Bool)) → pins_of (set_value (nat_eq k) es b) ≤ pins_of es + cond b 1 0
  pins_set [] = omega arith
  pins_set (x ∷ es) = (elim (nat_eq k x.0) as (λ y. nat_eq k x.0 ≡ y → pins_of (set_value (nat_eq k) (x ∷ es) b) ≤ pins_of (x ∷ es) + cond b 1 0) [
    | true ↦ λ t.
        let a : pins_of (set_value (nat_eq k) (x ∷ es) b) ≡ cond b 1 0 + pins_of es = ap pins_of (set_first x es t) ∙ sum_by-cons pin (x.0, b) es in
        let c : pins_of (x ∷ es) ≡ pin x + pins_of es = sum_by-cons pin x es in
        omega (arith, a, c)
    | false ↦ λ t.
        let a : pins_of (set_value (nat_eq k) (x ∷ es) b) ≡ pin x + pins_of (set_value (nat_eq k) es b) = ap pins_of (set_later x es t) ∙ sum_by-cons pin x (set_value (nat_eq k) es b) in
        let c : pins_of (x ∷ es) ≡ pin x + pins_of es = sum_by-cons pin x es in
        let rest = pins_set es in
        omega (arith, a, c, rest)
  ]) refl

  pub order_set : (count : ℕ) (es : List (ℕ × Bool)) → pins_of es + cond b 1 0 ≤ 6 → IsOrder count es → IsOrder count (set_value (nat_eq k) es b)
  order_set count es room order = record {
    size = length-set_value (nat_eq k) es b ∙ order.size;
    keys = keys_set count es order.keys;
    each = λ j lt. each_set j es (order.each j lt);
    few = let most = pins_set es in omega (arith, most, room);
  }
  -- unpinned, no more are

module _ (k : ℕ) where
  pins_unset : (es : List (ℕ × Bool)) → pins_of (set_value (nat_eq k) es false) ≤ pins_of es
  pins_unset es = let most = pins_set k false es in omega (arith, most)

  pub order_unset : (count : ℕ) (es : List (ℕ × Bool)) → IsOrder count es → IsOrder count (set_value (nat_eq k) es false)
  order_unset count es order = order_set k false count es (let few = order.few in omega (arith, few)) order

-- THE ORDER OF A NEW POOL
below_keys : (n : ℕ) (e : ℕ × Bool) → Contains (below n) e → e.0 < n
below_keys zero e has = absurd (Contains-nil e has)
below_keys (suc n) e has = elim (Contains-cons (n, false) (below n) e has) [
  | inl same ↦ subst (λ (y : ℕ × Bool). y.0 < suc n) same (omega arith)
  | inr rest ↦ (let lt = below_keys n e rest in omega (arith, lt))
]

below_each : (n k : ℕ) → k < n → IsSome (lookup (nat_eq k) (below n))
below_each zero k lt = absurd (omega arith)
below_each (suc n) k lt = ⊎_elim
    (λ same. let t : nat_eq k n ≡ true = grind (arith, nat_tests) in rw t refl)
    (λ differ. let t : nat_eq k n ≡ false = other_key k n differ in rw t (below_each n k (omega arith)))
    (cases_eq k n)

below_pins : (n : ℕ) → pins_of (below n) ≡ 0
below_pins zero = refl
below_pins (suc n) = let a : pins_of (below (suc n)) ≡ 0 + pins_of (below n) = sum_by-cons pin (n, false) (below n) in let b = below_pins n in omega (arith, a, b)

pub order_below : (n : ℕ) → IsOrder n (below n)
order_below n = record { size = length-below n; keys = below_keys n; each = below_each n; few = let none = below_pins n in omega (arith, none) }

-- A USE KEEPS EACH PIN
pub used_pins : (f : ℕ) (es es' : List (ℕ × Bool)) → IsUsed f es es' → (k : ℕ) → lookup (nat_eq k) es' ≡ lookup (nat_eq k) es
used_pins f es es' used k = ap (lookup (nat_eq k)) used.first ∙ ⊎_elim
    (λ same. let t : nat_eq k f ≡ true = grind (arith, nat_tests) in rw t (sym used.was ∙ ap (λ (j : ℕ). lookup (nat_eq j) es) (sym same)))
    (λ differ. let t : nat_eq k f ≡ false = other_key k f differ in rw t (still_there f k differ es))
    (cases_eq k f)

-- ONE THAT IS PINNED IS PINNED AGAIN
same_pin : (a : Bool) → Some a ≡ Some true → a ≡ true
same_pin a is = cc

pins_again : (k : ℕ) (es : List (ℕ × Bool)) → lookup (nat_eq k) es ≡ Some true → pins_of (set_value (nat_eq k) es true) ≡ pins_of es
pins_again k [] is = refl
pins_again k (x ∷ es) is = (elim (nat_eq k x.0) as (λ y. nat_eq k x.0 ≡ y → pins_of (set_value (nat_eq k) (x ∷ es) true) ≡ pins_of (x ∷ es)) [
  | true ↦ λ t.
      let high : x.1 ≡ true = same_pin x.1 (rw t at is) in
      let one : pin x ≡ 1 = ap (λ (b : Bool). cond b 1 0) high in
      let a : pins_of (set_value (nat_eq k) (x ∷ es) true) ≡ 1 + pins_of es = ap pins_of (set_first k true x es t) ∙ sum_by-cons pin (x.0, true) es in
      let c : pins_of (x ∷ es) ≡ pin x + pins_of es = sum_by-cons pin x es in
      omega (arith, a, c, one)
  | false ↦ λ t.
      let rest : pins_of (set_value (nat_eq k) es true) ≡ pins_of es = pins_again k es (rw t at is) in
      let a : pins_of (set_value (nat_eq k) (x ∷ es) true) ≡ pin x + pins_of (set_value (nat_eq k) es true) = ap pins_of (set_later k true x es t) ∙ sum_by-cons pin x (set_value (nat_eq k) es true) in
      let c : pins_of (x ∷ es) ≡ pin x + pins_of es = sum_by-cons pin x es in
      omega (arith, a, c, rest)
]) refl

pub order_again : (k count : ℕ) (es : List (ℕ × Bool)) → lookup (nat_eq k) es ≡ Some true → IsOrder count es → IsOrder count (set_value (nat_eq k) es true)
order_again k count es is order = record {
  size = length-set_value (nat_eq k) es true ∙ order.size;
  keys = keys_set k true count es order.keys;
  each = λ j lt. each_set k true j es (order.each j lt);
  few = let same = pins_again k es is in let few = order.few in omega (arith, same, few);
}

-- so a page may be pinned that is pinned, or where fewer are than may be
pub order_pinned : (k count : ℕ) (es : List (ℕ × Bool)) → (lookup (nat_eq k) es ≡ Some true) ⊎ (pins_of es < 6) → IsOrder count es → IsOrder count (set_value (nat_eq k) es true)
order_pinned k count es room order = ⊎_elim (λ is. order_again k count es is order) (λ few. order_set k true count es (omega (arith, few)) order) room
