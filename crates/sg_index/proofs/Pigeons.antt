-- A tree of 16 levels whose root is full has more nodes than there are numbers.
use Rattle.std.proofs.Common.{◌≡◌, ℕ, zero, suc, ◌+◌, ◌*◌, ◌<◌, ◌≤◌, ◌^◌, true, false, List, [], ◌∷◌, length, refl, sym, ap, ◌∙◌, subst, arith, inl, inr, length-append}
use Rattle.std.specs.Prelude.{◌==◌, ◌⊎◌, nat_lt, if◌then◌else◌}
use Rattle.std.specs.List.{flat_map}
use Rattle.std.proofs.Math.Nat.{le_trans}
use Rattle.std.proofs.lemmas.Bool.Decides.{nat_tests}
use Rattle.sg_index.specs.declared.item.Item.{Item}
use Rattle.sg_index.specs.Records.{Map}
use Rattle.sg_index.specs.Tree.{Mark, Child, numbers_in, IsChild, Holds, fewest, times}
use Rattle.sg_index.specs.Change.{AreNumbered}
use Rattle.sg_index.proofs.Every.{Every}
use Rattle.sg_index.proofs.Seeking.{length-branches}
use Rattle.sg_index.proofs.Counting.{one, one_same, one_other, count_most}
use Rattle.sg_index.proofs.Replacing.{less_or}
use Rattle.sg_index.proofs.Moving.{holds_small}
use Rattle.sg_index.proofs.Parting.{not_low}

-- how often the numbers below n stand in a list
total : ℕ → List ℕ → ℕ
total zero xs = 0
total (suc n) xs = times n xs + total n xs

below : ℕ → ℕ → ℕ
below x n = if nat_lt x n then 1 else 0

below_yes : (x n : ℕ) → x < n → below x n ≡ 1
unfolding below
below_yes x n h = let e : nat_lt x n ≡ true = grind (arith, nat_tests, h) in rw e refl

below_no : (x n : ℕ) → n ≤ x → below x n ≡ 0
unfolding below
below_no x n h = let e : nat_lt x n ≡ false = grind (arith, nat_tests, h) in rw e refl

below_more : (x n : ℕ) → below x (suc n) ≡ one n x + below x n
below_more x n = by (less_or x n)
  where
    last : (n ≤ x) → ((n < x) ⊎ (x ≤ n)) → below x (suc n) ≡ one n x + below x n
    last le (inl h) = omega (arith, below_no x (suc n) h, one_other n x (λ e. absurd (omega (arith, e, h))), below_no x n le)
    last le (inr h) =
        let e : x ≡ n = omega (arith, le, h) in
        omega (arith, below_yes x (suc n) (omega (arith, e)), ap (λ (k : ℕ). one k x) (sym e) ∙ one_same x, below_no x n le)

    by : ((x < n) ⊎ (n ≤ x)) → below x (suc n) ≡ one n x + below x n
    by (inl h) = omega (arith, below_yes x (suc n) (omega (arith, h)), one_other n x (λ e. absurd (omega (arith, e, h))), below_yes x n h)
    by (inr h) = last h (less_or n x)

total_cons : (n x : ℕ) (xs : List ℕ) → total n (x ∷ xs) ≡ below x n + total n xs
unfolding total
total_cons zero x xs = omega (arith, below_no x 0 (omega arith))
total_cons (suc n) x xs = omega (arith, total_cons n x xs, below_more x n)

total_nil : (n : ℕ) → total n [] ≡ 0
unfolding total
total_nil zero = refl
total_nil (suc n) = omega (arith, total_nil n)

total_all : (n : ℕ) (xs : List ℕ) → ((q : ℕ) → n ≤ q → times q xs ≡ 0) → total n xs ≡ length xs
total_all n [] none = total_nil n
total_all n (x ∷ xs) none =
    let rest = total_all n xs (λ q on. omega (arith, none q on)) in
    omega (arith, total_cons n x xs, below_yes x n (by (less_or x n)), rest)
  where
    by : ((x < n) ⊎ (n ≤ x)) → x < n
    by (inl h) = h
    by (inr h) = absurd (omega (arith, none x h, one_same x))

total_few : (n : ℕ) (xs : List ℕ) → ((q : ℕ) → q < n → times q xs ≤ 1) → total n xs ≤ n
unfolding total
total_few zero xs few = omega arith
total_few (suc n) xs few = omega (arith, total_few n xs (λ q lt. few q (omega (arith, lt))), few n (omega arith))

-- numbers below n, each once, are n at most
pub few_numbers : (n : ℕ) (xs : List ℕ) → ((q : ℕ) → q < n → times q xs ≤ 1) → ((q : ℕ) → n ≤ q → times q xs ≡ 0) → length xs ≤ n
few_numbers n xs few none = omega (arith, total_all n xs none, total_few n xs few)

-- how many nodes stand below one with 8 children at least, so many levels above the leaves
many : ℕ → ℕ
many zero = 0
many (suc level) = 8 * (1 + many level)

module _ (records : Map) where
  each_many : (level m k : ℕ) → (children : List Child) → ((c : Child) → IsChild records (level == 0) (Holds records level) c → 1 + m ≤ length c.numbers) → Every (IsChild records (level == 0) (Holds records level)) children → k ≤ length children → k * (1 + m) ≤ length (flat_map numbers_in children)
  each_many level m zero children has each le = omega arith
  each_many level m (suc k) [] has each le = absurd (omega (arith, le))
  each_many level m (suc k) (c ∷ cs) has each le = omega (arith, length-append c.numbers (flat_map numbers_in cs), has c each.0, each_many level m k cs has each.1 (omega (arith, le)))

  holds_many : (level : ℕ) (key : List ℕ) (items : List Item) (marks : List Mark) (numbers : List ℕ) → Holds records level key items marks numbers → 8 ≤ length items → many level ≤ length numbers
  unfolding many
  holds_many zero key items marks numbers h enough = omega arith
  holds_many (suc level) key items marks numbers h enough =
      let few : 8 ≤ length h.children = omega (arith, enough, ap length h.items_are, length-branches h.children) in
      omega (arith, each_many level (many level) 8 h.children (child level (holds_many level)) h.each few, ap length h.numbers_are)
    where
      child : (level : ℕ) → ((key : List ℕ) (items : List Item) (marks : List Mark) (numbers : List ℕ) → Holds records level key items marks numbers → 8 ≤ length items → many level ≤ length numbers) → (c : Child) → IsChild records (level == 0) (Holds records level) c → 1 + many level ≤ length c.numbers
      child zero rest c is = omega (arith, ap length is.numbers_are)
      child (suc l) rest c is =
          let least : 8 ≡ fewest (suc l == 0) = ap fewest (not_low l) in
          omega (arith, ap length is.numbers_are, rest c.key is.items c.marks is.below is.holds (omega (arith, is.enough, least)))

  too_high : many 15 ≤ 2 ^ 32 → ⊥
  unfolding many
  too_high le = omega (arith, le)

  -- there is room for one level more
  pub is_low : (level next : ℕ) (key : List ℕ) (items : List Item) (marks : List Mark) (numbers : List ℕ) → Holds records level key items marks numbers → 8 ≤ length items → AreNumbered records next numbers → level ≤ 15 → level ≤ 14
  is_low level next key items marks numbers h enough numbered high = by (less_or level 15)
    where
      by : ((level < 15) ⊎ (15 ≤ level)) → level ≤ 14
      by (inl lt) = omega (arith, lt)
      by (inr le) =
          let is : level ≡ 15 = omega (arith, le, high) in
          let at : many 15 ≤ length numbers = holds_many 15 key items marks numbers (subst (λ (l : ℕ). Holds records l key items marks numbers) is h) enough in
          let few : length numbers ≤ 2 ^ 32 = few_numbers (2 ^ 32) numbers (λ q lt. omega (arith, numbered.once q lt, count_most records q)) (holds_small records level key items marks numbers h) in
          absurd (too_high (le_trans at few))
