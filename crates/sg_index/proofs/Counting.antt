-- The numbers of nodes, counted, and the records that they have.
use Rattle.std.proofs.Common.{◌≡◌, ◌≢◌, ℕ, suc, ◌+◌, ◌<◌, ◌≤◌, ◌^◌, Bool, true, false, List, [], ◌∷◌, ◌++◌, drop, Option, Some, None, refl, sym, ap, ◌∙◌, arith, inl, inr, zero-add}
use Rattle.std.specs.Prelude.{◌⊎◌, ◌==◌, is_some, if◌then◌else◌, option_and_then}
use Rattle.std.proofs.lemmas.Bool.Decides.{nat_tests}
use Rattle.byteorder.specs.Endian.{little_bytes, little_number}
use Rattle.byteorder.specs.Numbers.{little_number-reads_back}
use Rattle.sg_index.specs.declared.item.Item.{Item}
use Rattle.sg_index.specs.Node.{read_node}
use Rattle.sg_index.specs.Records.{Map, Puts, Dels}
use Rattle.sg_index.specs.Tree.{node_key, node_at, times}
use Rattle.sg_index.specs.Index.{header_key, count_at}
use Rattle.sg_index.specs.Change.{AreNumbered, AreRenumbered}

pub times-append : (q : ℕ) (xs ys : List ℕ) → times q (xs ++ ys) ≡ times q xs + times q ys
times-append q [] ys = sym (zero-add (times q ys))
times-append q (x ∷ xs) ys = omega (arith, times-append q xs ys)

-- 1 for the number itself, and 0 for each other one
abbrev pub one : ℕ → ℕ → ℕ
one q n = if n == q then 1 else 0

pub one_same : (n : ℕ) → one n n ≡ 1
one_same n = grind (arith, nat_tests)

pub one_other : (q n : ℕ) → n ≢ q → one q n ≡ 0
one_other q n other = grind (arith, nat_tests, other)

back : (q : ℕ) → q < 2 ^ 32 → little_number 4 (little_bytes 4 q) ≡ q
back q small = little_number-reads_back 4 q [] (omega (arith, small))

pub same_number : (p q : ℕ) → p < 2 ^ 32 → q < 2 ^ 32 → node_key p ≡ node_key q → p ≡ q
unfolding node_key
same_number p q hp hq e = sym (back p hp) ∙ (ap (λ (key : List ℕ). little_number 4 (drop 1 key)) e ∙ back q hq)

pub other_key : (p q : ℕ) → p < 2 ^ 32 → q < 2 ^ 32 → p ≢ q → node_key p ≢ node_key q
other_key p q hp hq other e = other (same_number p q hp hq e)

pub header_other : (q : ℕ) → header_key ≢ node_key q
unfolding node_key
header_other q = differ
  where
    differ : 104 ∷ [] ≢ 110 ∷ little_bytes 4 q
    differ e = absurd (no (ap (λ (key : List ℕ). drop 1 key) e))
      where
        no : [] ≡ little_bytes 4 q → ⊥
        no f = cc

-- whether there is a record, as a number
abbrev count_of : Option (List ℕ) → ℕ
count_of o = if is_some o then 1 else 0

module _ (records : Map) (q : ℕ) where
  pub count_most : count_at records q ≤ 1
  count_most = by (records (node_key q))
    where
      by : (o : Option (List ℕ)) → count_of o ≤ 1
      by None = omega arith
      by (Some v) = omega arith

  pub count_some : (v : List ℕ) → records (node_key q) ≡ Some v → count_at records q ≡ 1
  count_some v e = rw e refl

  pub count_none : records (node_key q) ≡ None → count_at records q ≡ 0
  count_none e = rw e refl

  pub none_of : count_at records q ≡ 0 → records (node_key q) ≡ None
  none_of e = by (records (node_key q)) e
    where
      by : (o : Option (List ℕ)) → count_of o ≡ 0 → o ≡ None
      by None e = refl
      by (Some v) e = absurd (omega (arith, e))

  pub count_there : (leaf : Bool) (items : List Item) → node_at records leaf q ≡ Some items → count_at records q ≡ 1
  unfolding node_at
  count_there leaf items e = by (records (node_key q)) refl
    where
      by : (o : Option (List ℕ)) → records (node_key q) ≡ o → count_at records q ≡ 1
      by (Some v) f = count_some v f
      by None f = absurd (no (ap (λ (o : Option (List ℕ)). option_and_then (read_node leaf) o) f))
        where
          no : node_at records leaf q ≡ None → ⊥
          no g = cc

pub count_same : (old new : Map) (q : ℕ) → new (node_key q) ≡ old (node_key q) → count_at new q ≡ count_at old q
count_same old new q e = ap count_of e

pub node_same : (old new : Map) (leaf : Bool) (q : ℕ) → new (node_key q) ≡ old (node_key q) → node_at new leaf q ≡ node_at old leaf q
unfolding node_at
node_same old new leaf q e = ap (λ (o : Option (List ℕ)). option_and_then (read_node leaf) o) e

narrow_left : (q a b c : ℕ) → b ≤ c → (q < a ⊎ c ≤ q) → (q < a ⊎ b ≤ q)
narrow_left q a b c le (inl h) = inl h
narrow_left q a b c le (inr h) = inr (omega (arith, h, le))

narrow_right : (q a b c : ℕ) → a ≤ b → (q < a ⊎ c ≤ q) → (q < b ⊎ c ≤ q)
narrow_right q a b c le (inl h) = inl (omega (arith, h, le))
narrow_right q a b c le (inr h) = inr h

-- what holds no number before holds none after, but of those in between
pub still_none : {old new : Map} {from to : ℕ} {before after : List ℕ} → AreRenumbered old new from to before after → (q : ℕ) → q < 2 ^ 32 → times q before ≡ 0 → (q < from ⊎ to ≤ q) → times q after ≡ 0
still_none {old = old} {new = new} h q small none at = omega (arith, h.counts q small, count_same old new q (h.kept q small none at), none)

-- two changes, one after the other
pub renumbered_then : {old mid new : Map} {a b c : ℕ} {one two three : List ℕ} → AreRenumbered old mid a b one two → AreRenumbered mid new b c two three → AreRenumbered old new a c one three
renumbered_then {old = old} {mid = mid} {new = new} {a = a} {b = b} {c = c} x y = record {
  counts = λ q small. omega (arith, x.counts q small, y.counts q small);
  kept = λ q small none at.
      y.kept q small (still_none x q small none (narrow_left q a b c y.later at)) (narrow_right q a b c x.later at) ∙ x.kept q small none (narrow_left q a b c y.later at);
  others = λ key other. y.others key other ∙ x.others key other;
  later = omega (arith, x.later, y.later);
}

-- a change of a part is one of the whole
pub renumbered_within : {old new : Map} {from to : ℕ} {before after : List ℕ} (rest : ℕ → ℕ) (whole whole_after : List ℕ) → ((q : ℕ) → times q whole ≡ rest q + times q before) → ((q : ℕ) → times q whole_after ≡ rest q + times q after) → AreRenumbered old new from to before after → AreRenumbered old new from to whole whole_after
renumbered_within rest whole whole_after is is_after h = record {
  counts = λ q small. omega (arith, h.counts q small, is q, is_after q);
  kept = λ q small none at. h.kept q small (omega (arith, none, is q)) at;
  others = h.others;
  later = h.later;
}

-- nothing changed
pub renumbered_none : (records : Map) (at : ℕ) (numbers : List ℕ) → AreRenumbered records records at at numbers numbers
renumbered_none records at numbers = record {
  counts = λ q small. refl;
  kept = λ q small none at. refl;
  others = λ key other. refl;
  later = omega arith;
}

-- the numbers are those before, in another order
pub renumbered_again : {old new : Map} {from to : ℕ} {before after : List ℕ} (again : List ℕ) → ((q : ℕ) → times q again ≡ times q after) → AreRenumbered old new from to before after → AreRenumbered old new from to before again
renumbered_again again is h = record {
  counts = λ q small. omega (arith, h.counts q small, is q);
  kept = h.kept;
  others = h.others;
  later = h.later;
}

module _ (old new : Map) (n : ℕ) (small : n < 2 ^ 32) where
  differs : (q : ℕ) (numbers : List ℕ) → 1 ≤ times n numbers → times q numbers ≡ 0 → q ≢ n
  differs q numbers some none e = absurd (omega (arith, some, none, ap (λ (k : ℕ). times k numbers) e))

  -- the record of a node of this part was written
  pub renumbered_put : (value : List ℕ) → Puts old (node_key n) value new → (at : ℕ) (numbers : List ℕ) → 1 ≤ times n numbers → count_at old n ≡ 1 → AreRenumbered old new at at numbers numbers
  renumbered_put value put at numbers some was = record {
    counts = λ q within. ap (λ (k : ℕ). times q numbers + k) (same q within);
    kept = λ q within none at. put.others (node_key q) (other_key q n within small (differs q numbers some none));
    others = λ key other. put.others key (other n small);
    later = omega arith;
  }
    where
      same : (q : ℕ) → q < 2 ^ 32 → count_at old q ≡ count_at new q
      same q within = by (q == n) refl
        where
          by : (b : Bool) → (q == n) ≡ b → count_at old q ≡ count_at new q
          by true e =
              let is : q ≡ n = grind (arith, nat_tests, e) in
              ap (count_at old) is ∙ (was ∙ (sym (count_some new n value put.there) ∙ ap (count_at new) (sym is)))
          by false e =
              let other : q ≢ n = grind (arith, nat_tests, e) in
              sym (count_same old new q (put.others (node_key q) (other_key q n within small other)))

  -- a new node was written
  pub renumbered_new : (value : List ℕ) → Puts old (node_key n) value new → (numbers after : List ℕ) → count_at old n ≡ 0 → ((q : ℕ) → times q after ≡ times q numbers + one q n) → AreRenumbered old new n (suc n) numbers after
  renumbered_new value put numbers after was is = record {
    counts = counts;
    kept = λ q within none at. put.others (node_key q) (other_key q n within small (outside q at));
    others = λ key other. put.others key (other n small);
    later = omega arith;
  }
    where
      outside : (q : ℕ) → (q < n ⊎ suc n ≤ q) → q ≢ n
      outside q (inl h) e = absurd (omega (arith, h, e))
      outside q (inr h) e = absurd (omega (arith, h, e))

      counts : (q : ℕ) → q < 2 ^ 32 → times q after + count_at old q ≡ times q numbers + count_at new q
      counts q within = by (q == n) refl
        where
          by : (b : Bool) → (q == n) ≡ b → times q after + count_at old q ≡ times q numbers + count_at new q
          by true e =
              let it : q ≡ n = grind (arith, nat_tests, e) in
              omega (arith, is q, ap (λ (k : ℕ). one k n) it ∙ one_same n, ap (count_at old) it ∙ was, ap (count_at new) it ∙ count_some new n value put.there)
          by false e =
              let other : q ≢ n = grind (arith, nat_tests, e) in
              let turned : n ≢ q = λ f. other (sym f) in
              omega (arith, is q, one_other q n turned, count_same old new q (put.others (node_key q) (other_key q n within small other)))

  -- the record of a node was taken away
  pub renumbered_del : Dels old (node_key n) new → (at : ℕ) (numbers after : List ℕ) → count_at old n ≡ 1 → ((q : ℕ) → times q numbers ≡ times q after + one q n) → AreRenumbered old new at at numbers after
  renumbered_del del at numbers after was is = record {
    counts = counts;
    kept = λ q within none at. del.others (node_key q) (other_key q n within small (gone q none));
    others = λ key other. del.others key (other n small);
    later = omega arith;
  }
    where
      gone : (q : ℕ) → times q numbers ≡ 0 → q ≢ n
      gone q none e = absurd (omega (arith, is n, one_same n, none, ap (λ (k : ℕ). times k numbers) e))

      counts : (q : ℕ) → q < 2 ^ 32 → times q after + count_at old q ≡ times q numbers + count_at new q
      counts q within = by (q == n) refl
        where
          by : (b : Bool) → (q == n) ≡ b → times q after + count_at old q ≡ times q numbers + count_at new q
          by true e =
              let it : q ≡ n = grind (arith, nat_tests, e) in
              omega (arith, is q, ap (λ (k : ℕ). one k n) it ∙ one_same n, ap (count_at old) it ∙ was, ap (count_at new) it ∙ count_none new n del.gone)
          by false e =
              let other : q ≢ n = grind (arith, nat_tests, e) in
              let turned : n ≢ q = λ f. other (sym f) in
              omega (arith, is q, one_other q n turned, count_same old new q (del.others (node_key q) (other_key q n within small other)))

-- after a change the numbers are counted as before
pub numbered_after : {old new : Map} {from to : ℕ} {before after : List ℕ} → AreRenumbered old new from to before after → AreNumbered old from before → AreNumbered new to after
numbered_after {old = old} {new = new} {from = from} {to = to} {before = before} h n = record {
  once = λ q small. omega (arith, h.counts q small, n.once q small);
  free = λ q small on.
      let was : count_at old q ≡ 0 = n.free q small (omega (arith, on, h.later)) in
      let none : times q before ≡ 0 = omega (arith, n.once q small, was) in
      count_same old new q (h.kept q small none (inr on)) ∙ was;
}

-- a part of what is numbered is numbered
pub numbered_part : {records : Map} {next : ℕ} {numbers : List ℕ} (part : List ℕ) → ((q : ℕ) → times q part ≤ times q numbers) → AreNumbered records next numbers → AreNumbered records next part
numbered_part part few n = record {
  once = λ q small. omega (arith, n.once q small, few q);
  free = n.free;
}
