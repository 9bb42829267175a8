-- Notes of no bytes, and what is reserved.
use Rattle.std.proofs.Common.{◌≡◌, ◌<◌, ◌≤◌, ◌==◌, ℕ, Bool, true, false, List, [], length, refl, sym, ap, subst, arith, cond}
use Rattle.std.specs.Prelude.{All, nat_lt, ◌&&◌}
use Rattle.std.proofs.lemmas.Bool.{eqb-true, eq-eqb}
use Rattle.std.proofs.lemmas.Bool.Decides.{nat_tests}
use Rattle.std.proofs.lemmas.List.{nil_from_length}
use Rattle.std.proofs.lemmas.List.Elements.{All-map}
use Rattle.sg_core.specs.Live.{Txn, reserving, is_of, one_more}

pub nil_of : {xs : List ℕ} → (length xs == 0) ≡ true → xs ≡ []
nil_of {xs} h = nil_from_length xs (eqb-true (length xs) 0 h)

pub some_of : {xs : List ℕ} → (length xs == 0) ≡ false → xs ≡ [] → ⊥
some_of {xs} h e = clash (eq-eqb (length xs) 0 (ap (λ (ys : List ℕ). length ys) e)) h
  where
    clash : (length xs == 0) ≡ true → (length xs == 0) ≡ false → ⊥
    clash a b = absurd (cc)

pub both_of : {m n : ℕ} → (nat_lt 0 m && nat_lt 0 n) ≡ true → (0 < m) × (0 < n)
both_of {m} {n} h = go (nat_lt 0 m) (nat_lt 0 n) refl refl h
  where
    go : (a b : Bool) → nat_lt 0 m ≡ a → nat_lt 0 n ≡ b → (a && b) ≡ true → (0 < m) × (0 < n)
    go true true e f k = (grind (arith, nat_tests), grind (arith, nat_tests))
    go true false e f k = absurd (cc)
    go false b e f k = absurd (cc)

pub none_of : (m n : ℕ) → m ≤ n → (nat_lt 0 m && nat_lt 0 n) ≡ false → m ≡ 0
none_of m n le h = go (nat_lt 0 m) (nat_lt 0 n) refl refl h
  where
    go : (a b : Bool) → nat_lt 0 m ≡ a → nat_lt 0 n ≡ b → (a && b) ≡ false → m ≡ 0
    go true true e f k = absurd (cc)
    go true false e f k = grind (arith, nat_tests)
    go false b e f k = grind (arith, nat_tests)

pub below_kept : (txns : List Txn) (low high : ℕ) → low ≤ high → All (λ (k : Txn). k.transaction < low) txns → All (λ (k : Txn). k.transaction < high) txns
below_kept txns low high le h i d lt = let z : (Rattle.std.specs.Prelude.slice_index_or txns i d).transaction < low = h i d lt in omega (arith, z, le)

pub below_reserving : (u : ℕ) (txns : List Txn) (low high : ℕ) (after : List Txn) → after ≡ reserving u txns → low ≤ high → All (λ (k : Txn). k.transaction < low) txns → All (λ (k : Txn). k.transaction < high) after
below_reserving u txns low high after e le h = subst (λ (ks : List Txn). All (λ (k : Txn). k.transaction < high) ks) (sym e)
    (All-map (λ (k : Txn). k.transaction < high) (λ (k : Txn). cond (is_of u k) (one_more k) k) txns (λ i d lt. one (is_of u (Rattle.std.specs.Prelude.slice_index_or txns i d)) (Rattle.std.specs.Prelude.slice_index_or txns i d) (h i d lt)))
  where
    one : (b : Bool) (k : Txn) → k.transaction < low → (cond b (one_more k) k).transaction < high
    one true k z = omega (arith, z, le)
    one false k z = omega (arith, z, le)
