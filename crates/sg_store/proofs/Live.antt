-- The live transactions of a store and those of a run.
use Rattle.std.proofs.Common.{◌≡◌, ℕ, ◌+◌, ◌<◌, ◌≤◌, Bool, true, false, not, cond, List, [], ◌∷◌, ◌++◌, map, refl, sym, ap, ◌∙◌, subst, arith}
use Rattle.std.specs.Prelude.{◌==◌, ◌||◌, ◌&&◌, sum_by, nat_lt}
use Rattle.std.proofs.lemmas.List.Sums.{sum_by-cons}
use Rattle.std.proofs.lemmas.Bool.{eq-eqb, eqb-true, ne_eqb}
use Rattle.sg_serial.specs.Runs.{Live}
use Rattle.sg_serial.specs.Runs as runs
use Rattle.sg_core.specs.Live.{Txn, is_live, without, begun, reserving, one_more}
use Rattle.sg_recovery.specs.Setting.{Setting}
use Rattle.sg_recovery.specs.Log.{Top, notes_of, notes_not_of, notes_up_to}
use Rattle.sg_recovery.specs.Stands.{wanted, wants_one}
use Rattle.sg_recovery.specs.Laws.{Each, Note, bare}
use Rattle.sg_store.specs.Store.{AreReserved, AreOthersReserved}

abbrev pub numbers : List Txn → List ℕ
numbers ks = map (λ l. l.transaction) ks

abbrev pub run_numbers : List Live → List ℕ
run_numbers ls = map (λ l. l.transaction) ls

is_in_numbers : ℕ → List ℕ → Bool
is_in_numbers u [] = false
is_in_numbers u (n ∷ ns) = (n == u) || is_in_numbers u ns

but : ℕ → List ℕ → List ℕ
but u [] = []
but u (n ∷ ns) = cond (not (n == u)) (n ∷ but u ns) (but u ns)

live_is : (ks : List Txn) (u : ℕ) → is_live ks u ≡ is_in_numbers u (numbers ks)
unfolding is_in_numbers
live_is [] u = refl
live_is (k ∷ ks) u = ap (λ b. (k.transaction == u) || b) (live_is ks u)

run_live_is : (ls : List Live) (u : ℕ) → runs.is_live ls u ≡ is_in_numbers u (run_numbers ls)
unfolding is_in_numbers
run_live_is [] u = refl
run_live_is (l ∷ ls) u = ap (λ b. (l.transaction == u) || b) (run_live_is ls u)

-- the same are live
pub same_live : (ks : List Txn) (ls : List Live) (u : ℕ) → numbers ks ≡ run_numbers ls → is_live ks u ≡ runs.is_live ls u
same_live ks ls u e = live_is ks u ∙ (ap (λ ns. is_in_numbers u ns) e ∙ sym (run_live_is ls u))

without_is : (ks : List Txn) (u : ℕ) → numbers (without u ks) ≡ but u (numbers ks)
unfolding but
without_is [] u = refl
without_is (k ∷ ks) u = go (not (k.transaction == u)) (without_is ks u)
  where
    go : (b : Bool) → numbers (without u ks) ≡ but u (numbers ks) → numbers (cond b (k ∷ without u ks) (without u ks)) ≡ cond b (k.transaction ∷ but u (numbers ks)) (but u (numbers ks))
    go true h = ap (λ ns. k.transaction ∷ ns) h
    go false h = h

run_without_is : (ls : List Live) (u : ℕ) → run_numbers (runs.without u ls) ≡ but u (run_numbers ls)
unfolding but
run_without_is [] u = refl
run_without_is (l ∷ ls) u = go (not (l.transaction == u)) (run_without_is ls u)
  where
    go : (b : Bool) → run_numbers (runs.without u ls) ≡ but u (run_numbers ls) → run_numbers (cond b (l ∷ runs.without u ls) (runs.without u ls)) ≡ cond b (l.transaction ∷ but u (run_numbers ls)) (but u (run_numbers ls))
    go true h = ap (λ ns. l.transaction ∷ ns) h
    go false h = h

pub same_without : (ks : List Txn) (ls : List Live) (u : ℕ) → numbers ks ≡ run_numbers ls → numbers (without u ks) ≡ run_numbers (runs.without u ls)
same_without ks ls u e = without_is ks u ∙ (ap (λ ns. but u ns) e ∙ sym (run_without_is ls u))

notes_but : {C N : Type 0} (ns : List (Top C N)) (u v : ℕ) → notes_of v (notes_not_of u ns) ≡ cond (v == u) [] (notes_of v ns)
notes_but [] u v = none (v == u)
  where
    none : {A : Type 0} (b : Bool) → ◌≡◌ {A = List A} [] (cond {A = List A} b [] [])
    none true = refl
    none false = refl
notes_but {C} {N} (n ∷ ns) u v = go (n.transaction == u) (n.transaction == v) (v == u) refl refl refl (notes_but ns u v)
  where
    go : (a b c : Bool) → (n.transaction == u) ≡ a → (n.transaction == v) ≡ b → (v == u) ≡ c → notes_of v (notes_not_of u ns) ≡ cond c [] (notes_of v ns)
        → notes_of v (cond (not a) (n ∷ notes_not_of u ns) (notes_not_of u ns)) ≡ cond c [] (cond b (n ∷ notes_of v ns) (notes_of v ns))
    go true true true e f g h = h
    go true true false e f g h = absurd (clash (eq-eqb v u (sym (eqb-true n.transaction v f) ∙ eqb-true n.transaction u e)) g)
      where
        clash : (v == u) ≡ true → (v == u) ≡ false → ⊥
        clash x y = absurd (cc)
    go true false c e f g h = h
    go false true true e f g h = absurd (clash (eq-eqb n.transaction u (eqb-true n.transaction v f ∙ eqb-true v u g)) e)
      where
        clash : (n.transaction == u) ≡ true → (n.transaction == u) ≡ false → ⊥
        clash x y = absurd (cc)
    go false true false e f g h = ap (λ b. cond b (n ∷ notes_of v (notes_not_of u ns)) (notes_of v (notes_not_of u ns))) f ∙ ap (λ l. n ∷ l) h
    go false false c e f g h = ap (λ b. cond b (n ∷ notes_of v (notes_not_of u ns)) (notes_of v (notes_not_of u ns))) f ∙ h

-- each has still reserved what its notes want, once one is no more
pub reserved_without : (s : Setting) (ks : List Txn) (ns : List (Top s.C s.N)) (u : ℕ) → AreReserved s ks ns → AreReserved s (without u ks) (notes_not_of u ns)
reserved_without s [] ns u h = tt
reserved_without s (k ∷ ks) ns u h = go (k.transaction == u) refl (reserved_without s ks ns u h.1)
  where
    go : (b : Bool) → (k.transaction == u) ≡ b → AreReserved s (without u ks) (notes_not_of u ns) → AreReserved s (cond (not b) (k ∷ without u ks) (without u ks)) (notes_not_of u ns)
    go true e r = r
    go false e r = (h.0 ∙ ap (λ l. wanted s l) (sym (notes_but ns u k.transaction ∙ ap (λ b. cond b [] (notes_of k.transaction ns)) e)), r)

-- one that has just begun has nothing to be undone
fresh_none : {C N : Type 0} (b n : ℕ) (ns : List (Top C N)) → Each (λ m. m.transaction < b) ns → b ≤ n → notes_of n ns ≡ []
fresh_none b n [] h le = refl
fresh_none b n (m ∷ ns) h le =
    let lt : m.transaction < b = h.0 in
    ap (λ c. cond c (m ∷ notes_of n ns) (notes_of n ns)) (ne_eqb m.transaction n (λ e. absurd (omega (arith, lt, le, e)))) ∙ fresh_none b n ns h.1 le

each_end : {A : Type 0} (P : A → Type 0) (xs : List A) (y : A) → Each P xs → P y → Each P (xs ++ y ∷ [])
each_end P [] y h p = (p, tt)
each_end P (x ∷ xs) y h p = (h.0, each_end P xs y h.1 p)

pub reserved_begun : (s : Setting) (ks : List Txn) (ns : List (Top s.C s.N)) (b n : ℕ) → AreReserved s ks ns → Each (λ m. m.transaction < b) ns → b ≤ n → AreReserved s (ks ++ begun n ∷ []) ns
reserved_begun s ks ns b n h below le = each_end (λ k. k.reserved ≡ wanted s (notes_of k.transaction ns)) ks (begun n) h (ap (λ l. wanted s l) (sym (fresh_none b n ns below le)))

-- which numbers are live stays
pub numbers_reserving : (u : ℕ) (ks : List Txn) → numbers (reserving u ks) ≡ numbers ks
numbers_reserving u [] = refl
numbers_reserving u (k ∷ ks) = go (k.transaction == u) (numbers_reserving u ks)
  where
    go : (b : Bool) → numbers (reserving u ks) ≡ numbers ks → (cond b (one_more k) k).transaction ∷ numbers (reserving u ks) ≡ k.transaction ∷ numbers ks
    go true e = ap (λ ns. k.transaction ∷ ns) e
    go false e = ap (λ ns. k.transaction ∷ ns) e

-- all notes together want no more than all have reserved
module _ (s : Setting) where
  total : List Txn → List (Top s.C s.N) → ℕ
  total [] ns = 0
  total (k ∷ ks) ns = wanted s (notes_of k.transaction ns) + total ks ns

  total_is : (ks : List Txn) (ns : List (Top s.C s.N)) → AreReserved s ks ns → sum_by (λ (x : Txn). x.reserved) ks ≡ total ks ns
  unfolding total
  total_is [] ns h = refl
  total_is (k ∷ ks) ns h = let a : k.reserved ≡ wanted s (notes_of k.transaction ns) = h.0 in let b : sum_by (λ (x : Txn). x.reserved) ks ≡ total ks ns = total_is ks ns h.1 in let c : sum_by (λ (x : Txn). x.reserved) (k ∷ ks) ≡ k.reserved + sum_by (λ (x : Txn). x.reserved) ks = sum_by-cons (λ (x : Txn). x.reserved) k ks in omega (arith, a, b, c)

  total_grows : (ks : List Txn) (n : Top s.C s.N) (ns : List (Top s.C s.N)) → total ks ns ≤ total ks (n ∷ ns)
  unfolding total
  total_grows [] n ns = omega arith
  total_grows (k ∷ ks) n ns = go (n.transaction == k.transaction) (s.wants n.note) (total_grows ks n ns)
    where
      go : (b c : Bool) → total ks ns ≤ total ks (n ∷ ns) → wanted s (notes_of k.transaction ns) + total ks ns ≤ wanted s (cond b (n ∷ notes_of k.transaction ns) (notes_of k.transaction ns)) + total ks (n ∷ ns)
      go true c h = by_test (s.wants n.note)
        where
          by_test : (d : Bool) → wanted s (notes_of k.transaction ns) + total ks ns ≤ cond d (wanted s (notes_of k.transaction ns) + 1) (wanted s (notes_of k.transaction ns)) + total ks (n ∷ ns)
          by_test true = omega (arith, h)
          by_test false = omega (arith, h)
      go false c h = omega (arith, h)

  total_more : (ks : List Txn) (n : Top s.C s.N) (ns : List (Top s.C s.N)) → is_live ks n.transaction ≡ true → total ks ns + wants_one s n ≤ total ks (n ∷ ns)
  unfolding total
  total_more [] n ns live = absurd (cc)
  total_more (k ∷ ks) n ns live = go (k.transaction == n.transaction) refl live (total_grows ks n ns) (total_more ks n ns)
    where
      go : (b : Bool) → (k.transaction == n.transaction) ≡ b → (b || is_live ks n.transaction) ≡ true → total ks ns ≤ total ks (n ∷ ns) → (is_live ks n.transaction ≡ true → total ks ns + wants_one s n ≤ total ks (n ∷ ns))
          → (wanted s (notes_of k.transaction ns) + total ks ns) + wants_one s n ≤ wanted s (notes_of k.transaction (n ∷ ns)) + total ks (n ∷ ns)
      go true e l h r = subst (λ b. (wanted s (notes_of k.transaction ns) + total ks ns) + wants_one s n ≤ wanted s (cond b (n ∷ notes_of k.transaction ns) (notes_of k.transaction ns)) + total ks (n ∷ ns))
          (sym (eq-eqb n.transaction k.transaction (sym (eqb-true k.transaction n.transaction e)))) (by_test (s.wants n.note))
        where
          by_test : (d : Bool) → (wanted s (notes_of k.transaction ns) + total ks ns) + cond d 1 0 ≤ cond d (wanted s (notes_of k.transaction ns) + 1) (wanted s (notes_of k.transaction ns)) + total ks (n ∷ ns)
          by_test true = omega (arith, h)
          by_test false = omega (arith, h)
      go false e l h r = by_both (n.transaction == k.transaction) (r l)
        where
          by_both : (d : Bool) → total ks ns + wants_one s n ≤ total ks (n ∷ ns) → (wanted s (notes_of k.transaction ns) + total ks ns) + wants_one s n ≤ wanted s (cond d (n ∷ notes_of k.transaction ns) (notes_of k.transaction ns)) + total ks (n ∷ ns)
          by_both false m = omega (arith, m)
          by_both true m = by_test (s.wants n.note)
            where
              by_test : (f : Bool) → (wanted s (notes_of k.transaction ns) + total ks ns) + wants_one s n ≤ cond f (wanted s (notes_of k.transaction ns) + 1) (wanted s (notes_of k.transaction ns)) + total ks (n ∷ ns)
              by_test true = omega (arith, m)
              by_test false = omega (arith, m)

  wanted_step : (n : Top s.C s.N) (ns : List (Top s.C s.N)) → wanted s (n ∷ ns) ≡ wanted s ns + wants_one s n
  wanted_step n ns = go (s.wants n.note)
    where
      go : (b : Bool) → cond b (wanted s ns + 1) (wanted s ns) ≡ wanted s ns + cond b 1 0
      go true = refl
      go false = omega arith

  wanted_total : (ks : List Txn) (ns : List (Top s.C s.N)) → Each (λ m. is_live ks m.transaction ≡ true) ns → wanted s ns ≤ total ks ns
  wanted_total ks [] h = omega arith
  wanted_total ks (n ∷ ns) h =
      let a : wanted s (n ∷ ns) ≡ wanted s ns + wants_one s n = wanted_step n ns in
      let b : total ks ns + wants_one s n ≤ total ks (n ∷ ns) = total_more ks n ns h.0 in
      let c : wanted s ns ≤ total ks ns = wanted_total ks ns h.1 in
      omega (arith, a, b, c)

  pub wanted_sum : (ks : List Txn) (ns : List (Top s.C s.N)) → AreReserved s ks ns → Each (λ m. is_live ks m.transaction ≡ true) ns → wanted s ns ≤ sum_by (λ (x : Txn). x.reserved) ks
  wanted_sum ks ns h l = let a : sum_by (λ (x : Txn). x.reserved) ks ≡ total ks ns = total_is ks ns h in let b : wanted s ns ≤ total ks ns = wanted_total ks ns l in omega (arith, a, b)

  -- what holds of each standing note
  pub each_bare : (P : ℕ → Type 0) (ns : List (Note s)) (ts : List (Top s.C s.N)) → map (bare s) ns ≡ ts → Each (λ n. P n.transaction) ns → Each (λ m. P m.transaction) ts
  each_bare P ns ts e h = subst (Each (λ m. P m.transaction)) e (onto ns h)
    where
      onto : (xs : List (Note s)) → Each (λ n. P n.transaction) xs → Each (λ m. P m.transaction) (map (bare s) xs)
      onto [] z = tt
      onto (x ∷ xs) z = (z.0, onto xs z.1)

  -- a note more
  pub reserved_note : (ks : List Txn) (ns : List (Top s.C s.N)) (n : Top s.C s.N) → AreReserved s ks ns → wants_one s n ≡ 1 → AreReserved s (reserving n.transaction ks) (n ∷ ns)
  reserved_note [] ns n h w = tt
  reserved_note (k ∷ ks) ns n h w = (go (k.transaction == n.transaction) refl, reserved_note ks ns n h.1 w)
    where
      more : wanted s (n ∷ notes_of k.transaction ns) ≡ wanted s (notes_of k.transaction ns) + 1
      more = wanted_step n (notes_of k.transaction ns) ∙ ap (λ i. wanted s (notes_of k.transaction ns) + i) w

      go : (b : Bool) → (k.transaction == n.transaction) ≡ b → (cond b (one_more k) k).reserved ≡ wanted s (notes_of (cond b (one_more k) k).transaction (n ∷ ns))
      go true e = ap (λ i. i + 1) h.0 ∙ (sym more ∙ ap (λ b. wanted s (cond b (n ∷ notes_of k.transaction ns) (notes_of k.transaction ns))) (sym (eq-eqb n.transaction k.transaction (sym (eqb-true k.transaction n.transaction e)))))
      go false e = h.0 ∙ ap (λ b. wanted s (cond b (n ∷ notes_of k.transaction ns) (notes_of k.transaction ns))) (sym (ne_eqb n.transaction k.transaction (λ f. absurd (clash (eq-eqb k.transaction n.transaction (sym f)) e))))
        where
          clash : (k.transaction == n.transaction) ≡ true → (k.transaction == n.transaction) ≡ false → ⊥
          clash y z = absurd (cc)

  pub reserved_none : (ks : List Txn) (ns : List (Top s.C s.N)) (n : Top s.C s.N) → AreReserved s ks ns → wants_one s n ≡ 0 → AreReserved s ks (n ∷ ns)
  reserved_none [] ns n h w = tt
  reserved_none (k ∷ ks) ns n h w = (go (n.transaction == k.transaction), reserved_none ks ns n h.1 w)
    where
      more : wanted s (n ∷ notes_of k.transaction ns) ≡ wanted s (notes_of k.transaction ns)
      more = let a : wanted s (n ∷ notes_of k.transaction ns) ≡ wanted s (notes_of k.transaction ns) + wants_one s n = wanted_step n (notes_of k.transaction ns) in omega (arith, a, w)

      go : (b : Bool) → k.reserved ≡ wanted s (cond b (n ∷ notes_of k.transaction ns) (notes_of k.transaction ns))
      go true = h.0 ∙ sym more
      go false = h.0

  pub wanted_one : (n : Top s.C s.N) (ns : List (Top s.C s.N)) → wanted s (n ∷ ns) ≡ wanted s ns + wants_one s n
  wanted_one n ns = wanted_step n ns

-- another transaction's notes, once some of one are gone
pub other_up_to : {C N : Type 0} (ns : List (Top C N)) (u v after : ℕ) → (v ≡ u → ⊥) → notes_of v (notes_up_to u after ns) ≡ notes_of v ns
other_up_to [] u v after ne = refl
other_up_to {C} {N} (n ∷ ns) u v after ne = go (n.transaction == u) (n.transaction == v) (nat_lt after n.lsn) refl refl (other_up_to ns u v after ne)
  where
    go : (a b d : Bool) → (n.transaction == u) ≡ a → (n.transaction == v) ≡ b → notes_of v (notes_up_to u after ns) ≡ notes_of v ns
        → notes_of v (cond (not (a && d)) (n ∷ notes_up_to u after ns) (notes_up_to u after ns)) ≡ cond b (n ∷ notes_of v ns) (notes_of v ns)
    go true true d e f h = absurd (ne (sym (eqb-true n.transaction v f) ∙ eqb-true n.transaction u e))
    go true false true e f h = h
    go true false false e f h = ap (λ b. cond b (n ∷ notes_of v (notes_up_to u after ns)) (notes_of v (notes_up_to u after ns))) f ∙ h
    go false true d e f h = ap (λ b. cond b (n ∷ notes_of v (notes_up_to u after ns)) (notes_of v (notes_up_to u after ns))) f ∙ ap (λ l. n ∷ l) h
    go false false d e f h = ap (λ b. cond b (n ∷ notes_of v (notes_up_to u after ns)) (notes_of v (notes_up_to u after ns))) f ∙ h

module _ (s : Setting) where
  pub others_all : (ks : List Txn) (ns : List (Top s.C s.N)) (u : ℕ) → AreReserved s ks ns → AreOthersReserved s ks ns u
  others_all [] ns u h = tt
  others_all (k ∷ ks) ns u h = ((λ ne. h.0), others_all ks ns u h.1)

  pub others_up_to : (ks : List Txn) (ns : List (Top s.C s.N)) (u after : ℕ) → AreOthersReserved s ks ns u → AreOthersReserved s ks (notes_up_to u after ns) u
  others_up_to [] ns u after h = tt
  others_up_to (k ∷ ks) ns u after h = ((λ ne. h.0 ne ∙ ap (λ l. wanted s l) (sym (other_up_to ns u k.transaction after ne))), others_up_to ks ns u after h.1)

  pub others_without : (ks : List Txn) (ns : List (Top s.C s.N)) (u : ℕ) → AreOthersReserved s ks ns u → AreReserved s (without u ks) (notes_not_of u ns)
  others_without [] ns u h = tt
  others_without (k ∷ ks) ns u h = go (k.transaction == u) refl (others_without ks ns u h.1)
    where
      go : (b : Bool) → (k.transaction == u) ≡ b → AreReserved s (without u ks) (notes_not_of u ns) → AreReserved s (cond (not b) (k ∷ without u ks) (without u ks)) (notes_not_of u ns)
      go true e r = r
      go false e r = (h.0 (λ same. absurd (clash (eq-eqb k.transaction u same) e)) ∙ ap (λ l. wanted s l) (sym (notes_but ns u k.transaction ∙ ap (λ b. cond b [] (notes_of k.transaction ns)) e)), r)
        where
          clash : (k.transaction == u) ≡ true → (k.transaction == u) ≡ false → ⊥
          clash y z = absurd (cc)
