-- What is kept of transactions that don't go on, with one more and without one.
use Rattle.std.proofs.Common.{◌≡◌, ℕ, ◌==◌, Bool, true, false, cond, not, Option, Some, None, List, [], ◌∷◌, ◌++◌, filter, refl, sym, ap, ◌∙◌}
use Rattle.sg_recovery.proofs.Basic.{number_is}
use Rattle.sg_analysis.specs.Past.{over_of}
use Rattle.sg_analysis.specs.declared.past.Over.{Over}

-- without those of a transaction
pub over_of-without : (t u : ℕ) (overs : List Over) → over_of u (filter (λ (over : Over). not (over.txn.0 == t)) overs) ≡ cond (t == u) None (over_of u overs)
over_of-without t u [] = by_test (t == u)
  where
    by_test : (b : Bool) → ◌≡◌ {A = Option Over} None (cond b None None)
    by_test true = refl
    by_test false = refl
over_of-without t u (o ∷ overs) = by_own (o.txn.0 == t) refl (over_of-without t u overs)
  where
    rest : List Over
    rest = filter (λ (over : Over). not (over.txn.0 == t)) overs

    other : (o.txn.0 == t) ≡ true → (t == u) ≡ false → (o.txn.0 == u) ≡ false
    other e not_same = ap (λ n. n == u) (number_is o.txn.0 t e) ∙ not_same

    by_own : (b : Bool) → (o.txn.0 == t) ≡ b → over_of u rest ≡ cond (t == u) None (over_of u overs) → over_of u (cond (not b) (o ∷ rest) rest) ≡ cond (t == u) None (cond (o.txn.0 == u) (Some o) (over_of u overs))
    by_own true e more = more ∙ by_test (t == u) refl
      where
        by_test : (c : Bool) → (t == u) ≡ c → cond c None (over_of u overs) ≡ cond c None (cond (o.txn.0 == u) (Some o) (over_of u overs))
        by_test true same = refl
        by_test false same = sym (ap (λ c. cond c (Some o) (over_of u overs)) (other e same))
    by_own false e more = ap (λ (x : Option Over). cond (o.txn.0 == u) (Some o) x) more ∙ by_test (t == u) (o.txn.0 == u) refl refl
      where
        by_test : (c d : Bool) → (t == u) ≡ c → (o.txn.0 == u) ≡ d → cond d (Some o) (cond c None (over_of u overs)) ≡ cond c None (cond d (Some o) (over_of u overs))
        by_test true true same own = absurd (clash (ap (λ n. o.txn.0 == n) (number_is t u same) ∙ own))
          where
            clash : (o.txn.0 == t) ≡ true → ⊥
            clash z = absurd (cc)
        by_test true false same own = refl
        by_test false d same own = refl

-- one more, of a transaction of which nothing is kept
pub over_of-more : (u : ℕ) (overs : List Over) (o : Over) → ((o.txn.0 == u) ≡ true → over_of u overs ≡ None) → over_of u (overs ++ o ∷ []) ≡ cond (o.txn.0 == u) (Some o) (over_of u overs)
over_of-more u [] o none = refl
over_of-more u (p ∷ overs) o none = by_first (p.txn.0 == u) refl none (over_of-more u overs o)
  where
    by_own : (c : Bool) → (c ≡ true → ◌≡◌ {A = Option Over} (Some p) None) → ◌≡◌ {A = Option Over} (Some p) (cond c (Some o) (Some p))
    by_own true gone = let h = gone refl in absurd (cc)
    by_own false gone = refl

    by_first : (b : Bool) → (p.txn.0 == u) ≡ b → ((o.txn.0 == u) ≡ true → cond b (Some p) (over_of u overs) ≡ None) → (((o.txn.0 == u) ≡ true → over_of u overs ≡ None) → over_of u (overs ++ o ∷ []) ≡ cond (o.txn.0 == u) (Some o) (over_of u overs))
        → cond b (Some p) (over_of u (overs ++ o ∷ [])) ≡ cond (o.txn.0 == u) (Some o) (cond b (Some p) (over_of u overs))
    by_first true e gone more = by_own (o.txn.0 == u) gone
    by_first false e gone more = more gone

-- one in place of what was kept of its transaction
pub over_of-kept : (u : ℕ) (old left : List Over) (o : Over) → over_of u left ≡ cond (o.txn.0 == u) None (over_of u old) → over_of u (left ++ o ∷ []) ≡ cond (o.txn.0 == u) (Some o) (over_of u old)
over_of-kept u old left o without =
    over_of-more u left o (λ own. without ∙ ap (λ b. cond b None (over_of u old)) own) ∙ (ap (λ (x : Option Over). cond (o.txn.0 == u) (Some o) x) without ∙ by_test (o.txn.0 == u))
  where
    by_test : (b : Bool) → cond b (Some o) (cond b None (over_of u old)) ≡ cond b (Some o) (over_of u old)
    by_test true = refl
    by_test false = refl
