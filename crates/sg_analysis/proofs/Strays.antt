-- Which actions may be without an end, by those that are kept.
use Rattle.std.proofs.Common.{◌≡◌, ◌⊎◌, inl, inr, ℕ, ◌<◌, ◌==◌, ◌&&◌, ◌||◌, arith, Bool, true, false, cond, not, List, [], ◌∷◌, ◌++◌, filter, Some, None, refl, sym, ap, ◌∙◌, subst, lt_of_lt_of_le}
use Rattle.std.specs.Prelude.{slice_get}
use Rattle.sg_recovery.specs.Log.{tally, is_in}
use Rattle.sg_recovery.specs.Laws.{Each}
use Rattle.sg_recovery.specs.Shows.{Pairs}
use Rattle.sg_recovery.specs.Chains.{txn_of, is_border, last_of, border_of, Formed}
use Rattle.sg_recovery.specs.Formed.{IsUnfinished, OneAction}
use Rattle.sg_recovery.proofs.Basic.{each_append, number_is, same_number, or_left, or_right, or_cases}
use Rattle.sg_recovery.proofs.Chaining.{clash, sound}
use Rattle.sg_recovery.proofs.Running.{pairs_filter}
use Rattle.sg_analysis.specs.Sights.{Steps}
use Rattle.sg_analysis.specs.Unended.{Start, start, has_start, starts_behind, starts, may_act, stray_among, stray}

-- what has one
has_append : (t : ℕ) (xs ys : List Start) → has_start t (xs ++ ys) ≡ (has_start t xs || has_start t ys)
has_append t [] ys = refl
has_append t (a ∷ xs) ys = ap (λ b. a.transaction == t || b) (has_append t xs ys) ∙ assoc (a.transaction == t) (has_start t xs) (has_start t ys)
  where
    assoc : (a b c : Bool) → (a || (b || c)) ≡ ((a || b) || c)
    assoc true b c = refl
    assoc false b c = refl

-- without those of another, and of its own
has_without : (t u : ℕ) (xs : List Start) → has_start t (filter (λ a. not (a.transaction == u)) xs) ≡ (has_start t xs && not (u == t))
has_without t u [] = refl
has_without t u (a ∷ xs) = by_test (a.transaction == u) refl (has_without t u xs)
  where
    by_test : (b : Bool) → (a.transaction == u) ≡ b → has_start t (filter (λ a. not (a.transaction == u)) xs) ≡ (has_start t xs && not (u == t))
        → has_start t (cond (not b) (a ∷ filter (λ a. not (a.transaction == u)) xs) (filter (λ a. not (a.transaction == u)) xs)) ≡ ((a.transaction == t || has_start t xs) && not (u == t))
    by_test true e more = more ∙ (by_same (u == t) (has_start t xs) ∙ ap (λ n. (n == t || has_start t xs) && not (u == t)) (sym (number_is a.transaction u e)))
      where
        by_same : (b c : Bool) → (c && not b) ≡ ((b || c) && not b)
        by_same true true = refl
        by_same true false = refl
        by_same false c = refl
    by_test false e more = ap (λ b. a.transaction == t || b) more ∙ by_same (a.transaction == t) (u == t) (has_start t xs) (λ x y. clash (a.transaction == u) e (ap (λ n. a.transaction == n) (number_is u t y) ∙ x))
      where
        by_same : (b c d : Bool) → (b ≡ true → c ≡ true → ⊥) → (b || (d && not c)) ≡ ((b || d) && not c)
        by_same true true d never = absurd (never refl refl)
        by_same true false d never = refl
        by_same false c d never = refl

-- Of another transaction the step leaves it, and its own is gone or there.
has_behind : (t u lsn : ℕ) (ends : Bool) (xs : List Start) → has_start t (starts_behind u lsn ends xs) ≡ cond (u == t) (not ends) (has_start t xs)
has_behind t u lsn true xs = has_without t u xs ∙ by_test (u == t) (has_start t xs)
  where
    by_test : (b c : Bool) → (c && not b) ≡ cond b false c
    by_test true true = refl
    by_test true false = refl
    by_test false true = refl
    by_test false false = refl
has_behind t u lsn false xs = by_has (has_start u xs) refl
  where
    by_has : (b : Bool) → has_start u xs ≡ b → has_start t (cond b xs (xs ++ start u lsn ∷ [])) ≡ cond (u == t) true (has_start t xs)
    by_has true e = by_test (u == t) refl
      where
        by_test : (c : Bool) → (u == t) ≡ c → has_start t xs ≡ cond c true (has_start t xs)
        by_test true is = ap (λ n. has_start n xs) (sym (number_is u t is)) ∙ e
        by_test false is = refl
    by_has false e = has_append t xs (start u lsn ∷ []) ∙ by_test (u == t) (has_start t xs)
      where
        by_test : (b c : Bool) → (c || (b || false)) ≡ cond b true c
        by_test true true = refl
        by_test true false = refl
        by_test false true = refl
        by_test false false = refl

-- an action without an end is among them
unended_in : (rs : Steps) (t : ℕ) → IsUnfinished rs t → has_start t (starts rs) ≡ true
unended_in [] t un = absurd (un refl)
unended_in (r ∷ rs) t un = has_behind t (txn_of r.is) r.lsn (is_border r.is) (starts rs) ∙ by_own (txn_of r.is == t) (is_border r.is) un (unended_in rs t)
  where
    by_own : (a b : Bool) → (cond a r.lsn (last_of t rs) ≡ cond (a && b) r.lsn (border_of t rs) → ⊥) → (IsUnfinished rs t → has_start t (starts rs) ≡ true) → cond a (not b) (has_start t (starts rs)) ≡ true
    by_own true true un more = absurd (un refl)
    by_own true false un more = refl
    by_own false b un more = more un

-- where none is stray at most one action has no end, and it may
pub one_action : (rs : Steps) → stray rs ≡ None → OneAction rs
one_action rs none = by_starts (starts rs) (unended_in rs) none
  where
    by_starts : (xs : List Start) → ((t : ℕ) → IsUnfinished rs t → has_start t xs ≡ true) → stray_among (tally rs).live xs ≡ None → OneAction rs
    by_starts [] has e = record { one = λ t u a b. absurd (clash false refl (has t a)); whose = λ t a. absurd (clash false refl (has t a)) }
    by_starts (a ∷ more) has e = by_may (may_act (tally rs).live a.transaction) refl e
      where
        alone : (xs : List Start) → slice_get xs 0 ≡ None → (t : ℕ) → (a.transaction == t || has_start t xs) ≡ true → a.transaction ≡ t
        alone [] e t h = number_is a.transaction t (or_cases (a.transaction == t) false ((a.transaction == t) ≡ true) h (λ z. z) (λ z. absurd (clash false refl z)))
        alone (b ∷ xs) e t h = absurd (cc)

        by_may : (b : Bool) → may_act (tally rs).live a.transaction ≡ b → cond b (slice_get more 0) (Some a) ≡ None → OneAction rs
        by_may true may e = record { one = λ t u x y. sym (alone more e t (has t x)) ∙ alone more e u (has u y); whose = λ t x. subst (λ n. (n ≡ 0) ⊎ (is_in n (tally rs).live ≡ true)) (alone more e t (has t x)) either }
          where
            either : (a.transaction ≡ 0) ⊎ (is_in a.transaction (tally rs).live ≡ true)
            either = or_cases (a.transaction == 0) (is_in a.transaction (tally rs).live) ((a.transaction ≡ 0) ⊎ (is_in a.transaction (tally rs).live ≡ true)) may (λ z. inl (number_is a.transaction 0 z)) (λ z. inr z)
        by_may false may e = absurd (cc)

-- of a formed log each of them is without an end
in_unended : (rs : Steps) → Formed rs → (t : ℕ) → has_start t (starts rs) ≡ true → IsUnfinished rs t
in_unended [] f t h = absurd (clash false refl h)
in_unended (r ∷ rs) f t h = by_own (txn_of r.is == t) (is_border r.is) (sym (has_behind t (txn_of r.is) r.lsn (is_border r.is) (starts rs)) ∙ h) (in_unended rs f.2 t) (lt_of_lt_of_le ((sound rs f.2).borders t) f.0)
  where
    by_own : (a b : Bool) → cond a (not b) (has_start t (starts rs)) ≡ true → (has_start t (starts rs) ≡ true → IsUnfinished rs t) → border_of t rs < r.lsn → cond a r.lsn (last_of t rs) ≡ cond (a && b) r.lsn (border_of t rs) → ⊥
    by_own true true h more low e = clash false refl h
    by_own true false h more low e = absurd (omega (arith, low, e))
    by_own false b h more low e = more h e

each_start : (P : ℕ → Type 0) (xs : List Start) → ((t : ℕ) → has_start t xs ≡ true → P t) → Each (λ a. P a.transaction) xs
each_start P [] h = tt
each_start P (a ∷ xs) h = (h a.transaction (or_left (a.transaction == a.transaction) (has_start a.transaction xs) (same_number a.transaction)), each_start P xs (λ t e. h t (or_right (a.transaction == t) (has_start t xs) e)))

-- they are of different transactions
abbrev Differ : Start → Start → Type 0
Differ a b = a.transaction ≡ b.transaction → ⊥

pairs_last : (xs : List Start) (b : Start) → Pairs Differ xs → Each (λ a. Differ a b) xs → Pairs Differ (xs ++ b ∷ [])
pairs_last [] b h k = (tt, tt)
pairs_last (a ∷ xs) b h k = (each_append (Differ a) xs (b ∷ []) h.0 (k.0, tt), pairs_last xs b h.1 k.1)

starts_differ : (rs : Steps) → Pairs Differ (starts rs)
starts_differ [] = tt
starts_differ (r ∷ rs) = by_end (is_border r.is) (starts_differ rs)
  where
    by_end : (b : Bool) → Pairs Differ (starts rs) → Pairs Differ (starts_behind (txn_of r.is) r.lsn b (starts rs))
    by_end true h = pairs_filter Differ (λ a. not (a.transaction == txn_of r.is)) (starts rs) h
    by_end false h = by_has (has_start (txn_of r.is) (starts rs)) refl
      where
        by_has : (b : Bool) → has_start (txn_of r.is) (starts rs) ≡ b → Pairs Differ (cond b (starts rs) (starts rs ++ start (txn_of r.is) r.lsn ∷ []))
        by_has true e = h
        by_has false e = pairs_last (starts rs) (start (txn_of r.is) r.lsn) h (each_start (λ t. t ≡ txn_of r.is → ⊥) (starts rs) (λ t has is. clash (has_start (txn_of r.is) (starts rs)) e (subst (λ n. has_start n (starts rs) ≡ true) is has)))

-- no action of a formed log is stray
pub no_stray : (rs : Steps) → Formed rs → OneAction rs → stray rs ≡ None
no_stray rs f one = by_starts (starts rs) (each_start (IsUnfinished rs) (starts rs) (in_unended rs f)) (starts_differ rs)
  where
    may : (t : ℕ) → (t ≡ 0) ⊎ (is_in t (tally rs).live ≡ true) → may_act (tally rs).live t ≡ true
    may t (inl zero) = or_left (t == 0) (is_in t (tally rs).live) (ap (λ n. n == 0) zero)
    may t (inr live) = or_right (t == 0) (is_in t (tally rs).live) live

    by_starts : (xs : List Start) → Each (λ a. IsUnfinished rs a.transaction) xs → Pairs Differ xs → stray_among (tally rs).live xs ≡ None
    by_starts [] un differ = refl
    by_starts (a ∷ []) un differ = ap (λ b. cond b None (Some a)) (may a.transaction (one.whose a.transaction un.0))
    by_starts (a ∷ b ∷ xs) un differ = absurd (differ.0.0 (one.one a.transaction b.transaction un.0 un.1.0))
