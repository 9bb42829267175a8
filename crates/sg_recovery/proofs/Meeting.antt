-- What the walk and the chains give a step of a running store.
use Rattle.std.proofs.Common.{◌≡◌, ℕ, ◌<◌, ◌≤◌, ◌==◌, nat_le, arith, Bool, true, false, cond, not, ◌&&◌, List, [], ◌∷◌, refl, sym, ap, ◌∙◌, subst, le_trans, le_of_eq, lt_of_le_of_lt}
use Rattle.sg_recovery.specs.Setting.{Setting}
use Rattle.sg_recovery.specs.Log.{Numbered, Top, tally, notes_of}
use Rattle.sg_recovery.specs.Laws.{Each}
use Rattle.sg_recovery.specs.Shows.{Entry, from_on, left}
use Rattle.sg_recovery.specs.Chains.{next_lsn, border_of, Formed, IsStanding, IsLast}
use Rattle.sg_recovery.proofs.Basic.{each_more, each_kept, number_is, same_number, le_true}
use Rattle.sg_recovery.proofs.Showing.{each_all}
use Rattle.sg_recovery.proofs.Chaining.{clash, sound}

-- the undo-next of a top-end: the transaction's standing notes are at or below it
pub does_chained : {C N : Type 0} (rs : List (Numbered C N)) → Formed rs → (t u : ℕ) → u ≡ border_of t rs → Each (λ m. m.transaction ≡ t → m.lsn ≤ u) (tally rs).notes × (u < next_lsn rs)
does_chained rs f t u is =
    let h = sound rs f in (
      each_more (λ m. IsStanding (tally rs).live (border_of m.transaction rs) m.transaction m.lsn m.undo_next) (λ m. m.transaction ≡ t → m.lsn ≤ u) (tally rs).notes
          (λ m z e. le_trans z.within (le_of_eq (ap (λ a. border_of a rs) e ∙ sym is))) h.notes,
      lt_of_le_of_lt (le_of_eq is) (h.borders t),
    )

pub last_of_own : {C N : Type 0} (ns : List (Top C N)) (t : ℕ) (n : Top C N) (own : List (Top C N)) → notes_of t ns ≡ n ∷ own → IsLast ns t n
last_of_own [] t n own e = absurd (cc)
last_of_own {C = C} {N = N} (a ∷ ns) t n own e = by_test (a.transaction == t) refl e (last_of_own ns t n own)
  where
    by_test : (b : Bool) → (a.transaction == t) ≡ b → cond b (a ∷ notes_of t ns) (notes_of t ns) ≡ n ∷ own → (notes_of t ns ≡ n ∷ own → IsLast ns t n) → IsLast (a ∷ ns) t n
    by_test true i z g =
        let is : a ≡ n = cc in
        record { later = []; rest = ns; all = ap (λ m. m ∷ ns) is; own = subst (λ m. m.transaction ≡ t) is (number_is a.transaction t i); others = tt }
    by_test false i z g =
        let k = g z in
        record { later = a ∷ k.later; rest = k.rest; all = ap (λ l. a ∷ l) k.all; own = k.own; others = ((λ same. clash (a.transaction == t) i (subst (λ u. (a.transaction == u) ≡ true) same (same_number a.transaction))), k.others) }

-- a transaction that is undone from its begin on has no entries left
pub nobody_left : (s : Setting) (t : ℕ) (h : List (Entry s.V)) → Each (λ e. e.transaction ≡ t → ⊥) (left (from_on t 0) h)
nobody_left s t h =
    each_kept (λ e. Unit {0}) (λ e. e.transaction ≡ t → ⊥) (λ e. not (from_on t 0 e.transaction e.at)) h
    (λ e z k is. never e.at (e.transaction == t) (subst (λ u. (e.transaction == u) ≡ true) is (same_number e.transaction)) k) (each_all (λ e. Unit {0}) h (λ e. tt))
  where
    zero_le : (a : ℕ) → nat_le 0 a ≡ true
    zero_le a = le_true 0 a (omega arith)

    never : (a : ℕ) (b : Bool) → b ≡ true → not (b && nat_le 0 a) ≡ true → ⊥
    never a true e k = false_true (not (nat_le 0 a)) (ap not (zero_le a)) k
      where
        false_true : (c : Bool) → c ≡ false → c ≡ true → ⊥
        false_true c x y = absurd (cc)
    never a false e k = absurd (cc)
