-- What is kept of a formed log is formed, with the point of the cut for its base.
use Rattle.std.proofs.Common.{◌≡◌, ◌⊎◌, inl, inr, ℕ, ◌+◌, ◌<◌, ◌≤◌, ◌==◌, nat_le, nat_lt, arith, Bool, true, false, cond, not, ◌&&◌, List, [], ◌∷◌, ◌++◌, filter, refl, sym, ap, ◌∙◌, subst, le_trans, lt_of_lt_of_le, lt_of_le_of_lt}
use Rattle.std.specs.Bool.{MatchBool}
use Rattle.sg_recovery.specs.Log.{Record, Numbered, Open, Top, Tally, said, tally, is_in, open_of, notes_of}
use Rattle.sg_recovery.specs.Log.Record.{Begin, Change, TopEnd, PhysComp, TopVoid, CompEnd, Save, Commit, End}
use Rattle.sg_recovery.specs.Laws.{Each}
use Rattle.sg_recovery.specs.Shows.{Pairs}
use Rattle.sg_recovery.specs.Chains.{txn_of, is_border, last_of, border_of, next_lsn, next_off, Follows, IsKnown, Behind, Formed, Sound}
use Rattle.sg_recovery.specs.TakeOff.{IsOwned, AreOwned, IsBefore, PrecedesSystem, GoesOnSystem, FollowsSystem, FormedSystem, IsOver, TakenSystem}
use Rattle.sg_recovery.specs.Formed.{IsUnfinished, OneAction, IsBetween, AreBetween, IsLog}
use Rattle.sg_recovery.proofs.Basic.{cond_true, cond_false, each_more, each_filter, filter_none, number_is, same_number, other_number, le_is, le_true, le_false, lt_is, lt_not, and_left, and_right}
use Rattle.sg_recovery.proofs.Running.{pairs_filter}
use Rattle.sg_recovery.proofs.Chaining.{sound}
use Rattle.sg_recovery.proofs.SystemTakeOff.{taken_system}
use Rattle.sg_kept.specs.Kept.{tally_from, IsParted, IsPoint}
use Rattle.sg_kept.proofs.Tallies.{filter_turn, in_from, in_each, own_from, opens_owned, kept_from, owned_front, owned_back}

never : true ≡ false → ⊥
never z = absurd (cc)

-- the system's open changes from the point on are the last ones of all
goes_kept : {C : Type 0} (base p b b' u : ℕ) (ds : List (Open C)) → base ≤ p → 0 < p → ((b' ≡ b) × (p ≤ b')) ⊎ ((b' ≡ 0) × (b < p)) → Each (λ d. b < d.lsn) ds → Pairs Behind ds → GoesOnSystem base b ds u → GoesOnSystem p b' (filter (λ d. nat_le p d.lsn) ds) u
goes_kept base p b b' u [] le some border over behind h = (zero border, before h.1)
  where
    before : IsBefore base u → IsBefore p u
    before (inl is) = inl is
    before (inr lt) = inr (lt_of_lt_of_le lt le)

    zero : ((b' ≡ b) × (p ≤ b')) ⊎ ((b' ≡ 0) × (b < p)) → b' ≡ 0
    zero (inl (e, z)) = e ∙ h.0
    zero (inr (e, z)) = e
goes_kept base p b b' u (d ∷ []) le some border over behind h = by_test (nat_le p d.lsn) refl
  where
    before : IsBefore base u → IsBefore p u
    before (inl is) = inl is
    before (inr lt) = inr (lt_of_lt_of_le lt le)

    either : (c : Bool) → MatchBool c (IsBefore base u) (u ≡ 0) → IsBefore p u
    either true z = before z
    either false z = inl z

    low : nat_le p d.lsn ≡ false → ((b' ≡ b) × (p ≤ b')) ⊎ ((b' ≡ 0) × (b < p)) → b' ≡ 0
    low e (inl (i, z)) = absurd (no (lt_false_of e))
      where
        lt_false_of : nat_le p d.lsn ≡ false → p ≤ d.lsn → ⊥
        lt_false_of w q = absurd (never (sym (le_true p d.lsn q) ∙ w))

        no : (p ≤ d.lsn → ⊥) → ⊥
        no f = f (let o = over.0 in omega (arith, i, z, o))
    low e (inr (i, z)) = i

    same : ((b' ≡ b) × (p ≤ b')) ⊎ ((b' ≡ 0) × (b < p)) → MatchBool (b' == 0) (IsBefore p u) (u ≡ 0)
    same (inl (i, z)) = subst (λ a. MatchBool a (IsBefore p u) (u ≡ 0)) (sym (other_number b' 0 (λ e. absurd (omega (arith, e, z, some)))))
        (whole (b == 0) refl h)
      where
        whole : (c : Bool) → (b == 0) ≡ c → MatchBool c (IsBefore base u) (u ≡ 0) → u ≡ 0
        whole true e w = absurd (zero (number_is b 0 e))
          where
            zero : b ≡ 0 → ⊥
            zero e = absurd (omega (arith, e, i, z, some))
        whole false e w = w
    same (inr (i, z)) = subst (λ a. MatchBool (a == 0) (IsBefore p u) (u ≡ 0)) (sym i) (either (b == 0) h)

    by_test : (c : Bool) → nat_le p d.lsn ≡ c → GoesOnSystem p b' (cond c (d ∷ []) []) u
    by_test true e = same border
    by_test false e = (low e border, either (b == 0) h)
goes_kept base p b b' u (d ∷ e ∷ ds) le some border over behind h = by_test (nat_le p d.lsn) (nat_le p e.lsn) refl refl
  where
    none : nat_le p e.lsn ≡ false → p ≤ e.lsn → ⊥
    none w q = absurd (never (sym (le_true p e.lsn q) ∙ w))

    under : nat_le p e.lsn ≡ false → e.lsn < p
    under w = by (nat_lt e.lsn p) refl
      where
        by : (c : Bool) → nat_lt e.lsn p ≡ c → e.lsn < p
        by true z = lt_is e.lsn p z
        by false z = absurd (none w (lt_not e.lsn p z))

    rest : e.lsn < p → filter (λ x. nat_le p x.lsn) ds ≡ []
    rest lt = filter_none (λ x. nat_le p x.lsn) ds (each_more (λ x. x.lsn < e.lsn) (λ x. nat_le p x.lsn ≡ false) ds (λ x z. le_false p x.lsn (omega (arith, z, lt))) (behind.1.0))

    low : e.lsn < p → ((b' ≡ b) × (p ≤ b')) ⊎ ((b' ≡ 0) × (b < p)) → b' ≡ 0
    low lt (inl (i, z)) = absurd (let o = over.1.0 in omega (arith, i, z, o, lt))
    low lt (inr (i, z)) = i

    at : e.lsn < p → IsBefore p u
    at lt = inr (let i : u ≡ e.lsn = h in omega (arith, i, lt))

    by_test : (a c : Bool) → nat_le p d.lsn ≡ a → nat_le p e.lsn ≡ c → GoesOnSystem p b' (cond a (d ∷ cond c (e ∷ filter (λ x. nat_le p x.lsn) ds) (filter (λ x. nat_le p x.lsn) ds)) (cond c (e ∷ filter (λ x. nat_le p x.lsn) ds) (filter (λ x. nat_le p x.lsn) ds))) u
    by_test true true x y = h
    by_test true false x y =
        subst (λ l. GoesOnSystem p b' (d ∷ l) u) (sym (rest (under y)))
        (subst (λ a. MatchBool (a == 0) (IsBefore p u) (u ≡ 0)) (sym (low (under y) border)) (at (under y)))
    by_test false true x y = absurd (never (sym (le_true p d.lsn (let q : p ≤ e.lsn = le_is p e.lsn y in let o : e.lsn < d.lsn = behind.0.0 in omega (arith, q, o))) ∙ x))
    by_test false false x y = subst (λ l. GoesOnSystem p b' l u) (sym (rest (under y))) (low (under y) border, at (under y))

open_from : {C : Type 0} (p : ℕ) (ds : List (Open C)) → open_of 0 (filter (λ d. nat_le p d.lsn) ds) ≡ filter (λ d. nat_le p d.lsn) (open_of 0 ds)
open_from p ds = filter_turn (λ d. d.transaction == 0) (λ d. nat_le p d.lsn) ds

module _ {C N : Type 0} where
  -- each record is of a transaction no greater than its number
  pub owner : (l : ℕ) (r : Record C N) → IsOwned l r → txn_of r ≤ l
  owner l (Begin t q) o = omega (arith, o)
  owner l (Change t q c) o = let o' : t < l = o in omega (arith, o')
  owner l (TopEnd t q u n) o = let o' : t < l = o in omega (arith, o')
  owner l (PhysComp t q u c) o = let o' : t < l = o in omega (arith, o')
  owner l (TopVoid t q u) o = let o' : t < l = o in omega (arith, o')
  owner l (CompEnd t q u) o = let o' : t < l = o in omega (arith, o')
  owner l (Save t q m) o = let o' : t < l = o in omega (arith, o')
  owner l (Commit t q) o = let o' : t < l = o in omega (arith, o')
  owner l (End t q) o = let o' : t < l = o in omega (arith, o')

  -- what is gone has no record of a transaction from the point on
  last_gone : (p t : ℕ) (gone : List (Numbered C N)) → p ≤ t → Each (λ r. r.lsn < p) gone → AreOwned gone → last_of t gone ≡ 0
  last_gone p t [] le low own = refl
  last_gone p t (r ∷ rs) le low own = cond_false (txn_of r.is == t) r.lsn (last_of t rs) (other_number (txn_of r.is) t (λ e. absurd (clash e (owner r.lsn r.is own.0) low.0))) ∙ last_gone p t rs le low.1 own.1
    where
      clash : txn_of r.is ≡ t → txn_of r.is ≤ r.lsn → r.lsn < p → ⊥
      clash e o lt = absurd (omega (arith, e, o, lt, le))

  border_gone : (p t : ℕ) (gone : List (Numbered C N)) → p ≤ t → Each (λ r. r.lsn < p) gone → AreOwned gone → border_of t gone ≡ 0
  border_gone p t [] le low own = refl
  border_gone p t (r ∷ rs) le low own =
      cond_false (txn_of r.is == t && is_border r.is) r.lsn (border_of t rs) (no (txn_of r.is == t) (is_border r.is) (other_number (txn_of r.is) t (λ e. absurd (clash e (owner r.lsn r.is own.0) low.0)))) ∙ border_gone p t rs le low.1 own.1
    where
      clash : txn_of r.is ≡ t → txn_of r.is ≤ r.lsn → r.lsn < p → ⊥
      clash e o lt = absurd (omega (arith, e, o, lt, le))

      no : (a b : Bool) → a ≡ false → (a && b) ≡ false
      no true b z = absurd (never z)
      no false b z = refl

  same_last : (t : ℕ) (kept gone : List (Numbered C N)) → last_of t gone ≡ 0 → last_of t (kept ++ gone) ≡ last_of t kept
  same_last t [] gone none = none
  same_last t (r ∷ rs) gone none = ap (λ a. cond (txn_of r.is == t) r.lsn a) (same_last t rs gone none)

  same_border : (t : ℕ) (kept gone : List (Numbered C N)) → border_of t gone ≡ 0 → border_of t (kept ++ gone) ≡ border_of t kept
  same_border t [] gone none = none
  same_border t (r ∷ rs) gone none = ap (λ a. cond (txn_of r.is == t && is_border r.is) r.lsn a) (same_border t rs gone none)

  -- A transaction's last record is among what is kept, and the same in the whole log; or none is, and that of the whole log is below the point
  pub last_either : (p t : ℕ) (kept gone : List (Numbered C N)) → 0 < p → Each (λ r. p ≤ r.lsn) kept → Each (λ r. r.lsn < p) gone →
      ((last_of t kept ≡ last_of t (kept ++ gone)) × (p ≤ last_of t kept)) ⊎ ((last_of t kept ≡ 0) × (border_of t kept ≡ 0) × (last_of t (kept ++ gone) < p))
  last_either p t [] gone some on low = inr (refl, refl, below gone low)
    where
      below : (rs : List (Numbered C N)) → Each (λ r. r.lsn < p) rs → last_of t rs < p
      below [] z = some
      below (r ∷ rs) z = by_test (txn_of r.is == t) (below rs z.1)
        where
          by_test : (b : Bool) → last_of t rs < p → cond b r.lsn (last_of t rs) < p
          by_test true w = z.0
          by_test false w = w
  last_either p t (r ∷ rs) gone some on low = by_test (txn_of r.is == t) (last_either p t rs gone some on.1 low)
    where
      by_test : (b : Bool) → ((last_of t rs ≡ last_of t (rs ++ gone)) × (p ≤ last_of t rs)) ⊎ ((last_of t rs ≡ 0) × (border_of t rs ≡ 0) × (last_of t (rs ++ gone) < p)) →
          ((cond b r.lsn (last_of t rs) ≡ cond b r.lsn (last_of t (rs ++ gone))) × (p ≤ cond b r.lsn (last_of t rs)))
          ⊎ ((cond b r.lsn (last_of t rs) ≡ 0) × (cond (b && is_border r.is) r.lsn (border_of t rs) ≡ 0) × (cond b r.lsn (last_of t (rs ++ gone)) < p))
      by_test true z = inl (refl, on.0)
      by_test false z = z

  pub border_either : (p t : ℕ) (kept gone : List (Numbered C N)) → 0 < p → Each (λ r. p ≤ r.lsn) kept → Each (λ r. r.lsn < p) gone →
      ((border_of t kept ≡ border_of t (kept ++ gone)) × (p ≤ border_of t kept)) ⊎ ((border_of t kept ≡ 0) × (border_of t (kept ++ gone) < p))
  border_either p t [] gone some on low = inr (refl, below gone low)
    where
      below : (rs : List (Numbered C N)) → Each (λ r. r.lsn < p) rs → border_of t rs < p
      below [] z = some
      below (r ∷ rs) z = by_test (txn_of r.is == t && is_border r.is) (below rs z.1)
        where
          by_test : (b : Bool) → border_of t rs < p → cond b r.lsn (border_of t rs) < p
          by_test true w = z.0
          by_test false w = w
  border_either p t (r ∷ rs) gone some on low = by_test (txn_of r.is == t && is_border r.is) (border_either p t rs gone some on.1 low)
    where
      by_test : (b : Bool) → ((border_of t rs ≡ border_of t (rs ++ gone)) × (p ≤ border_of t rs)) ⊎ ((border_of t rs ≡ 0) × (border_of t (rs ++ gone) < p)) →
          ((cond b r.lsn (border_of t rs) ≡ cond b r.lsn (border_of t (rs ++ gone))) × (p ≤ cond b r.lsn (border_of t rs))) ⊎ ((cond b r.lsn (border_of t rs) ≡ 0) × (cond b r.lsn (border_of t (rs ++ gone)) < p))
      by_test true z = inl (refl, on.0)
      by_test false z = z

  -- numbers rise
  next_kept : (p l : ℕ) (kept gone : List (Numbered C N)) → next_lsn (kept ++ gone) ≤ l → next_lsn kept ≤ l
  next_kept p l [] [] le = le
  next_kept p l [] (r ∷ rs) le = omega (arith, le)
  next_kept p l (r ∷ rs) gone le = le

  -- WHAT FOLLOWS in the whole log follows in what is kept of it
  follows_kept : (p l : ℕ) (kept gone : List (Numbered C N)) (r : Record C N) → Each (λ x. x.lsn < p) gone → AreOwned (kept ++ gone) → tally kept ≡ tally_from p (tally (kept ++ gone))
      → (IsKnown (tally (kept ++ gone)) r → Follows (kept ++ gone) l r) → IsKnown (tally kept) r → Follows kept l r
  follows_kept p l kept gone r low own says f = by_kind r f
    where
      k : Tally C N
      k = tally (kept ++ gone)

      high : (t : ℕ) → is_in t (tally kept).live ≡ true → p ≤ t
      high t z = in_each p t (tally kept).live (subst (λ (y : Tally C N). Each (λ u. p ≤ u) y.live) (sym says) (all_from (tally (kept ++ gone)).live)) z
        where
          all_from : (us : List ℕ) → Each (λ u. p ≤ u) (filter (λ u. nat_le p u) us)
          all_from [] = tt
          all_from (u ∷ us) = by_test (nat_le p u) refl (all_from us)
            where
              by_test : (b : Bool) → nat_le p u ≡ b → Each (λ u. p ≤ u) (filter (λ u. nat_le p u) us) → Each (λ u. p ≤ u) (cond b (u ∷ filter (λ u. nat_le p u) us) (filter (λ u. nat_le p u) us))
              by_test true e w = (le_is p u e, w)
              by_test false e w = w

      known : (t : ℕ) → is_in t (tally kept).live ≡ true → is_in t (tally (kept ++ gone)).live ≡ true
      known t z = sym (in_from p t (tally (kept ++ gone)).live (high t z)) ∙ (ap (λ (y : Tally C N). is_in t y.live) (sym says) ∙ z)

      last : (t : ℕ) → is_in t (tally kept).live ≡ true → last_of t (kept ++ gone) ≡ last_of t kept
      last t z = same_last t kept gone (last_gone p t gone (high t z) low (owned_back kept gone own))

      border : (t : ℕ) → is_in t (tally kept).live ≡ true → border_of t (kept ++ gone) ≡ border_of t kept
      border t z = same_border t kept gone (border_gone p t gone (high t z) low (owned_back kept gone own))

      opens : (t : ℕ) → is_in t (tally kept).live ≡ true → open_of t (tally kept).opened ≡ open_of t (tally (kept ++ gone)).opened
      opens t z = ap (λ (y : Tally C N). open_of t y.opened) says ∙ own_from p t (tally (kept ++ gone)).opened (high t z) (opens_owned (kept ++ gone) own)

      notes : (t : ℕ) → is_in t (tally kept).live ≡ true → notes_of t (tally kept).notes ≡ notes_of t (tally (kept ++ gone)).notes
      notes t z = ap (λ (y : Tally C N). notes_of t y.notes) says ∙ notes_from (tally (kept ++ gone)).notes
        where
          under : (a b : Bool) (n : Top C N) (xs ys : List (Top C N)) → (n.transaction == t) ≡ a → (a ≡ true → b ≡ true) → notes_of t xs ≡ ys → notes_of t (cond b (n ∷ xs) xs) ≡ cond a (n ∷ ys) ys
          under a true n xs ys e g h = ap (λ c. cond c (n ∷ notes_of t xs) (notes_of t xs)) e ∙ ap (λ l. cond a (n ∷ l) l) h
          under true false n xs ys e g h = absurd (never (sym (g refl)))
          under false false n xs ys e g h = h

          notes_from : (ns : List (Top C N)) → notes_of t (filter (λ n. nat_le p n.transaction) ns) ≡ notes_of t ns
          notes_from [] = refl
          notes_from (n ∷ ns) = under (n.transaction == t) (nat_le p n.transaction) n (filter (λ n. nat_le p n.transaction) ns) (notes_of t ns) refl
              (λ e. le_true p n.transaction (subst (λ a. p ≤ a) (sym (number_is n.transaction t e)) (high t z))) (notes_from ns)

      by_kind : (r : Record C N) → (IsKnown (tally (kept ++ gone)) r → Follows (kept ++ gone) l r) → IsKnown (tally kept) r → Follows kept l r
      by_kind (Begin t q) g z = g tt
      by_kind (Change t q c) g z = g (known t z) ∙ last t z
      by_kind (TopEnd t q u n) g z = let w = g (known t z) in (w.0 ∙ last t z, w.1 ∙ border t z)
      by_kind (PhysComp t q u c) g z = let w = g (known t z) in (w.0 ∙ last t z, (w.1.0, w.1.1, opens t z ∙ w.1.2, w.1.3 ∙ ap (λ a. next_off a w.1.1) (border t z)))
      by_kind (TopVoid t q u) g z = let w = g (known t z) in (w.0 ∙ last t z, opens t z ∙ w.1, w.2 ∙ border t z)
      by_kind (CompEnd t q u) g z = let w = g (known t z) in (w.0 ∙ last t z, (w.1.0, w.1.1, notes t z ∙ w.1.2, w.1.3))
      by_kind (Save t q m) g z = let w = g (known t z) in (w.0 ∙ last t z, opens t z ∙ w.1, w.2 ∙ border t z)
      by_kind (Commit t q) g z = let w = g (known t z) in (w.0 ∙ last t z, opens t z ∙ w.1)
      by_kind (End t q) g z = let w = g (known t z) in (w.0 ∙ last t z, opens t z ∙ w.1)

  pub formed_kept : (p : ℕ) (kept gone : List (Numbered C N)) → Each (λ r. p ≤ r.lsn) kept → Each (λ r. r.lsn < p) gone → AreOwned (kept ++ gone) → Formed (kept ++ gone) → Formed kept
  formed_kept p [] gone on low own f = tt
  formed_kept p (r ∷ rs) gone on low own f = (
    next_kept p r.lsn rs gone f.0,
    follows_kept p r.lsn rs gone r.is low own.1 (kept_from p rs gone on.1 low own.1) f.1,
    formed_kept p rs gone on.1 low own.1 f.2,
  )

  -- THE SYSTEM: where no record of it is kept, or none that ended an action, what it names may stand before the point
  precedes_kept : (base p previous : ℕ) (kept gone : List (Numbered C N)) → base ≤ p → 0 < p → Each (λ r. p ≤ r.lsn) kept → Each (λ r. r.lsn < p) gone → PrecedesSystem base (kept ++ gone) previous → PrecedesSystem p kept previous
  precedes_kept base p previous kept gone le some on low h = by_last (last_either p 0 kept gone some on low) (border_either p 0 kept gone some on low)
    where
      before : IsBefore base previous → IsBefore p previous
      before (inl is) = inl is
      before (inr lt) = inr (lt_of_lt_of_le lt le)

      L : ℕ
      L = last_of 0 (kept ++ gone)

      first : (b c : Bool) → last_of 0 (kept ++ gone) < p → MatchBool b (MatchBool c (IsBefore base previous) (previous ≡ 0)) (previous ≡ last_of 0 (kept ++ gone)) → IsBefore p previous
      first true true lt z = before z
      first true false lt z = inl z
      first false c lt z = inr (lt_of_le_of_lt (let e : previous ≡ last_of 0 (kept ++ gone) = z in omega (arith, e)) lt)

      -- none is kept
      none : last_of 0 kept ≡ 0 → border_of 0 kept ≡ 0 → IsBefore p previous → PrecedesSystem p kept previous
      none a b z = subst (λ y. MatchBool y (MatchBool (last_of 0 kept == 0) (IsBefore p previous) (previous ≡ 0)) (previous ≡ last_of 0 kept)) (sym (ap (λ y. y == border_of 0 kept) (a ∙ sym b) ∙ same_number (border_of 0 kept)))
          (subst (λ y. MatchBool (y == 0) (IsBefore p previous) (previous ≡ 0)) (sym a) z)

      over : (b c d : Bool) → (b ≡ true → last_of 0 kept ≡ border_of 0 kept) → (c ≡ true → last_of 0 (kept ++ gone) ≡ border_of 0 (kept ++ gone)) → (c ≡ false → last_of 0 (kept ++ gone) ≡ border_of 0 (kept ++ gone) → ⊥)
          → (b ≡ false → last_of 0 kept ≡ border_of 0 kept → ⊥) → last_of 0 kept ≡ last_of 0 (kept ++ gone) → p ≤ last_of 0 kept
          → ((border_of 0 kept ≡ border_of 0 (kept ++ gone)) × (p ≤ border_of 0 kept)) ⊎ ((border_of 0 kept ≡ 0) × (border_of 0 (kept ++ gone) < p))
          → (last_of 0 (kept ++ gone) == 0) ≡ d → MatchBool c (MatchBool d (IsBefore base previous) (previous ≡ 0)) (previous ≡ last_of 0 (kept ++ gone))
          → MatchBool b (MatchBool (last_of 0 kept == 0) (IsBefore p previous) (previous ≡ 0)) (previous ≡ last_of 0 kept)
      over true true true fb fc gc gb same high border is z = absurd (zero (number_is (last_of 0 (kept ++ gone)) 0 is))
        where
          zero : last_of 0 (kept ++ gone) ≡ 0 → ⊥
          zero e = absurd (omega (arith, e, same, high, some))
      over true true false fb fc gc gb same high border is z = subst (λ y. MatchBool y (IsBefore p previous) (previous ≡ 0)) (sym (ap (λ a. a == 0) same ∙ is)) z
      over true false d fb fc gc gb same high (inl (b, hb)) is z = absurd (gc refl (sym same ∙ (fb refl ∙ b)))
      over true false d fb fc gc gb same high (inr (b, lb)) is z = absurd (zero (fb refl ∙ b))
        where
          zero : last_of 0 kept ≡ 0 → ⊥
          zero e = absurd (omega (arith, e, high, some))
      over false true d fb fc gc gb same high (inl (b, hb)) is z = absurd (gb refl (same ∙ (fc refl ∙ sym b)))
      over false true d fb fc gc gb same high (inr (b, lb)) is z = absurd (clash (fc refl))
        where
          clash : last_of 0 (kept ++ gone) ≡ border_of 0 (kept ++ gone) → ⊥
          clash e = absurd (omega (arith, e, same, high, lb))
      over false false d fb fc gc gb same high border is z = z ∙ sym same

      by_last : ((last_of 0 kept ≡ last_of 0 (kept ++ gone)) × (p ≤ last_of 0 kept)) ⊎ ((last_of 0 kept ≡ 0) × (border_of 0 kept ≡ 0) × (last_of 0 (kept ++ gone) < p))
          → ((border_of 0 kept ≡ border_of 0 (kept ++ gone)) × (p ≤ border_of 0 kept)) ⊎ ((border_of 0 kept ≡ 0) × (border_of 0 (kept ++ gone) < p)) → PrecedesSystem p kept previous
      by_last (inr (a, b, lt)) y = none a b (first (last_of 0 (kept ++ gone) == border_of 0 (kept ++ gone)) (last_of 0 (kept ++ gone) == 0) lt h)
      by_last (inl (same, high)) y = over (last_of 0 kept == border_of 0 kept) (last_of 0 (kept ++ gone) == border_of 0 (kept ++ gone)) (last_of 0 (kept ++ gone) == 0)
          (number_is (last_of 0 kept) (border_of 0 kept)) (number_is (last_of 0 (kept ++ gone)) (border_of 0 (kept ++ gone)))
          (λ e i. absurd (never (sym (subst (λ a. (last_of 0 (kept ++ gone) == a) ≡ true) i (same_number (last_of 0 (kept ++ gone)))) ∙ e)))
          (λ e i. absurd (never (sym (subst (λ a. (last_of 0 kept == a) ≡ true) i (same_number (last_of 0 kept))) ∙ e)))
          same high y refl h

  -- the open changes of the system are behind its last border
  over_border : (rs : List (Numbered C N)) → Each (IsOver rs) (tally rs).opened → Each (λ d. border_of 0 rs < d.lsn) (open_of 0 (tally rs).opened)
  over_border rs h = each_kept_here (tally rs).opened h
    where
      each_kept_here : (ds : List (Open C)) → Each (IsOver rs) ds → Each (λ d. border_of 0 rs < d.lsn) (open_of 0 ds)
      each_kept_here [] z = tt
      each_kept_here (d ∷ ds) z = by_test (d.transaction == 0) refl (each_kept_here ds z.1)
        where
          by_test : (b : Bool) → (d.transaction == 0) ≡ b → Each (λ d. border_of 0 rs < d.lsn) (open_of 0 ds) → Each (λ d. border_of 0 rs < d.lsn) (cond b (d ∷ open_of 0 ds) (open_of 0 ds))
          by_test true e w = ((z.0 (number_is d.transaction 0 e)).0, w)
          by_test false e w = w

  follows_system : (base p : ℕ) (kept gone : List (Numbered C N)) (r : Record C N) → base ≤ p → 0 < p → Each (λ x. p ≤ x.lsn) kept → Each (λ x. x.lsn < p) gone → tally kept ≡ tally_from p (tally (kept ++ gone))
      → Each (IsOver (kept ++ gone)) (tally (kept ++ gone)).opened → Pairs Behind (tally (kept ++ gone)).opened → FollowsSystem base (kept ++ gone) r → FollowsSystem p kept r
  follows_system base p kept gone (Begin t q) le some on low says over behind h = h
  follows_system base p kept gone (Change t q c) le some on low says over behind h = precedes_kept base p q kept gone le some on low h
  follows_system base p kept gone (TopEnd t q u n) le some on low says over behind h = (precedes_kept base p q kept gone le some on low h.0, h.1)
  follows_system base p kept gone (PhysComp t q u c) le some on low says over behind h = (
    precedes_kept base p q kept gone le some on low h.0,
    subst (λ l. GoesOnSystem p (border_of 0 kept) l u) (sym (ap (λ (k : Tally C N). open_of 0 k.opened) says ∙ open_from p (tally (kept ++ gone)).opened))
        (goes_kept base p (border_of 0 (kept ++ gone)) (border_of 0 kept) u (open_of 0 (tally (kept ++ gone)).opened) le some (border_either p 0 kept gone some on low) (over_border (kept ++ gone) over)
        (pairs_filter Behind (λ d. d.transaction == 0) (tally (kept ++ gone)).opened behind) h.1),
  )
  follows_system base p kept gone (TopVoid t q u) le some on low says over behind h = (
    precedes_kept base p q kept gone le some on low h.0,
    ap (λ (k : Tally C N). open_of 0 k.opened) says ∙ (open_from p (tally (kept ++ gone)).opened ∙ ap (λ ds. filter (λ d. nat_le p d.lsn) ds) h.1),
    h.2,
  )
  follows_system base p kept gone (CompEnd t q u) le some on low says over behind h = h
  follows_system base p kept gone (Save t q m) le some on low says over behind h = h
  follows_system base p kept gone (Commit t q) le some on low says over behind h = h
  follows_system base p kept gone (End t q) le some on low says over behind h = h

  pub system_kept : (base p : ℕ) (kept gone : List (Numbered C N)) → base ≤ p → 0 < p → Each (λ x. p ≤ x.lsn) kept → Each (λ x. x.lsn < p) gone → Each (λ r. base ≤ r.lsn) (kept ++ gone) → AreOwned (kept ++ gone) → Formed (kept ++ gone) → FormedSystem base (kept ++ gone)
      → FormedSystem p kept
  system_kept base p [] gone le some on low above own f h = tt
  system_kept base p (r ∷ rs) gone le some on low above own f h = (
    λ own_one. follows_system base p rs gone r.is le some on.1 low (kept_from p rs gone on.1 low own.1) (taken_system base (rs ++ gone) above.1 f.2 own.1 h.1).over (sound (rs ++ gone) f.2).order (h.0 own_one),
    system_kept base p rs gone le some on.1 low above.1 own.1 f.2 h.1,
  )

  pub between_kept : (p : ℕ) (kept gone : List (Numbered C N)) → Each (λ x. p ≤ x.lsn) kept → Each (λ x. x.lsn < p) gone → AreOwned (kept ++ gone) → AreBetween (kept ++ gone) → AreBetween kept
  between_kept p [] gone on low own h = tt
  between_kept p (r ∷ rs) gone on low own h = (by_kind r.is (kept_from p rs gone on.1 low own.1) h.0, between_kept p rs gone on.1 low own.1 h.1)
    where
      none : (t : ℕ) → tally rs ≡ tally_from p (tally (rs ++ gone)) → open_of t (tally (rs ++ gone)).opened ≡ [] → open_of t (tally rs).opened ≡ []
      none t says e = ap (λ (k : Tally C N). open_of t k.opened) says ∙ (filter_turn (λ d. d.transaction == t) (λ d. nat_le p d.lsn) (tally (rs ++ gone)).opened ∙ ap (λ ds. filter (λ d. nat_le p d.lsn) ds) e)

      by_kind : (x : Record C N) → tally rs ≡ tally_from p (tally (rs ++ gone)) → IsBetween (rs ++ gone) x → IsBetween rs x
      by_kind (Begin t q) says e = e
      by_kind (Change t q c) says e = e
      by_kind (TopEnd t q u n) says e = e
      by_kind (PhysComp t q u c) says e = e
      by_kind (TopVoid t q u) says e = e
      by_kind (CompEnd t q u) says e = e
      by_kind (Save t q m) says e = none t says e
      by_kind (Commit t q) says e = none t says e
      by_kind (End t q) says e = none t says e

  -- an action without an end in what is kept has none in the whole log
  pub unfinished_kept : (p t : ℕ) (kept gone : List (Numbered C N)) → 0 < p → Each (λ x. p ≤ x.lsn) kept → Each (λ x. x.lsn < p) gone → IsUnfinished kept t → IsUnfinished (kept ++ gone) t
  unfinished_kept p t kept gone some on low un e = by (last_either p t kept gone some on low) (border_either p t kept gone some on low)
    where
      by : ((last_of t kept ≡ last_of t (kept ++ gone)) × (p ≤ last_of t kept)) ⊎ ((last_of t kept ≡ 0) × (border_of t kept ≡ 0) × (last_of t (kept ++ gone) < p))
          → ((border_of t kept ≡ border_of t (kept ++ gone)) × (p ≤ border_of t kept)) ⊎ ((border_of t kept ≡ 0) × (border_of t (kept ++ gone) < p)) → ⊥
      by (inr (a, b, lt)) y = un (a ∙ sym b)
      by (inl (same, high)) (inl (b, hb)) = un (same ∙ (e ∙ sym b))
      by (inl (same, high)) (inr (b, lb)) = absurd (omega (arith, e, same, high, lb))
