-- How actions and transactions end in what is kept of a log.
use Rattle.std.proofs.Common.{◌≡◌, ◌⊎◌, inl, inr, ⊎_elim, ℕ, ◌<◌, ◌≤◌, ◌==◌, nat_le, nat_lt, arith, Bool, true, false, cond, not, ◌&&◌, ◌||◌, List, [], ◌∷◌, ◌++◌, Option, Some, None, filter, refl, sym, ap, ◌∙◌, subst}
use Rattle.sg_recovery.specs.Log.{Record, Numbered, Open, Tally, tally, is_in, open_of}
use Rattle.sg_recovery.specs.Log.Record.{Begin, Change, TopEnd, PhysComp, TopVoid, CompEnd, Save, Commit, End}
use Rattle.sg_recovery.specs.Laws.{Each}
use Rattle.sg_recovery.specs.Shows.{Pairs}
use Rattle.sg_recovery.specs.Chains.{txn_of, previous_of, last_of, border_of, next_off, Follows, IsKnown, Behind, Formed}
use Rattle.sg_recovery.specs.TakeOff.{AreOwned}
use Rattle.sg_recovery.specs.Ending.{newest, is_end, EndsWell, AllEndWell, IsOlder, MayBeBehind, OverBy, IsOver, AllOver}
use Rattle.sg_recovery.specs.Formed.{IsStraight, AreStraight}
use Rattle.sg_recovery.proofs.Basic.{each_more, filter_none, number_is, same_number, other_number, le_is, le_true, le_false, lt_is, lt_not}
use Rattle.sg_recovery.proofs.Running.{pairs_filter}
use Rattle.sg_recovery.proofs.Chaining.{sound}
use Rattle.sg_kept.specs.Kept.{tally_from}
use Rattle.sg_kept.proofs.Tallies.{filter_turn, in_from, in_below, kept_from, owned_back}
use Rattle.sg_kept.proofs.Formed.{last_either, border_either, owner}

clash : {P : Type 0} (b : Bool) → b ≡ true → b ≡ false → P
clash b t f = absurd cc

some_is : {A : Type 0} (x y : A) → ◌≡◌ {A = Option A} (Some x) (Some y) → x ≡ y
some_is x y e = cc

none_some : {A P : Type 0} (x : A) → ◌≡◌ {A = Option A} None (Some x) → P
none_some x e = absurd cc

-- a number is at the point or behind it, or below it
low_or : (p n : ℕ) → (p ≤ n) ⊎ (n < p)
low_or p n = by (nat_le p n) refl
  where
    under : nat_le p n ≡ false → (b : Bool) → nat_lt n p ≡ b → n < p
    under e true is = lt_is n p is
    under e false is = clash (nat_le p n) (le_true p n (lt_not n p is)) e

    by : (b : Bool) → nat_le p n ≡ b → (p ≤ n) ⊎ (n < p)
    by true e = inl (le_is p n e)
    by false e = inr (under e (nat_lt n p) refl)

-- of what passes a test nothing is there that wasn't
in_filter : (f : ℕ → Bool) (t : ℕ) (us : List ℕ) → is_in t us ≡ false → is_in t (filter f us) ≡ false
in_filter f t [] none = refl
in_filter f t (u ∷ us) none = by (u == t) (is_in t us) (f u) refl refl none (λ i. in_filter f t us i)
  where
    here : (b : Bool) → is_in t (filter f us) ≡ false → (u == t) ≡ false → is_in t (cond b (u ∷ filter f us) (filter f us)) ≡ false
    here true rest e = ap (λ (c : Bool). c || is_in t (filter f us)) e ∙ rest
    here false rest e = rest

    by : (a b c : Bool) → (u == t) ≡ a → is_in t us ≡ b → (a || b) ≡ false → (is_in t us ≡ false → is_in t (filter f us) ≡ false) → is_in t (cond c (u ∷ filter f us) (filter f us)) ≡ false
    by true b c e i h more = clash true refl h
    by false true c e i h more = clash true refl h
    by false false c e i h more = here c (more i) e

-- nor is what the test refuses
not_in : (f : ℕ → Bool) (t : ℕ) (us : List ℕ) → f t ≡ false → is_in t (filter f us) ≡ false
not_in f t [] out = refl
not_in f t (u ∷ us) out = by (u == t) (f u) refl refl (not_in f t us out)
  where
    by : (a c : Bool) → (u == t) ≡ a → f u ≡ c → is_in t (filter f us) ≡ false → is_in t (cond c (u ∷ filter f us) (filter f us)) ≡ false
    by a false e i more = more
    by true true e i more = clash (f t) (subst (λ (n : ℕ). f n ≡ true) (number_is u t e) i) out
    by false true e i more = ap (λ (b : Bool). b || is_in t (filter f us)) e ∙ more

-- where a transaction's last record stands by its open changes and its last border, it stands so in what is kept
next_kept : {C : Type 0} (p L B l b : ℕ) (os : List (Open C)) → ((l ≡ L) × (p ≤ l)) ⊎ ((l ≡ 0) × (b ≡ 0) × (L < p)) → ((b ≡ B) × (p ≤ b)) ⊎ ((b ≡ 0) × (B < p)) → Pairs Behind os → L ≡ next_off B os
    → l ≡ next_off b (filter (λ d. nat_le p d.lsn) os)
next_kept p L B l b [] (inl (same, high)) (inl (border, above)) order e = same ∙ (e ∙ sym border)
next_kept p L B l b [] (inl (same, high)) (inr (border, under)) order e = absurd (omega (arith, same, high, under, e))
next_kept p L B l b [] (inr (none, zero, low)) border order e = none ∙ sym zero
next_kept p L B l b (d ∷ ds) last border order e = by (nat_le p d.lsn) refl last
  where
    none : d.lsn < p → filter (λ x. nat_le p x.lsn) ds ≡ []
    none lt = filter_none (λ x. nat_le p x.lsn) ds (each_more (λ x. x.lsn < d.lsn) (λ x. nat_le p x.lsn ≡ false) ds (λ x z. le_false p x.lsn (omega (arith, z, lt))) order.0)

    gone : d.lsn < p → ((l ≡ L) × (p ≤ l)) ⊎ ((l ≡ 0) × (b ≡ 0) × (L < p)) → l ≡ next_off b (filter (λ x. nat_le p x.lsn) ds)
    gone lt (inl (same, high)) = absurd (omega (arith, same, high, lt, e))
    gone lt (inr (zero, at, low)) = zero ∙ (sym at ∙ sym (ap (next_off b) (none lt)))

    under : nat_le p d.lsn ≡ false → (p ≤ d.lsn) ⊎ (d.lsn < p) → d.lsn < p
    under f (inl le) = clash (nat_le p d.lsn) (le_true p d.lsn le) f
    under f (inr lt) = lt

    by : (c : Bool) → nat_le p d.lsn ≡ c → ((l ≡ L) × (p ≤ l)) ⊎ ((l ≡ 0) × (b ≡ 0) × (L < p)) → l ≡ next_off b (cond c (d ∷ filter (λ x. nat_le p x.lsn) ds) (filter (λ x. nat_le p x.lsn) ds))
    by true is (inl (same, high)) = same ∙ e
    by true is (inr (zero, at, low)) = absurd (let le = le_is p d.lsn is in omega (arith, le, e, low))
    by false is h = gone (under is (low_or p d.lsn)) h

module _ {C N : Type 0} where
  -- THE NEWEST RECORD of a transaction in what is kept is the newest of all
  newest_front : (t : ℕ) (kept gone : List (Numbered C N)) (x : Record C N) → newest t kept ≡ Some x → newest t (kept ++ gone) ≡ Some x
  newest_front t [] gone x e = none_some x e
  newest_front t (r ∷ rs) gone x e = by (txn_of r.is == t) e (λ h. newest_front t rs gone x h)
    where
      by : (b : Bool) → cond b (Some r.is) (newest t rs) ≡ Some x → (newest t rs ≡ Some x → newest t (rs ++ gone) ≡ Some x) → cond b (Some r.is) (newest t (rs ++ gone)) ≡ Some x
      by true h more = h
      by false h more = more h

  newest_back : (t : ℕ) (kept gone : List (Numbered C N)) → newest t kept ≡ None → newest t (kept ++ gone) ≡ newest t gone
  newest_back t [] gone e = refl
  newest_back t (r ∷ rs) gone e = by (txn_of r.is == t) e (λ h. newest_back t rs gone h)
    where
      by : (b : Bool) → cond b (Some r.is) (newest t rs) ≡ None → (newest t rs ≡ None → newest t (rs ++ gone) ≡ newest t gone) → cond b (Some r.is) (newest t (rs ++ gone)) ≡ newest t gone
      by true h more = none_some r.is (sym h)
      by false h more = more h

  -- where there is one, it is the last
  last_some : (p t : ℕ) (kept : List (Numbered C N)) (x : Record C N) → Each (λ r. p ≤ r.lsn) kept → newest t kept ≡ Some x → p ≤ last_of t kept
  last_some p t [] x on e = none_some x e
  last_some p t (r ∷ rs) x on e = by (txn_of r.is == t) e (λ h. last_some p t rs x on.1 h)
    where
      by : (b : Bool) → cond b (Some r.is) (newest t rs) ≡ Some x → (newest t rs ≡ Some x → p ≤ last_of t rs) → p ≤ cond b r.lsn (last_of t rs)
      by true h more = on.0
      by false h more = more h

  last_none : (t : ℕ) (kept : List (Numbered C N)) → newest t kept ≡ None → last_of t kept ≡ 0
  last_none t [] e = refl
  last_none t (r ∷ rs) e = by (txn_of r.is == t) e (λ h. last_none t rs h)
    where
      by : (b : Bool) → cond b (Some r.is) (newest t rs) ≡ None → (newest t rs ≡ None → last_of t rs ≡ 0) → cond b r.lsn (last_of t rs) ≡ 0
      by true h more = none_some r.is (sym h)
      by false h more = more h

  -- a transaction of which what is gone has a record began below the point
  newest_low : (p t : ℕ) (gone : List (Numbered C N)) (x : Record C N) → Each (λ r. r.lsn < p) gone → AreOwned gone → newest t gone ≡ Some x → t < p
  newest_low p t [] x low own e = none_some x e
  newest_low p t (r ∷ rs) x low own e = by (txn_of r.is == t) refl e (λ h. newest_low p t rs x low.1 own.1 h)
    where
      by : (b : Bool) → (txn_of r.is == t) ≡ b → cond b (Some r.is) (newest t rs) ≡ Some x → (newest t rs ≡ Some x → t < p) → t < p
      by true is h more = let o = owner r.lsn r.is own.0 in let same = number_is (txn_of r.is) t is in let lt = low.0 in omega (arith, o, same, lt)
      by false is h more = more h

  -- it has committed, or ended
  over : Record C N → Bool
  over (Begin t q) = false
  over (Change t q c) = false
  over (TopEnd t q u n) = false
  over (PhysComp t q u c) = false
  over (TopVoid t q u) = false
  over (CompEnd t q u) = false
  over (Save t q m) = false
  over (Commit t q) = true
  over (End t q) = true

  -- whose newest record is a commit or an end doesn't go on
  over_not_live : (t : ℕ) (rs : List (Numbered C N)) (x : Record C N) → newest t rs ≡ Some x → over x ≡ true → is_in t (tally rs).live ≡ false
  unfolding over
  over_not_live t [] x e o = none_some x e
  over_not_live t (r ∷ rs) x e o = by (txn_of r.is == t) refl e (λ h. over_not_live t rs x h o)
    where
      gone : (u : ℕ) → (u == t) ≡ true → is_in t (filter (λ (other : ℕ). not (other == u)) (tally rs).live) ≡ false
      gone u is = not_in (λ (other : ℕ). not (other == u)) t (tally rs).live (subst (λ (n : ℕ). not (t == n) ≡ false) (sym (number_is u t is)) (ap not (same_number t)))

      ends : (l : ℕ) (y : Record C N) → (txn_of y == t) ≡ true → over y ≡ true → is_in t (tally (record { lsn = l; is = y } ∷ rs)).live ≡ false
      ends l (Begin u q) is o = clash true refl (sym o)
      ends l (Change u q c) is o = clash true refl (sym o)
      ends l (TopEnd u q v n) is o = clash true refl (sym o)
      ends l (PhysComp u q v c) is o = clash true refl (sym o)
      ends l (TopVoid u q v) is o = clash true refl (sym o)
      ends l (CompEnd u q v) is o = clash true refl (sym o)
      ends l (Save u q m) is o = clash true refl (sym o)
      ends l (Commit u q) is o = gone u is
      ends l (End u q) is o = gone u is

      other : (l : ℕ) (y : Record C N) → (txn_of y == t) ≡ false → is_in t (tally rs).live ≡ false → is_in t (tally (record { lsn = l; is = y } ∷ rs)).live ≡ false
      other l (Begin u q) is h = ap (λ (b : Bool). b || is_in t (tally rs).live) is ∙ h
      other l (Change u q c) is h = h
      other l (TopEnd u q v n) is h = h
      other l (PhysComp u q v c) is h = h
      other l (TopVoid u q v) is h = h
      other l (CompEnd u q v) is h = h
      other l (Save u q m) is h = h
      other l (Commit u q) is h = in_filter (λ (o : ℕ). not (o == u)) t (tally rs).live h
      other l (End u q) is h = in_filter (λ (o : ℕ). not (o == u)) t (tally rs).live h

      by : (b : Bool) → (txn_of r.is == t) ≡ b → cond b (Some r.is) (newest t rs) ≡ Some x → (newest t rs ≡ Some x → is_in t (tally rs).live ≡ false) → is_in t (tally (r ∷ rs)).live ≡ false
      by true is h more = ends r.lsn r.is is (ap over (some_is r.is x h) ∙ o)
      by false is h more = other r.lsn r.is is (more h)

  -- a record that may be behind another may be so where the log begins later
  older_later : (base p l : ℕ) (x : Record C N) → base ≤ p → IsOlder base l x → IsOlder p l x
  older_later base p l x le h = (let lt = h.0 in omega (arith, lt, le), h.1)

  behind_later : (base p l : ℕ) (x y : Record C N) → base ≤ p → MayBeBehind base l x (Some y) → MayBeBehind p l x (Some y)
  behind_later base p l x (Begin t q) le h = older_later base p l x le h
  behind_later base p l x (Change t q c) le h = older_later base p l x le h
  behind_later base p l x (TopEnd t q u n) le h = older_later base p l x le h
  behind_later base p l x (PhysComp t q u c) le h = older_later base p l x le h
  behind_later base p l x (TopVoid t q u) le h = older_later base p l x le h
  behind_later base p l x (CompEnd t q u) le h = older_later base p l x le h
  behind_later base p l x (Save t q m) le h = older_later base p l x le h
  behind_later base p l x (Commit t q) le h = h
  behind_later base p l x (End t q) le h = h

  -- one that follows that may be so, where the transaction began before
  behind_older : (p l : ℕ) (x y : Record C N) → over y ≡ false → IsOlder p l x → MayBeBehind p l x (Some y)
  unfolding over
  behind_older p l x (Begin t q) o h = h
  behind_older p l x (Change t q c) o h = h
  behind_older p l x (TopEnd t q u n) o h = h
  behind_older p l x (PhysComp t q u c) o h = h
  behind_older p l x (TopVoid t q u) o h = h
  behind_older p l x (CompEnd t q u) o h = h
  behind_older p l x (Save t q m) o h = h
  behind_older p l x (Commit t q) o h = clash true refl o
  behind_older p l x (End t q) o h = clash true refl o

  -- and one whose transaction has no record in what is kept names none of it
  behind_gone : (base p l : ℕ) (x y : Record C N) → base ≤ p → l < p → txn_of x < p → MayBeBehind base l x (Some y) → (txn_of x < p) × (previous_of x < p)
  behind_gone base p l x (Begin t q) le lt low h = (low, let e = h.1 in omega (arith, e, lt))
  behind_gone base p l x (Change t q c) le lt low h = (low, let e = h.1 in omega (arith, e, lt))
  behind_gone base p l x (TopEnd t q u n) le lt low h = (low, let e = h.1 in omega (arith, e, lt))
  behind_gone base p l x (PhysComp t q u c) le lt low h = (low, let e = h.1 in omega (arith, e, lt))
  behind_gone base p l x (TopVoid t q u) le lt low h = (low, let e = h.1 in omega (arith, e, lt))
  behind_gone base p l x (CompEnd t q u) le lt low h = (low, let e = h.1 in omega (arith, e, lt))
  behind_gone base p l x (Save t q m) le lt low h = (low, let e = h.1 in omega (arith, e, lt))
  behind_gone base p l x (Commit t q) le lt low h = (low, let e = h.1 in omega (arith, e, lt))
  behind_gone base p l x (End t q) le lt low h = absurd h

  -- WHAT IS KEPT of a log that is parted at the point
  module _ (base p : ℕ) (kept gone : List (Numbered C N)) (le : base ≤ p) (some : 0 < p) (on : Each (λ r. p ≤ r.lsn) kept) (low : Each (λ r. r.lsn < p) gone) (own : AreOwned (kept ++ gone)) (order : Pairs Behind (tally (kept ++ gone)).opened) where
    says : tally kept ≡ tally_from p (tally (kept ++ gone))
    says = kept_from p kept gone on low own

    lives : (t : ℕ) → is_in t (tally kept).live ≡ is_in t (filter (λ u. nat_le p u) (tally (kept ++ gone)).live)
    lives t = ap (λ (k : Tally C N). is_in t k.live) says

    -- what goes on in it goes on
    live_whole : (t : ℕ) → is_in t (tally kept).live ≡ true → is_in t (tally (kept ++ gone)).live ≡ true
    live_whole t h = ⊎_elim (λ high. sym (in_from p t (tally (kept ++ gone)).live high) ∙ (sym (lives t) ∙ h))
        (λ lt. clash (is_in t (tally kept).live) h (lives t ∙ in_below p t (tally (kept ++ gone)).live lt)) (low_or p t)

    -- what goes on, but not in it, began below the point
    live_low : (t : ℕ) → is_in t (tally kept).live ≡ false → is_in t (tally (kept ++ gone)).live ≡ true → t < p
    live_low t none h = ⊎_elim (λ high. clash (is_in t (tally kept).live) (lives t ∙ (in_from p t (tally (kept ++ gone)).live high ∙ h)) none) (λ lt. lt) (low_or p t)

    next_same : (t : ℕ) → last_of t (kept ++ gone) ≡ next_off (border_of t (kept ++ gone)) (open_of t (tally (kept ++ gone)).opened) → last_of t kept ≡ next_off (border_of t kept) (open_of t (tally kept).opened)
    next_same t e = subst (λ (os : List (Open C)). last_of t kept ≡ next_off (border_of t kept) os) (sym opens)
        (next_kept p (last_of t (kept ++ gone)) (border_of t (kept ++ gone)) (last_of t kept) (border_of t kept) (open_of t (tally (kept ++ gone)).opened)
        (last_either p t kept gone some on low) (border_either p t kept gone some on low) (pairs_filter Behind (λ d. d.transaction == t) (tally (kept ++ gone)).opened order) e)
      where
        opens : open_of t (tally kept).opened ≡ filter (λ d. nat_le p d.lsn) (open_of t (tally (kept ++ gone)).opened)
        opens = ap (λ (k : Tally C N). open_of t k.opened) says ∙ filter_turn (λ d. d.transaction == t) (λ d. nat_le p d.lsn) (tally (kept ++ gone)).opened

    border_same : (t : ℕ) → last_of t (kept ++ gone) ≡ border_of t (kept ++ gone) → last_of t kept ≡ border_of t kept
    border_same t e = next_kept {C = C} p (last_of t (kept ++ gone)) (border_of t (kept ++ gone)) (last_of t kept) (border_of t kept) [] (last_either p t kept gone some on low) (border_either p t kept gone some on low) tt e

    goes : (t : ℕ) → (t ≡ 0) ⊎ (is_in t (tally kept).live ≡ true) → (t ≡ 0) ⊎ (is_in t (tally (kept ++ gone)).live ≡ true)
    goes t = ⊎_elim (λ zero. inl zero) (λ h. inr (live_whole t h))

    straight_one : (x : Record C N) → IsStraight (kept ++ gone) x → IsStraight kept x
    straight_one (Begin t q) h = h
    straight_one (Change t q c) h = λ live. next_same t (h (goes t live))
    straight_one (TopEnd t q u n) h = h
    straight_one (PhysComp t q u c) h = h
    straight_one (TopVoid t q u) h = h
    straight_one (CompEnd t q u) h = h
    straight_one (Save t q m) h = h
    straight_one (Commit t q) h = h
    straight_one (End t q) h = h

    ends_one : (x : Record C N) → EndsWell (kept ++ gone) x → EndsWell kept x
    ends_one (Begin t q) h = h
    ends_one (Change t q c) h = h
    ends_one (TopEnd t q u n) h = λ live. next_same t (h (goes t live))
    ends_one (PhysComp t q u c) h = h
    ends_one (TopVoid t q u) h = h
    ends_one (CompEnd t q u) h = λ live. next_same t (h (goes t live))
    ends_one (Save t q m) h = h
    ends_one (Commit t q) h = λ live. border_same t (h (live_whole t live))
    ends_one (End t q) h = λ live. border_same t (h (live_whole t live))

    over_by : (x : Record C N) → (is_in (txn_of x) (tally (kept ++ gone)).live ≡ true → previous_of x ≡ last_of (txn_of x) (kept ++ gone)) → OverBy base (kept ++ gone) x → OverBy p kept x
    over_by x follows was some' none = by_newest (newest (txn_of x) kept) refl
      where
        kept_last : (y : Record C N) → newest (txn_of x) kept ≡ Some y → last_of (txn_of x) kept ≡ last_of (txn_of x) (kept ++ gone)
        kept_last y e = ⊎_elim (λ h. h.0) (λ h. (let zero = h.0 in let high = last_some p (txn_of x) kept y on e in absurd (omega (arith, zero, high, some)))) (last_either p (txn_of x) kept gone some on low)

        whole_low : newest (txn_of x) kept ≡ None → last_of (txn_of x) (kept ++ gone) < p
        whole_low e = ⊎_elim (λ h. (let high = h.1 in let zero = last_none (txn_of x) kept e in absurd (omega (arith, zero, high, some)))) (λ h. h.2) (last_either p (txn_of x) kept gone some on low)

        not_over : (y : Record C N) → newest (txn_of x) kept ≡ Some y → is_in (txn_of x) (tally (kept ++ gone)).live ≡ true → (b : Bool) → over y ≡ b → over y ≡ false
        not_over y e live true o = clash (is_in (txn_of x) (tally (kept ++ gone)).live) live (over_not_live (txn_of x) (kept ++ gone) y (newest_front (txn_of x) kept gone y e) o)
        not_over y e live false o = o

        there : (y : Record C N) → newest (txn_of x) kept ≡ Some y → (b : Bool) → is_in (txn_of x) (tally (kept ++ gone)).live ≡ b → MayBeBehind p (last_of (txn_of x) kept) x (Some y)
        there y e true live = behind_older p (last_of (txn_of x) kept) x y (not_over y e live (over y) refl) (live_low (txn_of x) none live, follows live ∙ sym (kept_last y e))
        there y e false live = behind_later base p (last_of (txn_of x) kept) x y le
            (subst (λ (l : ℕ). MayBeBehind base l x (Some y)) (sym (kept_last y e))
            (subst (λ (o : Option (Record C N)). MayBeBehind base (last_of (txn_of x) (kept ++ gone)) x o) (newest_front (txn_of x) kept gone y e) (was some' live)))

        by_gone : last_of (txn_of x) (kept ++ gone) < p → (o : Option (Record C N)) → newest (txn_of x) gone ≡ o → MayBeBehind base (last_of (txn_of x) (kept ++ gone)) x o → (txn_of x < p) × (previous_of x < p)
        by_gone lt None e h = (let a = h.0 in omega (arith, a, le), let b = h.1 in omega (arith, b, le))
        by_gone lt (Some y) e h = behind_gone base p (last_of (txn_of x) (kept ++ gone)) x y le lt (newest_low p (txn_of x) gone y low (owned_back kept gone own) e) h

        none_there : newest (txn_of x) kept ≡ None → (b : Bool) → is_in (txn_of x) (tally (kept ++ gone)).live ≡ b → (txn_of x < p) × (previous_of x < p)
        none_there e true live = (live_low (txn_of x) none live, let f = follows live in let lt = whole_low e in omega (arith, f, lt))
        none_there e false live = by_gone (whole_low e) (newest (txn_of x) gone) refl
            (subst (λ (o : Option (Record C N)). MayBeBehind base (last_of (txn_of x) (kept ++ gone)) x o) (newest_back (txn_of x) kept gone e) (was some' live))

        by_newest : (o : Option (Record C N)) → newest (txn_of x) kept ≡ o → MayBeBehind p (last_of (txn_of x) kept) x o
        by_newest None e = none_there e (is_in (txn_of x) (tally (kept ++ gone)).live) refl
        by_newest (Some y) e = there y e (is_in (txn_of x) (tally (kept ++ gone)).live) refl

    over_one : (l : ℕ) (x : Record C N) → (IsKnown (tally (kept ++ gone)) x → Follows (kept ++ gone) l x) → IsOver base (kept ++ gone) x → IsOver p kept x
    over_one l (Begin t q) f h = h
    over_one l (Change t q c) f h = over_by (Change t q c) (λ live. f live) h
    over_one l (TopEnd t q u n) f h = over_by (TopEnd t q u n) (λ live. (f live).0) h
    over_one l (PhysComp t q u c) f h = over_by (PhysComp t q u c) (λ live. (f live).0) h
    over_one l (TopVoid t q u) f h = over_by (TopVoid t q u) (λ live. (f live).0) h
    over_one l (CompEnd t q u) f h = over_by (CompEnd t q u) (λ live. (f live).0) h
    over_one l (Save t q m) f h = over_by (Save t q m) (λ live. (f live).0) h
    over_one l (Commit t q) f h = over_by (Commit t q) (λ live. (f live).0) h
    over_one l (End t q) f h = over_by (End t q) (λ live. (f live).0) h

  pub straight_kept : (base p : ℕ) (kept gone : List (Numbered C N)) → base ≤ p → 0 < p → Each (λ r. p ≤ r.lsn) kept → Each (λ r. r.lsn < p) gone → AreOwned (kept ++ gone) → Formed (kept ++ gone) → AreStraight (kept ++ gone) → AreStraight kept
  straight_kept base p [] gone le some on low own f h = tt
  straight_kept base p (r ∷ rs) gone le some on low own f h =
      (straight_one base p rs gone le some on.1 low own.1 (sound (rs ++ gone) f.2).order r.is h.0, straight_kept base p rs gone le some on.1 low own.1 f.2 h.1)

  pub ended_kept : (base p : ℕ) (kept gone : List (Numbered C N)) → base ≤ p → 0 < p → Each (λ r. p ≤ r.lsn) kept → Each (λ r. r.lsn < p) gone → AreOwned (kept ++ gone) → Formed (kept ++ gone) → AllEndWell (kept ++ gone) → AllEndWell kept
  ended_kept base p [] gone le some on low own f h = tt
  ended_kept base p (r ∷ rs) gone le some on low own f h =
      (ends_one base p rs gone le some on.1 low own.1 (sound (rs ++ gone) f.2).order r.is h.0, ended_kept base p rs gone le some on.1 low own.1 f.2 h.1)

  pub over_kept : (base p : ℕ) (kept gone : List (Numbered C N)) → base ≤ p → 0 < p → Each (λ r. p ≤ r.lsn) kept → Each (λ r. r.lsn < p) gone → AreOwned (kept ++ gone) → Formed (kept ++ gone) → AllOver base (kept ++ gone) → AllOver p kept
  over_kept base p [] gone le some on low own f h = tt
  over_kept base p (r ∷ rs) gone le some on low own f h =
      (over_one base p rs gone le some on.1 low own.1 (sound (rs ++ gone) f.2).order r.lsn r.is f.1 h.0, over_kept base p rs gone le some on.1 low own.1 f.2 h.1)
