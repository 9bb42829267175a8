-- The records of a formed log may stand, each where it does.
use Rattle.std.proofs.Common.{◌≡◌, inl, inr, ℕ, ◌<◌, ◌≤◌, ◌==◌, ◌&&◌, ◌||◌, nat_lt, arith, Bool, true, false, cond, not, List, [], ◌∷◌, map, Option, Some, None, refl, sym, ap, ◌∙◌, subst, le_of_eq, lt_of_lt_of_le, lt_of_le_of_lt}
use Rattle.std.specs.Bool.{MatchBool}
use Rattle.std.specs.Option.{is_none}
use Rattle.sg_record.specs.Changes.{Change as Changing}
use Rattle.sg_log.specs.Frames.{Numbered}
use Rattle.sg_recovery.specs.Log.{Open, Top, said, tally, is_in, open_of, open_up_to, notes_of}
use Rattle.sg_recovery.specs.Log.Record.{Begin, Change, TopEnd, PhysComp, TopVoid, CompEnd, Save, Commit, End}
use Rattle.sg_recovery.specs.Laws.{Each}
use Rattle.sg_recovery.specs.Chains.{txn_of, previous_of, last_of, border_of, next_lsn, next_off, Follows, IsKnown, Formed, Sound}
use Rattle.sg_recovery.specs.TakeOff.{IsOwned, AreOwned, IsBefore, GoesOnSystem, FollowsSystem, FormedSystem}
use Rattle.sg_recovery.specs.Formed.{IsStraight, AreStraight, AreBetween}
use Rattle.sg_recovery.proofs.Basic.{each_more, each_filter, same_number, number_is, le_true, lt_true, or_left, or_right}
use Rattle.sg_recovery.proofs.Chaining.{clash, border_stays, border_other, sound}
use Rattle.sg_recovery.proofs.TakeOff.{other_open}
use Rattle.sg_analysis.specs.Sights.{Step, Steps, Sight, sight_of, with_step, steps_behind}
use Rattle.sg_analysis.specs.Sights.Sight.{Stepped, Estimated}
use Rattle.sg_recovery.specs.Ending.{is_end, newest, EndsWell, AllEndWell, MayBeBehind, OverBy, IsOver, AllOver}
use Rattle.sg_analysis.specs.Standing.{takes_off, is_taken_off, goes_right, is_systems, precedes_system, may_be_behind, goes_on, may_step, may_stand, all_stand_behind, all_stand, IsPlausible, ArePlausible, AreInOrder, IsPageLog}
use Rattle.sg_analysis.specs.Firsts.{first, second}
use Rattle.sg_analysis.specs.Returns.{opens, returns, is_before, next_is, systems_next_is, takes_next, takes_all, undoes_newest, goes_back}
use Rattle.sg_analysis.proofs.Taking.{both_true}
use Rattle.sg_analysis.proofs.GoingOn.{IsOn, may_step-on}

-- what is known of the steps of a formed log, and of those before any of them
record AreFacts (base : ℕ) (rs : Steps) : Type 0 where
  pub above : Each (λ r. base ≤ r.lsn) rs
  pub owned : AreOwned rs
  pub chained : Formed rs
  pub system : FormedSystem base rs
  pub between : AreBetween rs
  pub straight : AreStraight rs
  pub ended : AllEndWell rs
  pub over : AllOver base rs

facts_back : (base : ℕ) (ns : List Numbered) (rs : Steps) → AreFacts base (steps_behind rs ns) → AreFacts base rs
facts_back base [] rs h = h
facts_back base (n ∷ ns) rs h = by_sight (sight_of n.is) (facts_back base ns (with_step rs n.lsn (sight_of n.is)) h)
  where
    by_sight : (v : Sight) → AreFacts base (with_step rs n.lsn v) → AreFacts base rs
    by_sight (Stepped x) k = record { above = k.above.1; owned = k.owned.1; chained = k.chained.2; system = k.system.1; between = k.between.1; straight = k.straight.1; ended = k.ended.1; over = k.over.1 }
    by_sight (Estimated e) k = k

-- what the system's record names
precedes : (base p last border : ℕ) → MatchBool (last == border) (MatchBool (last == 0) (IsBefore base p) (p ≡ 0)) (p ≡ last) → precedes_system base last border p ≡ true
precedes base p last border h = by_test (last == border) (last == 0) h
  where
    number : (n : ℕ) → p ≡ n → (p == n) ≡ true
    number n e = ap (λ a. a == n) e ∙ same_number n

    before : IsBefore base p → (p == 0 || nat_lt p base) ≡ true
    before (inl is) = or_left (p == 0) (nat_lt p base) (number 0 is)
    before (inr lt) = or_right (p == 0) (nat_lt p base) (lt_true p base lt)

    by_test : (a b : Bool) → MatchBool a (MatchBool b (IsBefore base p) (p ≡ 0)) (p ≡ last) → cond a (cond b (p == 0 || nat_lt p base) (p == 0)) (p == last) ≡ true
    by_test true true z = before z
    by_test true false z = number 0 z
    by_test false b z = number last z

-- where undoing goes on next is below a record that takes a change off
next_low : (border l : ℕ) (ds : List (Open Changing)) → border < l → Each (λ d. d.lsn < l) ds → next_off border ds < l
next_low border l [] lt h = lt
next_low border l (d ∷ ds) lt h = h.0

off_behind : (rs : Steps) (t : ℕ) → Formed rs → is_taken_off t rs ≡ true → next_off (border_of t rs) (open_of t (tally rs).opened) < last_of t rs
off_behind [] t f e = absurd (cc)
off_behind (r ∷ rs) t f e = by_own (txn_of r.is == t) refl e (off_behind rs t f.2)
  where
    h : Sound rs
    h = sound rs f.2

    lows : Each (λ d. d.lsn < r.lsn) (tally rs).opened
    lows = each_more (λ d. d.lsn < next_lsn rs) (λ d. d.lsn < r.lsn) (tally rs).opened (λ d z. lt_of_lt_of_le z f.0) h.opens

    by_kind : (x : Step) → txn_of x ≡ t → takes_off x ≡ true → next_off (border_of t (record { lsn = r.lsn; is = x } ∷ rs)) (open_of t (said r.lsn x (tally rs)).opened) < r.lsn
    by_kind (Begin u p) is off = absurd (cc)
    by_kind (Change u p c) is off = absurd (cc)
    by_kind (TopEnd u p n w) is off = absurd (cc)
    by_kind (PhysComp u p n c) is off =
        next_low (border_of t (record { lsn = r.lsn; is = PhysComp u p n c } ∷ rs)) r.lsn (open_of t (open_up_to u n (tally rs).opened)) (lt_of_le_of_lt (le_of_eq (border_stays r.lsn (PhysComp u p n c) rs t refl)) (lt_of_lt_of_le (h.borders t) f.0))
        (each_filter (λ d. d.lsn < r.lsn) (λ d. d.transaction == t) (open_up_to u n (tally rs).opened) (each_filter (λ d. d.lsn < r.lsn) (λ d. not (d.transaction == u && nat_lt n d.lsn)) (tally rs).opened lows))
    by_kind (TopVoid u p n) is off = absurd (cc)
    by_kind (CompEnd u p n) is off = absurd (cc)
    by_kind (Save u p m) is off = absurd (cc)
    by_kind (Commit u p) is off = absurd (cc)
    by_kind (End u p) is off = absurd (cc)

    by_own : (b : Bool) → (txn_of r.is == t) ≡ b → cond b (takes_off r.is) (is_taken_off t rs) ≡ true → (is_taken_off t rs ≡ true → next_off (border_of t rs) (open_of t (tally rs).opened) < last_of t rs)
        → next_off (border_of t (r ∷ rs)) (open_of t (tally (r ∷ rs)).opened) < cond b r.lsn (last_of t rs)
    by_own true own off more = by_kind r.is (number_is (txn_of r.is) t own) off
    by_own false own off more =
        let ne : t ≡ txn_of r.is → ⊥ = λ is. clash (txn_of r.is == t) own (ap (λ n. txn_of r.is == n) is ∙ same_number (txn_of r.is)) in
        subst (λ b. next_off b (open_of t (tally (r ∷ rs)).opened) < last_of t rs) (sym (border_other r.lsn r.is rs t ne)) (subst (λ (ds : List (Open Changing)). next_off (border_of t rs) ds < last_of t rs) (sym (other_open r.lsn r.is (tally rs) t ne)) (more off))

-- so a transaction isn't being taken off where its last record is its last open change or its last border
not_off : (rs : Steps) (t : ℕ) → Formed rs → last_of t rs ≡ next_off (border_of t rs) (open_of t (tally rs).opened) → not (is_taken_off t rs) ≡ true
not_off rs t f line = by_test (is_taken_off t rs) refl
  where
    by_test : (b : Bool) → is_taken_off t rs ≡ b → not b ≡ true
    by_test true e = let lt = off_behind rs t f e in absurd (omega (arith, lt, line))
    by_test false e = refl

systems_step : (base : ℕ) (rs : Steps) (x : Step) → Formed rs → txn_of x ≡ 0 → IsStraight rs x → EndsWell rs x → FollowsSystem base rs x → (precedes_system base (last_of 0 rs) (border_of 0 rs) (previous_of x) && is_systems (is_taken_off 0 rs) x) ≡ true
systems_step base rs (Begin t p) g zero s z f = absurd f
systems_step base rs (Change t p c) g zero s z f =
    both_true (precedes_system base (last_of 0 rs) (border_of 0 rs) p) (not (is_taken_off 0 rs)) (precedes base p (last_of 0 rs) (border_of 0 rs) f) (subst (λ n. not (is_taken_off n rs) ≡ true) zero (not_off rs t g (s (inl zero))))
systems_step base rs (TopEnd t p u n) g zero s z f =
    both_true (precedes_system base (last_of 0 rs) (border_of 0 rs) p) (not (is_taken_off 0 rs) && u == 0) (precedes base p (last_of 0 rs) (border_of 0 rs) f.0)
    (both_true (not (is_taken_off 0 rs)) (u == 0) (subst (λ n. not (is_taken_off n rs) ≡ true) zero (not_off rs t g (z (inl zero)))) (ap (λ a. a == 0) f.1))
systems_step base rs (PhysComp t p u c) g zero s z f = both_true (precedes_system base (last_of 0 rs) (border_of 0 rs) p) true (precedes base p (last_of 0 rs) (border_of 0 rs) f.0) refl
systems_step base rs (TopVoid t p u) g zero s z f = both_true (precedes_system base (last_of 0 rs) (border_of 0 rs) p) (u == 0) (precedes base p (last_of 0 rs) (border_of 0 rs) f.0) (ap (λ a. a == 0) f.2)
systems_step base rs (CompEnd t p u) g zero s z f = absurd f
systems_step base rs (Save t p m) g zero s z f = absurd f
systems_step base rs (Commit t p) g zero s z f = absurd f
systems_step base rs (End t p) g zero s z f = absurd f

same : (a b : ℕ) → a ≡ b → (a == b) ≡ true
same a b e = ap (λ n. n == b) e ∙ same_number b

own_step : (base : ℕ) (rs : Steps) (lsn : ℕ) (x : Step) → IsOn x → Formed rs → is_in (txn_of x) (tally rs).live ≡ true → (IsKnown (tally rs) x → Follows rs lsn x) → IsStraight rs x → EndsWell rs x
    → (previous_of x == last_of (txn_of x) rs && goes_right (border_of (txn_of x) rs) (is_taken_off (txn_of x) rs) x) ≡ true
own_step base rs lsn (Begin t p) on h live f s z = absurd on
own_step base rs lsn (Change t p c) on h live f s z = both_true (p == last_of t rs) (not (is_taken_off t rs)) (same p (last_of t rs) (f live)) (not_off rs t h (s (inr live)))
own_step base rs lsn (TopEnd t p u n) on h live f s z =
    both_true (p == last_of t rs) (not (is_taken_off t rs) && u == border_of t rs) (same p (last_of t rs) (f live).0) (both_true (not (is_taken_off t rs)) (u == border_of t rs) (not_off rs t h (z (inr live))) (same u (border_of t rs) (f live).1))
own_step base rs lsn (PhysComp t p u c) on h live f s z = both_true (p == last_of t rs) true (same p (last_of t rs) (f live).0) refl
own_step base rs lsn (TopVoid t p u) on h live f s z = both_true (p == last_of t rs) (u == border_of t rs) (same p (last_of t rs) (f live).0) (same u (border_of t rs) (f live).2)
own_step base rs lsn (CompEnd t p u) on h live f s z = both_true (p == last_of t rs) (not (is_taken_off t rs)) (same p (last_of t rs) (f live).0) (not_off rs t h (z (inr live)))
own_step base rs lsn (Save t p m) on h live f s z = both_true (p == last_of t rs) (p == border_of t rs) (same p (last_of t rs) (f live).0) (same p (border_of t rs) (f live).2)
own_step base rs lsn (Commit t p) on h live f s z = both_true (p == last_of t rs) (p == border_of t rs) (same p (last_of t rs) (f live).0) (same p (border_of t rs) ((f live).0 ∙ z live))
own_step base rs lsn (End t p) on h live f s z = both_true (p == last_of t rs) (p == border_of t rs) (same p (last_of t rs) (f live).0) (same p (border_of t rs) ((f live).0 ∙ z live))

on_low : (lsn : ℕ) (x : Step) → IsOn x → IsOwned lsn x → txn_of x < lsn
on_low lsn (Begin t p) on h = absurd on
on_low lsn (Change t p c) on h = h
on_low lsn (TopEnd t p u n) on h = h
on_low lsn (PhysComp t p u c) on h = h
on_low lsn (TopVoid t p u) on h = h
on_low lsn (CompEnd t p u) on h = h
on_low lsn (Save t p m) on h = h
on_low lsn (Commit t p) on h = h
on_low lsn (End t p) on h = h

-- what is asked of a record whose transaction doesn't go on
over_on : (base : ℕ) (rs : Steps) (x : Step) → IsOn x → IsOver base rs x → OverBy base rs x
over_on base rs (Begin t p) on h = absurd on
over_on base rs (Change t p c) on h = h
over_on base rs (TopEnd t p u n) on h = h
over_on base rs (PhysComp t p u c) on h = h
over_on base rs (TopVoid t p u) on h = h
over_on base rs (CompEnd t p u) on h = h
over_on base rs (Save t p m) on h = h
over_on base rs (Commit t p) on h = h
over_on base rs (End t p) on h = h

-- is told
over_told : (base last : ℕ) (x : Step) (o : Option Step) → MayBeBehind base last x o → may_be_behind base last x o ≡ true
over_told base last x None h = both_true (nat_lt (txn_of x) base) (nat_lt (previous_of x) base) (lt_true (txn_of x) base h.0) (lt_true (previous_of x) base h.1)
over_told base last x (Some before) h = by_kind before h
  where
    both : (b : Bool) → b ≡ true → previous_of x ≡ last → (previous_of x == last && b) ≡ true
    both b h is = both_true (previous_of x == last) b (same (previous_of x) last is) h

    older : (txn_of x < base) × (previous_of x ≡ last) → (previous_of x == last && nat_lt (txn_of x) base) ≡ true
    older h = both (nat_lt (txn_of x) base) (lt_true (txn_of x) base h.0) h.1

    by_kind : (before : Step) → MayBeBehind base last x (Some before) → may_be_behind base last x (Some before) ≡ true
    by_kind (Begin t p) h = older h
    by_kind (Change t p c) h = older h
    by_kind (TopEnd t p u n) h = older h
    by_kind (PhysComp t p u c) h = older h
    by_kind (TopVoid t p u) h = older h
    by_kind (CompEnd t p u) h = older h
    by_kind (Save t p m) h = older h
    by_kind (Commit t p) h = both (is_end x) h.0 h.1
    by_kind (End t p) h = absurd h

-- where undoing goes on in a formed log
before_true : (base p : ℕ) → IsBefore base p → is_before base p ≡ true
before_true base p (inl zero) = or_left (p == 0) (nat_lt p base) (same p 0 zero)
before_true base p (inr lt) = or_right (p == 0) (nat_lt p base) (lt_true p base lt)

next_true : (border u : ℕ) (ds : List (Open Changing)) (d : Open Changing) (es : List (Open Changing)) → ds ≡ d ∷ es → u ≡ next_off border es → next_is border (first (map (λ d. d.lsn) ds)) (second (map (λ d. d.lsn) ds)) u ≡ true
next_true border u ds d es is undo = subst (λ (qs : List (Open Changing)). next_is border (first (map (λ d. d.lsn) qs)) (second (map (λ d. d.lsn) qs)) u ≡ true) (sym is) (by_rest es undo)
  where
    by_rest : (qs : List (Open Changing)) → u ≡ next_off border qs → next_is border (Some d.lsn) (first (map (λ d. d.lsn) qs)) u ≡ true
    by_rest [] e = same u border e
    by_rest (q ∷ qs) e = same u q.lsn e

systems_true : (base border u : ℕ) (ds : List (Open Changing)) → GoesOnSystem base border ds u → systems_next_is base border (first (map (λ d. d.lsn) ds)) (second (map (λ d. d.lsn) ds)) u ≡ true
systems_true base border u [] h = both_true (border == 0) (is_before base u) (same border 0 h.0) (before_true base u h.1)
systems_true base border u (d ∷ []) h = by_test (border == 0) h
  where
    by_test : (b : Bool) → MatchBool b (IsBefore base u) (u ≡ 0) → cond b (is_before base u) (u == 0) ≡ true
    by_test true e = before_true base u e
    by_test false e = same u 0 e
systems_true base border u (d ∷ e ∷ ds) h = same u e.lsn h

none_true : (ds : List (Open Changing)) → ds ≡ [] → is_none (first (map (λ d. d.lsn) ds)) ≡ true
none_true ds is = subst (λ (qs : List (Open Changing)). is_none (first (map (λ d. d.lsn) qs)) ≡ true) (sym is) refl

back_holds : (base : ℕ) (rs : Steps) (lsn : ℕ) (x : Step) → AreFacts base (record { lsn = lsn; is = x } ∷ rs) → goes_back base rs x ≡ true
back_holds base rs lsn (Begin t p) h = refl
back_holds base rs lsn (Change t p c) h = refl
back_holds base rs lsn (TopEnd t p u n) h = refl
back_holds base rs lsn (PhysComp t p u c) h = by_whose (t == 0) (is_in t (tally rs).live) refl refl
  where
    by_whose : (a b : Bool) → (t == 0) ≡ a → is_in t (tally rs).live ≡ b → takes_next base a (cond (a || b) (Some (border_of t rs)) None) (first (opens rs t)) (second (opens rs t)) u ≡ true
    by_whose true b zero live = let is = number_is t 0 zero in subst (λ a. systems_next_is base (border_of a rs) (first (opens rs a)) (second (opens rs a)) u ≡ true) (sym is) (systems_true base (border_of 0 rs) u (open_of 0 (tally rs).opened) (h.system.0 is).1)
    by_whose false true zero live = let g = (h.chained.1 live).1 in next_true (border_of t rs) u (open_of t (tally rs).opened) g.0 g.1 g.2 g.3
    by_whose false false zero live = refl
back_holds base rs lsn (TopVoid t p u) h = by_whose (t == 0) (is_in t (tally rs).live) refl refl
  where
    by_whose : (a b : Bool) → (t == 0) ≡ a → is_in t (tally rs).live ≡ b → takes_all (cond (a || b) (Some (border_of t rs)) None) (first (opens rs t)) ≡ true
    by_whose true b zero live = let is = number_is t 0 zero in subst (λ a. is_none (first (opens rs a)) ≡ true) (sym is) (none_true (open_of 0 (tally rs).opened) (h.system.0 is).1)
    by_whose false true zero live = none_true (open_of t (tally rs).opened) (h.chained.1 live).1
    by_whose false false zero live = refl
back_holds base rs lsn (CompEnd t p u) h = by_whose (t == 0) (is_in t (tally rs).live) refl refl
  where
    by_notes : (ns ms : List (Top Changing (List ℕ))) (n : Top Changing (List ℕ)) → ns ≡ n ∷ ms → u ≡ n.undo_next → undoes_newest (Some (border_of t rs)) (first (map (λ n. n.undo_next) ns)) u ≡ true
    by_notes ns ms n is undo = subst (λ (qs : List (Top Changing (List ℕ))). undoes_newest (Some (border_of t rs)) (first (map (λ n. n.undo_next) qs)) u ≡ true) (sym is) (same u n.undo_next undo)

    by_whose : (a b : Bool) → (t == 0) ≡ a → is_in t (tally rs).live ≡ b → undoes_newest (cond (a || b) (Some (border_of t rs)) None) (first (returns rs t)) u ≡ true
    by_whose true b zero live = absurd (h.system.0 (number_is t 0 zero))
    by_whose false true zero live = let g = (h.chained.1 live).1 in by_notes (notes_of t (tally rs).notes) g.1 g.0 g.2 g.3
    by_whose false false zero live = refl
back_holds base rs lsn (Save t p m) h = none_true (open_of t (tally rs).opened) h.between.0
back_holds base rs lsn (Commit t p) h = none_true (open_of t (tally rs).opened) h.between.0
back_holds base rs lsn (End t p) h = none_true (open_of t (tally rs).opened) h.between.0

stands_on : (base : ℕ) (rs : Steps) (lsn : ℕ) (x : Step) → IsOn x → AreFacts base (record { lsn = lsn; is = x } ∷ rs) → may_step base rs lsn x ≡ true
stands_on base rs lsn x on h =
    may_step-on base rs lsn x on
    ∙ both_true (nat_lt (txn_of x) lsn) (goes_on base rs x && goes_back base rs x) (lt_true (txn_of x) lsn (on_low lsn x on h.owned.0)) (both_true (goes_on base rs x) (goes_back base rs x) (by_system (txn_of x == 0) refl) (back_holds base rs lsn x h))
  where
    by_live : (b : Bool) → is_in (txn_of x) (tally rs).live ≡ b → (txn_of x ≡ 0 → ⊥) → cond b (previous_of x == last_of (txn_of x) rs && goes_right (border_of (txn_of x) rs) (is_taken_off (txn_of x) rs) x) (may_be_behind base (last_of (txn_of x) rs) x (newest (txn_of x) rs)) ≡ true
    by_live true e some = own_step base rs lsn x on h.chained.2 e h.chained.1 h.straight.0 h.ended.0
    by_live false e some = over_told base (last_of (txn_of x) rs) x (newest (txn_of x) rs) (over_on base rs x on h.over.0 some e)

    by_system : (b : Bool) → (txn_of x == 0) ≡ b
        → cond b (precedes_system base (last_of 0 rs) (border_of 0 rs) (previous_of x) && is_systems (is_taken_off 0 rs) x) (cond (is_in (txn_of x) (tally rs).live) (previous_of x == last_of (txn_of x) rs && goes_right (border_of (txn_of x) rs) (is_taken_off (txn_of x) rs) x) (may_be_behind base (last_of (txn_of x) rs) x (newest (txn_of x) rs))) ≡ true
    by_system true e = let zero = number_is (txn_of x) 0 e in systems_step base rs x h.chained.2 zero h.straight.0 h.ended.0 (h.system.0 zero)
    by_system false e = by_live (is_in (txn_of x) (tally rs).live) refl (λ is. clash (txn_of x == 0) e (same (txn_of x) 0 is))

stands : (base : ℕ) (rs : Steps) (lsn : ℕ) (x : Step) → AreFacts base (record { lsn = lsn; is = x } ∷ rs) → may_step base rs lsn x ≡ true
stands base rs lsn (Begin t p) h = let f = h.chained.1 tt in both_true (t == lsn) (p == 0) (same t lsn f.0) (same p 0 f.1)
stands base rs lsn (Change t p c) h = stands_on base rs lsn (Change t p c) tt h
stands base rs lsn (TopEnd t p u n) h = stands_on base rs lsn (TopEnd t p u n) tt h
stands base rs lsn (PhysComp t p u c) h = stands_on base rs lsn (PhysComp t p u c) tt h
stands base rs lsn (TopVoid t p u) h = stands_on base rs lsn (TopVoid t p u) tt h
stands base rs lsn (CompEnd t p u) h = stands_on base rs lsn (CompEnd t p u) tt h
stands base rs lsn (Save t p m) h = stands_on base rs lsn (Save t p m) tt h
stands base rs lsn (Commit t p) h = stands_on base rs lsn (Commit t p) tt h
stands base rs lsn (End t p) h = stands_on base rs lsn (End t p) tt h

all_stands : (base : ℕ) (ns : List Numbered) (rs : Steps) → AreFacts base (steps_behind rs ns) → ArePlausible ns → all_stand_behind base rs ns ≡ true
all_stands base [] rs h p = refl
all_stands base (n ∷ ns) rs h p =
    both_true (may_stand base rs n.lsn (sight_of n.is)) (all_stand_behind base (with_step rs n.lsn (sight_of n.is)) ns) (by_sight (sight_of n.is) (facts_back base ns (with_step rs n.lsn (sight_of n.is)) h) p.0)
    (all_stands base ns (with_step rs n.lsn (sight_of n.is)) h p.1)
  where
    by_sight : (v : Sight) → AreFacts base (with_step rs n.lsn v) → IsPlausible n.lsn v → may_stand base rs n.lsn v ≡ true
    by_sight (Stepped x) k q = stands base rs n.lsn x k
    by_sight (Estimated e) k q = le_true e n.lsn q

-- records in order may stand, each where it does,
pub ordered_stands : (base : ℕ) (ns : List Numbered) → AreInOrder base ns → all_stand base ns ≡ true
ordered_stands base ns h = all_stands base ns [] (record { above = h.above; owned = h.owned; chained = h.chained; system = h.system; between = h.between; straight = h.straight; ended = h.ended; over = h.over }) h.plausible

-- and those of a formed log are in order
pub log_ordered : {base : ℕ} {ns : List Numbered} → IsPageLog base ns → AreInOrder base ns
log_ordered h = record {
  above = h.steps.above;
  owned = h.steps.owned;
  chained = h.steps.chained;
  system = h.steps.system;
  between = h.steps.between;
  straight = h.steps.straight;
  ended = h.steps.ended;
  over = h.steps.over;
  plausible = h.plausible;
}
