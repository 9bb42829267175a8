-- The walk of a take-off finds the open changes of the system's action too.
use Rattle.std.proofs.Common.{◌≡◌, inl, inr, ℕ, ◌<◌, ◌≤◌, ◌==◌, nat_lt, arith, Bool, true, false, cond, not, ◌&&◌, List, [], ◌∷◌, Option, Some, None, refl, sym, ap, ◌∙◌, subst, le_trans, le_of_eq, lt_of_lt_of_le, lt_of_le_of_lt}
use Rattle.std.specs.Bool.{MatchBool}
use Rattle.sg_recovery.specs.Log.{Record, Numbered, Open, said, tally, open_of, open_not_of, open_up_to}
use Rattle.sg_recovery.specs.Log.Record.{Begin, Change, TopEnd, PhysComp, TopVoid, CompEnd, Save, Commit, End}
use Rattle.sg_recovery.specs.Laws.{Each}
use Rattle.sg_recovery.specs.Shows.{Pairs}
use Rattle.sg_recovery.specs.Chains.{txn_of, is_border, last_of, border_of, next_lsn, Behind, Formed, Sound}
use Rattle.sg_recovery.specs.TakeOff.{off, FindsOff, AreOwned, Taken, IsBefore, PrecedesSystem, GoesOnSystem, FollowsSystem, FormedSystem, IsOver, TakenSystem}
use Rattle.sg_recovery.proofs.Basic.{cond_true, each_more, each_both, each_filter, each_kept, filter_none, same_number, number_is, other_number, lt_is, lt_not}
use Rattle.sg_recovery.proofs.Running.{pairs_filter}
use Rattle.sg_recovery.proofs.Chaining.{clash, differ, border_stays, border_other, takes_first, sound}
use Rattle.sg_recovery.proofs.TakeOff.{off_below, off_at, finds_below, finds_on, finds_next, other_open, own_none, of_up_to, own_of, last_here, last_other, taken}

-- a number before the log is below one of its records
before_low : (base at l : ℕ) → 0 < l → base ≤ l → IsBefore base at → at < l
before_low base at l some le (inl is) = lt_of_le_of_lt (le_of_eq is) some
before_low base at l some le (inr lt) = lt_of_lt_of_le lt le

module _ {C N : Type 0} where
  -- no record has the LSN 0
  off_zero : (rs : List (Numbered C N)) → Formed rs → off 0 rs ≡ None
  off_zero [] f = refl
  off_zero (r ∷ rs) f = off_below 0 r rs (positive rs f.0) ∙ off_zero rs f.2
    where
      positive : (rs : List (Numbered C N)) → next_lsn rs ≤ r.lsn → 0 < r.lsn
      positive [] le = omega arith
      positive (q ∷ qs) le = omega arith

  -- no record stands before the log
  off_low : (base at : ℕ) (rs : List (Numbered C N)) → Each (λ r. base ≤ r.lsn) rs → at < base → off at rs ≡ None
  off_low base at [] h lt = refl
  off_low base at (r ∷ rs) h lt = off_below at r rs (lt_of_lt_of_le lt h.0) ∙ off_low base at rs h.1 lt

  off_before : (base at : ℕ) (rs : List (Numbered C N)) → Formed rs → Each (λ r. base ≤ r.lsn) rs → IsBefore base at → off at rs ≡ None
  off_before base at rs f h (inl is) = ap (λ a. off a rs) is ∙ off_zero rs f
  off_before base at rs f h (inr lt) = off_low base at rs h lt

  -- the system's next action begins with nothing open
  none_open : (rs : List (Numbered C N)) → last_of 0 rs ≡ border_of 0 rs → Each (IsOver rs) (tally rs).opened → open_of 0 (tally rs).opened ≡ []
  none_open rs e h = filter_none (λ d. d.transaction == 0) (tally rs).opened (each_more (IsOver rs) (λ d. (d.transaction == 0) ≡ false) (tally rs).opened (λ d z. other_number d.transaction 0 (λ is. absurd (low d.lsn (z is).0 (z is).1))) h)
    where
      low : (a : ℕ) → border_of 0 rs < a → a ≤ last_of 0 rs → ⊥
      low a x y = absurd (omega arith)

  -- of another than the system nothing changes
  over_kept : (l : ℕ) (x : Record C N) (rs : List (Numbered C N)) (d : Open C) → (0 ≡ txn_of x → ⊥) → IsOver rs d → IsOver (record { lsn = l; is = x } ∷ rs) d
  over_kept l x rs d ne h is = (lt_of_le_of_lt (le_of_eq (border_other l x rs 0 ne)) (h is).0, le_trans (h is).1 (le_of_eq (sym (last_other l x rs 0 ne))))

  over_other : (l : ℕ) (x : Record C N) (rs : List (Numbered C N)) → (0 ≡ txn_of x → ⊥) → Each (IsOver rs) (tally rs).opened → Each (IsOver (record { lsn = l; is = x } ∷ rs)) (said l x (tally rs)).opened
  over_other l x rs ne h = by_kind x ne
    where
      all : (y : Record C N) → (0 ≡ txn_of y → ⊥) → Each (IsOver (record { lsn = l; is = y } ∷ rs)) (tally rs).opened
      all y n = each_more (IsOver rs) (IsOver (record { lsn = l; is = y } ∷ rs)) (tally rs).opened (λ d z. over_kept l y rs d n z) h

      by_kind : (y : Record C N) → (0 ≡ txn_of y → ⊥) → Each (IsOver (record { lsn = l; is = y } ∷ rs)) (said l y (tally rs)).opened
      by_kind (Begin t p) n = all (Begin t p) n
      by_kind (Change t p c) n = ((λ is. absurd (n (sym is))), all (Change t p c) n)
      by_kind (TopEnd t p u a) n = each_filter (IsOver (record { lsn = l; is = TopEnd t p u a } ∷ rs)) (λ d. not (d.transaction == t)) (tally rs).opened (all (TopEnd t p u a) n)
      by_kind (PhysComp t p u c) n = each_filter (IsOver (record { lsn = l; is = PhysComp t p u c } ∷ rs)) (λ d. not (d.transaction == t && nat_lt u d.lsn)) (tally rs).opened (all (PhysComp t p u c) n)
      by_kind (TopVoid t p u) n = each_filter (IsOver (record { lsn = l; is = TopVoid t p u } ∷ rs)) (λ d. not (d.transaction == t)) (tally rs).opened (all (TopVoid t p u) n)
      by_kind (CompEnd t p u) n = each_filter (IsOver (record { lsn = l; is = CompEnd t p u } ∷ rs)) (λ d. not (d.transaction == t)) (tally rs).opened (all (CompEnd t p u) n)
      by_kind (Save t p m) n = all (Save t p m) n
      by_kind (Commit t p) n = all (Commit t p) n
      by_kind (End t p) n = all (End t p) n

  -- its own changes stay open, and are at or below its last record
  over_own : (l t : ℕ) (x : Record C N) (rs : List (Numbered C N)) → is_border x ≡ false → txn_of x ≡ 0 → Sound rs → next_lsn rs ≤ l → Each (IsOver rs) (tally rs).opened → Each (IsOver (record { lsn = l; is = x } ∷ rs)) (tally rs).opened
  over_own l t x rs b own h le k =
      each_more (λ d. (d.lsn < next_lsn rs) × IsOver rs d) (IsOver (record { lsn = l; is = x } ∷ rs)) (tally rs).opened
      (λ d z is. (lt_of_le_of_lt (le_of_eq (border_stays l x rs 0 b)) (z.1 is).0, le_trans (up d.lsn z.0) (le_of_eq (sym (subst (λ a. last_of a (record { lsn = l; is = x } ∷ rs) ≡ l) own (last_here l x rs))))))
      (each_both (λ d. d.lsn < next_lsn rs) (IsOver rs) (tally rs).opened h.opens k)
    where
      up : (a : ℕ) → a < next_lsn rs → a ≤ l
      up a z = omega arith

  gone_own : (l t : ℕ) (x : Record C N) (rs : List (Numbered C N)) → t ≡ 0 → Each (IsOver (record { lsn = l; is = x } ∷ rs)) (open_not_of t (tally rs).opened)
  gone_own l t x rs own =
      each_kept (λ d. Unit {0}) (IsOver (record { lsn = l; is = x } ∷ rs)) (λ d. not (d.transaction == t)) (tally rs).opened
      (λ d z e is. absurd (differ (d.transaction == t) e (subst (λ a. (d.transaction == a) ≡ true) (is ∙ sym own) (same_number d.transaction)))) (units (tally rs).opened)
    where
      units : (ds : List (Open C)) → Each (λ d. Unit {0}) ds
      units [] = tt
      units (d ∷ ds) = (tt, units ds)

  some_below : (l : ℕ) (rs : List (Numbered C N)) → next_lsn rs ≤ l → 0 < l
  some_below l [] le = omega arith
  some_below l (q ∷ qs) le = omega arith

  -- what the system's next record names as its previous one: from there its open changes are found
  from_previous : (base l p : ℕ) (rs : List (Numbered C N)) → Formed rs → Sound rs → Taken rs → TakenSystem rs → next_lsn rs ≤ l → base ≤ l → Each (λ r. base ≤ r.lsn) rs → PrecedesSystem base rs p
      → FindsOff rs p (open_of 0 (tally rs).opened) × (p < l)
  from_previous base l p rs fm h k s le low above f = by_test (last_of 0 rs == border_of 0 rs) refl f
    where
      nothing : last_of 0 rs ≡ border_of 0 rs → off p rs ≡ None → FindsOff rs p (open_of 0 (tally rs).opened)
      nothing e none = subst (λ ds. FindsOff rs p ds) (sym (none_open rs e s.over)) none

      first : (b : Bool) → last_of 0 rs ≡ border_of 0 rs → MatchBool b (IsBefore base p) (p ≡ 0) → FindsOff rs p (open_of 0 (tally rs).opened) × (p < l)
      first true e z = (nothing e (off_before base p rs fm above z), before_low base p l (some_below l rs le) low z)
      first false e z = (nothing e (ap (λ a. off a rs) z ∙ off_zero rs fm), lt_of_le_of_lt (le_of_eq z) (some_below l rs le))

      by_test : (b : Bool) → (last_of 0 rs == border_of 0 rs) ≡ b → MatchBool b (MatchBool (last_of 0 rs == 0) (IsBefore base p) (p ≡ 0)) (p ≡ last_of 0 rs) → FindsOff rs p (open_of 0 (tally rs).opened) × (p < l)
      by_test true e z = first (last_of 0 rs == 0) (number_is (last_of 0 rs) (border_of 0 rs) e) z
      by_test false e z = (subst (λ a. FindsOff rs a (open_of 0 (tally rs).opened)) (sym z) s.finds, lt_of_le_of_lt (le_of_eq z) (lt_of_lt_of_le (k.lasts 0) le))

  -- where no record stands before the log, an open change isn't one
  found_above : (base at : ℕ) (rs : List (Numbered C N)) → Formed rs → Each (λ r. base ≤ r.lsn) rs → (d : Open C) (ds : List (Open C)) → FindsOff rs at (d ∷ ds) → (u : ℕ) → IsBefore base u → 0 < d.lsn → u < d.lsn
  found_above base at rs fm all d ds f u (inl is) some = lt_of_le_of_lt (le_of_eq is) some
  found_above base at rs fm all d ds f u (inr lt) some = by_test (nat_lt u d.lsn) refl
    where
      none : off d.lsn rs ≡ None → ⊥
      none e = never (sym f.2 ∙ e)
        where
          never : ◌≡◌ {A = Option (Open C × ℕ)} (Some (d, f.0)) None → ⊥
          never e = absurd (cc)

      by_test : (b : Bool) → nat_lt u d.lsn ≡ b → u < d.lsn
      by_test true e = lt_is u d.lsn e
      by_test false e = absurd (none (off_low base d.lsn rs all (lt_of_le_of_lt (lt_not u d.lsn e) lt)))

  -- once the last open change is taken off, the take-off goes on with those that are left
  goes_on : (base u : ℕ) (rs : List (Numbered C N)) → Formed rs → Each (λ r. base ≤ r.lsn) rs → (ds : List (Open C)) → Each (λ e. e.transaction ≡ 0) ds → Each (λ e. border_of 0 rs < e.lsn) ds → Pairs Behind ds
      → FindsOff rs (last_of 0 rs) ds → GoesOnSystem base (border_of 0 rs) ds u → FindsOff rs u (open_up_to 0 u ds)
  goes_on base u rs fm all [] mine over order was f = off_before base u rs fm all f.1
  goes_on base u rs fm all (d ∷ []) mine over order was f = by_test (border_of 0 rs == 0) f
    where
      some : (a b : ℕ) → a < b → 0 < b
      some a b z = omega arith

      gone : IsBefore base u → FindsOff rs u (open_up_to 0 u (d ∷ []))
      gone z = subst (λ es. FindsOff rs u es) (sym (takes_first 0 u u d [] order mine.0 (found_above base (last_of 0 rs) rs fm all d [] was u z (some (border_of 0 rs) d.lsn over.0)) refl)) (off_before base u rs fm all z)

      by_test : (b : Bool) → MatchBool b (IsBefore base u) (u ≡ 0) → FindsOff rs u (open_up_to 0 u (d ∷ []))
      by_test true z = gone z
      by_test false z = gone (inl z)
  goes_on base u rs fm all (d ∷ e ∷ ds) mine over order was f =
      subst (λ es. FindsOff rs u es) (sym (takes_first 0 u 0 d (e ∷ ds) order mine.0 (some (border_of 0 rs) d.lsn over.0) f))
      (subst (λ a. FindsOff rs a (e ∷ ds)) (sym f) (finds_next rs 0 was.0 (e ∷ ds) (off_zero rs fm) was.4))
    where
      some : (a b : ℕ) → a < b → 0 < b
      some a b z = omega arith

  -- a record of the system
  own_step : (base l : ℕ) (x : Record C N) (rs : List (Numbered C N)) → Formed rs → Sound rs → Taken rs → TakenSystem rs → next_lsn rs ≤ l → base ≤ l → Each (λ r. base ≤ r.lsn) rs → txn_of x ≡ 0 → FollowsSystem base rs x
      → TakenSystem (record { lsn = l; is = x } ∷ rs)
  own_step base l (Begin t p) rs fm h k s le low all own f = absurd f
  own_step base l (Change t p c) rs fm h k s le low all own f =
      let x : Record C N = Change t p c in
      let r : Numbered C N = record { lsn = l; is = x } in
      let d : Open C = record { lsn = l; transaction = t; change = c } in
      let ds : List (Open C) = open_of 0 (tally rs).opened in
      let lows : Each (λ e. e.lsn < l) ds = each_filter (λ e. e.lsn < l) (λ e. e.transaction == 0) (tally rs).opened (each_more (λ e. e.lsn < next_lsn rs) (λ e. e.lsn < l) (tally rs).opened (λ e z. lt_of_lt_of_le z le) h.opens) in
      let was = from_previous base l p rs fm h k s le low all f in
      let mine : (t == 0) ≡ true = subst (λ a. (t == a) ≡ true) own (same_number t) in
      let last : last_of 0 (r ∷ rs) ≡ l = subst (λ a. last_of a (r ∷ rs) ≡ l) own (last_here l x rs) in
      record {
        over = ((λ is. (lt_of_le_of_lt (le_of_eq (border_stays l x rs 0 refl)) (lt_of_lt_of_le (h.borders 0) le), le_of_eq (sym last))), over_own l t x rs refl own h le s.over);
        finds = subst (λ a. FindsOff (r ∷ rs) a (cond (t == 0) (d ∷ ds) ds)) (sym last)
            (subst (λ es. FindsOff (r ∷ rs) l es) (sym (cond_true (t == 0) (d ∷ ds) ds mine)) (p, off_at r rs, off_at r rs, was.1, finds_below p r rs ds was.1 lows was.0));
      }
  own_step base l (TopEnd t p u n) rs fm h k s le low all own f = at_end
    where
      r : Numbered C N
      r = record { lsn = l; is = TopEnd t p u n }

      at_end : TakenSystem (r ∷ rs)
      at_end = record {
        over = gone_own l t (TopEnd t p u n) rs own;
        finds = subst (λ a. FindsOff (r ∷ rs) (last_of 0 (r ∷ rs)) (open_of 0 (open_not_of a (tally rs).opened))) (sym own)
            (subst (λ ds. FindsOff (r ∷ rs) (last_of 0 (r ∷ rs)) ds) (sym (own_none 0 (tally rs).opened)) (ap (λ a. off a (r ∷ rs)) (subst (λ a. last_of a (r ∷ rs) ≡ l) own (last_here l (TopEnd t p u n) rs)) ∙ off_at r rs));
      }
  own_step base l (PhysComp t p u c) rs fm h k s le low all own f =
      let x : Record C N = PhysComp t p u c in
      let r : Numbered C N = record { lsn = l; is = x } in
      let ds : List (Open C) = open_up_to 0 u (open_of 0 (tally rs).opened) in
      let now : open_of 0 (open_up_to t u (tally rs).opened) ≡ ds = subst (λ a. open_of 0 (open_up_to a u (tally rs).opened) ≡ ds) (sym own) (of_up_to 0 u (tally rs).opened) in
      let mine : Each (λ e. e.transaction ≡ 0) (open_of 0 (tally rs).opened) = own_of 0 (tally rs).opened in
      let over : Each (IsOver rs) (open_of 0 (tally rs).opened) = each_filter (IsOver rs) (λ e. e.transaction == 0) (tally rs).opened s.over in
      let order : Pairs Behind (open_of 0 (tally rs).opened) = pairs_filter Behind (λ e. e.transaction == 0) (tally rs).opened h.order in
      let lows : Each (λ e. e.lsn < l) (open_of 0 (tally rs).opened) = each_filter (λ e. e.lsn < l) (λ e. e.transaction == 0) (tally rs).opened (each_more (λ e. e.lsn < next_lsn rs) (λ e. e.lsn < l) (tally rs).opened (λ e z. lt_of_lt_of_le z le) h.opens) in
      let from : FindsOff rs u ds = goes_on base u rs fm all (open_of 0 (tally rs).opened) mine (each_more (λ e. (e.transaction ≡ 0) × IsOver rs e) (λ e. border_of 0 rs < e.lsn) (open_of 0 (tally rs).opened) (λ e z. (z.1 z.0).0) (each_both (λ e. e.transaction ≡ 0) (IsOver rs) (open_of 0 (tally rs).opened) mine over)) order s.finds f.1 in
      record {
        over = each_filter (IsOver (r ∷ rs)) (λ e. not (e.transaction == t && nat_lt u e.lsn)) (tally rs).opened (over_own l t x rs refl own h le s.over);
        finds = subst (λ a. FindsOff (r ∷ rs) a (open_of 0 (open_up_to t u (tally rs).opened))) (sym (subst (λ a. last_of a (r ∷ rs) ≡ l) own (last_here l x rs)))
            (subst (λ es. FindsOff (r ∷ rs) l es) (sym now) (finds_on u r rs ds refl (each_filter (λ e. e.lsn < l) (λ e. not (e.transaction == 0 && nat_lt u e.lsn)) (open_of 0 (tally rs).opened) lows) from));
      }
  own_step base l (TopVoid t p u) rs fm h k s le low all own f = at_end
    where
      r : Numbered C N
      r = record { lsn = l; is = TopVoid t p u }

      at_end : TakenSystem (r ∷ rs)
      at_end = record {
        over = gone_own l t (TopVoid t p u) rs own;
        finds = subst (λ a. FindsOff (r ∷ rs) (last_of 0 (r ∷ rs)) (open_of 0 (open_not_of a (tally rs).opened))) (sym own)
            (subst (λ ds. FindsOff (r ∷ rs) (last_of 0 (r ∷ rs)) ds) (sym (own_none 0 (tally rs).opened)) (ap (λ a. off a (r ∷ rs)) (subst (λ a. last_of a (r ∷ rs) ≡ l) own (last_here l (TopVoid t p u) rs)) ∙ off_at r rs));
      }
  own_step base l (CompEnd t p u) rs fm h k s le low all own f = absurd f
  own_step base l (Save t p m) rs fm h k s le low all own f = absurd f
  own_step base l (Commit t p) rs fm h k s le low all own f = absurd f
  own_step base l (End t p) rs fm h k s le low all own f = absurd f

  -- The take-off of the system's action finds its open changes from the system's last record on.
  pub taken_system : (base : ℕ) (rs : List (Numbered C N)) → Each (λ r. base ≤ r.lsn) rs → Formed rs → AreOwned rs → FormedSystem base rs → TakenSystem rs
  taken_system base [] a f o g = record { over = tt; finds = refl }
  taken_system base (r ∷ rs) a f o g =
      let s = taken_system base rs a.1 f.2 o.1 g.1 in
      by_test s (txn_of r.is == 0) refl
    where
      by_test : TakenSystem rs → (b : Bool) → (txn_of r.is == 0) ≡ b → TakenSystem (r ∷ rs)
      by_test s true e =
          let own = number_is (txn_of r.is) 0 e in
          own_step base r.lsn r.is rs f.2 (sound rs f.2) (taken rs f.2 o.1) s f.0 a.0 a.1 own (g.0 own)
      by_test s false e =
          let ne : 0 ≡ txn_of r.is → ⊥ = λ is. clash (txn_of r.is == 0) e (subst (λ a. (a == 0) ≡ true) is (same_number 0)) in
          let h = sound rs f.2 in
          let ds : List (Open C) = open_of 0 (tally rs).opened in
          let lows : Each (λ e. e.lsn < r.lsn) ds = each_filter (λ e. e.lsn < r.lsn) (λ e. e.transaction == 0) (tally rs).opened (each_more (λ e. e.lsn < next_lsn rs) (λ e. e.lsn < r.lsn) (tally rs).opened (λ e z. lt_of_lt_of_le z f.0) h.opens) in
          record {
            over = over_other r.lsn r.is rs ne s.over;
            finds = subst (λ a. FindsOff (r ∷ rs) a (open_of 0 (said r.lsn r.is (tally rs)).opened)) (sym (last_other r.lsn r.is rs 0 ne))
                (subst (λ es. FindsOff (r ∷ rs) (last_of 0 rs) es) (sym (other_open r.lsn r.is (tally rs) 0 ne)) (finds_below (last_of 0 rs) r rs ds (lt_of_lt_of_le ((taken rs f.2 o.1).lasts 0) f.0) lows s.finds));
          }
