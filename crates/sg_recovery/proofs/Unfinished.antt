-- In a formed log the open changes are those of the one action without an end.
use Rattle.std.proofs.Common.{◌≡◌, ◌⊎◌, inl, inr, ℕ, ◌<◌, ◌≤◌, ◌==◌, nat_lt, arith, Bool, true, false, not, ◌&&◌, List, [], ◌∷◌, refl, sym, subst, le_trans, le_of_eq, le_of_lt, lt_of_lt_of_le, lt_of_le_of_lt}
use Rattle.sg_recovery.specs.Log.{Record, Numbered, Open, said, tally, is_in, open_not_of}
use Rattle.sg_recovery.specs.Log.Record.{Begin, Change, TopEnd, PhysComp, TopVoid, CompEnd, Save, Commit, End}
use Rattle.sg_recovery.specs.Laws.{Each}
use Rattle.sg_recovery.specs.Chains.{txn_of, is_border, last_of, border_of, next_lsn, Formed, Sound}
use Rattle.sg_recovery.specs.TakeOff.{FindsOff, IsOwned, AreOwned, Taken}
use Rattle.sg_recovery.specs.Formed.{IsUnfinished, IsBetween, AreBetween, IsLog, IsOfLast}
use Rattle.sg_recovery.proofs.Basic.{each_more, each_both, each_filter, each_kept, same_number, number_is}
use Rattle.sg_recovery.proofs.Chaining.{clash, differ, border_stays, border_other, sound}
use Rattle.sg_recovery.proofs.TakeOff.{last_here, last_other, none_own, none_yet, all_own, taken}
use Rattle.sg_recovery.proofs.SystemTakeOff.{taken_system}

module _ {C N : Type 0} where
  -- a record of another transaction
  kept_other : (l : ℕ) (x : Record C N) (rs : List (Numbered C N)) (d : Open C) → (d.transaction ≡ txn_of x → ⊥) → IsOfLast rs d → IsOfLast (record { lsn = l; is = x } ∷ rs) d
  kept_other l x rs d ne h =
      record { behind = lt_of_le_of_lt (le_of_eq (border_other l x rs d.transaction ne)) h.behind; within = le_trans h.within (le_of_eq (sym (last_other l x rs d.transaction ne))) }

  -- a record that ends no action
  kept_on : (l : ℕ) (x : Record C N) (rs : List (Numbered C N)) (d : Open C) → is_border x ≡ false → d.lsn ≤ l → IsOfLast rs d → IsOfLast (record { lsn = l; is = x } ∷ rs) d
  kept_on l x rs d b low h = by_test (d.transaction == txn_of x) refl
    where
      by_test : (c : Bool) → (d.transaction == txn_of x) ≡ c → IsOfLast (record { lsn = l; is = x } ∷ rs) d
      by_test true e =
          record {
            behind = lt_of_le_of_lt (le_of_eq (border_stays l x rs d.transaction b)) h.behind;
            within = le_trans low (le_of_eq (sym (subst (λ a. last_of a (record { lsn = l; is = x } ∷ rs) ≡ l) (sym (number_is d.transaction (txn_of x) e)) (last_here l x rs))));
          }
      by_test false e = kept_other l x rs d (λ is. clash (d.transaction == txn_of x) e (subst (λ a. (d.transaction == a) ≡ true) is (same_number d.transaction))) h

  lows : (l : ℕ) (rs : List (Numbered C N)) → Sound rs → next_lsn rs ≤ l → Each (λ d. d.lsn ≤ l) (tally rs).opened
  lows l rs h le = each_more (λ d. d.lsn < next_lsn rs) (λ d. d.lsn ≤ l) (tally rs).opened (λ d z. le_trans (le_of_lt z) le) h.opens

  all_on : (l : ℕ) (x : Record C N) (rs : List (Numbered C N)) → is_border x ≡ false → Sound rs → next_lsn rs ≤ l → Each (IsOfLast rs) (tally rs).opened → Each (IsOfLast (record { lsn = l; is = x } ∷ rs)) (tally rs).opened
  all_on l x rs b h le k =
      each_more (λ d. (d.lsn ≤ l) × IsOfLast rs d) (IsOfLast (record { lsn = l; is = x } ∷ rs)) (tally rs).opened (λ d z. kept_on l x rs d b z.0 z.1) (each_both (λ d. d.lsn ≤ l) (IsOfLast rs) (tally rs).opened (lows l rs h le) k)

  none_of_it : (l : ℕ) (x : Record C N) (rs : List (Numbered C N)) → Each (λ d. d.transaction ≡ txn_of x → ⊥) (tally rs).opened → Each (IsOfLast rs) (tally rs).opened → Each (IsOfLast (record { lsn = l; is = x } ∷ rs)) (tally rs).opened
  none_of_it l x rs ne k =
      each_more (λ d. (d.transaction ≡ txn_of x → ⊥) × IsOfLast rs d) (IsOfLast (record { lsn = l; is = x } ∷ rs)) (tally rs).opened (λ d z. kept_other l x rs d z.0 z.1)
      (each_both (λ d. d.transaction ≡ txn_of x → ⊥) (IsOfLast rs) (tally rs).opened ne k)

  others_stay : (l : ℕ) (x : Record C N) (rs : List (Numbered C N)) → Each (IsOfLast rs) (tally rs).opened → Each (IsOfLast (record { lsn = l; is = x } ∷ rs)) (open_not_of (txn_of x) (tally rs).opened)
  others_stay l x rs k =
      each_kept (IsOfLast rs) (IsOfLast (record { lsn = l; is = x } ∷ rs)) (λ d. not (d.transaction == txn_of x)) (tally rs).opened
      (λ d z e. kept_other l x rs d (λ is. differ (d.transaction == txn_of x) e (subst (λ a. (d.transaction == a) ≡ true) is (same_number d.transaction))) z) k

  of_last_more : (l : ℕ) (x : Record C N) (rs : List (Numbered C N)) → Sound rs → Taken rs → next_lsn rs ≤ l → IsOwned l x → IsBetween rs x → Each (IsOfLast rs) (tally rs).opened → Each (IsOfLast (record { lsn = l; is = x } ∷ rs)) (said l x (tally rs)).opened
  of_last_more l (Begin t p) rs h k le o b s = none_of_it l (Begin t p) rs (none_yet l t rs o h k le) s
  of_last_more l (Change t p c) rs h k le o b s =
      (record { behind = lt_of_le_of_lt (le_of_eq (border_stays l (Change t p c) rs t refl)) (lt_of_lt_of_le (h.borders t) le); within = le_of_eq (sym (last_here l (Change t p c) rs)) }, all_on l (Change t p c) rs refl h le s)
  of_last_more l (TopEnd t p u n) rs h k le o b s = others_stay l (TopEnd t p u n) rs s
  of_last_more l (PhysComp t p u c) rs h k le o b s =
      each_filter (IsOfLast (record { lsn = l; is = PhysComp t p u c } ∷ rs)) (λ d. not (d.transaction == t && nat_lt u d.lsn)) (tally rs).opened (all_on l (PhysComp t p u c) rs refl h le s)
  of_last_more l (TopVoid t p u) rs h k le o b s = others_stay l (TopVoid t p u) rs s
  of_last_more l (CompEnd t p u) rs h k le o b s = others_stay l (CompEnd t p u) rs s
  of_last_more l (Save t p m) rs h k le o b s = none_of_it l (Save t p m) rs (none_own t (tally rs).opened b) s
  of_last_more l (Commit t p) rs h k le o b s = none_of_it l (Commit t p) rs (none_own t (tally rs).opened b) s
  of_last_more l (End t p) rs h k le o b s = none_of_it l (End t p) rs (none_own t (tally rs).opened b) s

  -- each open change is of its transaction's last action
  pub all_of_last : (rs : List (Numbered C N)) → Formed rs → AreOwned rs → AreBetween rs → Each (IsOfLast rs) (tally rs).opened
  all_of_last [] f o b = tt
  all_of_last (r ∷ rs) f o b = of_last_more r.lsn r.is rs (sound rs f.2) (taken rs f.2 o.1) f.0 o.0 b.0 (all_of_last rs f.2 o.1 b.1)

  unfinished_all : (rs : List (Numbered C N)) → Each (IsOfLast rs) (tally rs).opened → Each (λ d. IsUnfinished rs d.transaction) (tally rs).opened
  unfinished_all rs h = each_more (IsOfLast rs) (λ d. IsUnfinished rs d.transaction) (tally rs).opened (λ d z e. absurd (never d.lsn (border_of d.transaction rs) (last_of d.transaction rs) z.behind z.within e)) h
    where
      never : (at border last : ℕ) → border < at → at ≤ last → last ≡ border → ⊥
      never at border last a b e = absurd (omega arith)

  -- where an action has no end, the take-off finds from its last record on all changes that are open
  pub all_found : (base : ℕ) (rs : List (Numbered C N)) → IsLog base rs → (t : ℕ) → IsUnfinished rs t → FindsOff rs (last_of t rs) (tally rs).opened × Each (λ d. d.transaction ≡ t) (tally rs).opened
  all_found base rs h t un = (by_whose (h.one_action.whose t un), mine)
    where
      mine : Each (λ d. d.transaction ≡ t) (tally rs).opened
      mine = each_more (λ d. IsUnfinished rs d.transaction) (λ d. d.transaction ≡ t) (tally rs).opened (λ d z. h.one_action.one d.transaction t z un) (unfinished_all rs (all_of_last rs h.chained h.owned h.between))

      by_whose : (t ≡ 0) ⊎ (is_in t (tally rs).live ≡ true) → FindsOff rs (last_of t rs) (tally rs).opened
      by_whose (inl is) = subst (λ a. FindsOff rs (last_of a rs) (tally rs).opened) (sym is) (subst (λ ds. FindsOff rs (last_of 0 rs) ds) (all_own 0 (tally rs).opened (subst (λ a. Each (λ d. d.transaction ≡ a) (tally rs).opened) is mine)) (taken_system base rs h.above h.chained h.owned h.system).finds)
      by_whose (inr live) = subst (λ ds. FindsOff rs (last_of t rs) ds) (all_own t (tally rs).opened mine) ((taken rs h.chained h.owned).offs t live).0

  -- and where each has one, no change is open
  pub none_found : (base : ℕ) (rs : List (Numbered C N)) → IsLog base rs → last_of 0 rs ≡ border_of 0 rs → ((t : ℕ) → is_in t (tally rs).live ≡ true → last_of t rs ≡ border_of t rs) → (tally rs).opened ≡ []
  none_found base rs h system each = by_list (tally rs).opened (unfinished_all rs (all_of_last rs h.chained h.owned h.between))
    where
      finished : (t : ℕ) → (t ≡ 0) ⊎ (is_in t (tally rs).live ≡ true) → last_of t rs ≡ border_of t rs
      finished t (inl is) = subst (λ a. last_of a rs ≡ border_of a rs) (sym is) system
      finished t (inr live) = each t live

      by_list : (ds : List (Open C)) → Each (λ d. IsUnfinished rs d.transaction) ds → ds ≡ []
      by_list [] z = refl
      by_list (d ∷ ds) z = absurd (z.0 (finished d.transaction (h.one_action.whose d.transaction z.0)))
