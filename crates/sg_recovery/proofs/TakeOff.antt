-- The walk of a take-off finds the open changes of a formed log, the last one first.
use Rattle.std.proofs.Common.{◌≡◌, ℕ, ◌+◌, ◌<◌, ◌≤◌, ◌==◌, nat_lt, arith, Bool, true, false, cond, not, ◌&&◌, List, [], ◌∷◌, filter, None, refl, sym, ap, ◌∙◌, subst, le_of_eq, le_of_lt, lt_of_lt_of_le, lt_of_le_of_lt}
use Rattle.sg_recovery.specs.Log.{Record, Numbered, Open, Tally, said, tally, is_in, without, open_of, open_not_of, open_up_to}
use Rattle.sg_recovery.specs.Log.Record.{Begin, Change, TopEnd, PhysComp, TopVoid, CompEnd, Save, Commit, End}
use Rattle.sg_recovery.specs.Laws.{Each}
use Rattle.sg_recovery.specs.Chains.{txn_of, is_border, last_of, border_of, next_lsn, next_off, Follows, IsKnown, Behind, Formed, Sound}
use Rattle.sg_recovery.specs.TakeOff.{visit_off, off, FindsOff, IsOwned, AreOwned, Taken}
use Rattle.sg_recovery.proofs.Basic.{cond_true, cond_false, each_more, each_both, each_filter, each_kept, filter_all, filter_none, filter_same, filter_filter, same_number, number_is, other_number, or_cases}
use Rattle.sg_recovery.proofs.Showing.{each_all, without_in, without_not}
use Rattle.sg_recovery.proofs.Chaining.{clash, differ, and_test, other_live, border_here, border_stays, border_other, takes_first, sound}
use Rattle.sg_recovery.proofs.Running.{pairs_filter}
use Rattle.sg_recovery.specs.Shows.{Pairs}

open_others : {C : Type 0} (u t : ℕ) (p : Open C → Bool) (ds : List (Open C)) → ((d : Open C) → (d.transaction ≡ t → ⊥) → p d ≡ true) → (u ≡ t → ⊥) → open_of u (filter p ds) ≡ open_of u ds
open_others u t p ds all ne =
    filter_filter (λ d. d.transaction == u) p ds
    ∙ filter_same (λ d. d.transaction == u && p d) (λ d. d.transaction == u) ds (each_all (λ d. (d.transaction == u && p d) ≡ (d.transaction == u)) ds (λ d. and_test (d.transaction == u) (p d) (λ e. all d (λ is. ne (sym (number_is d.transaction u e) ∙ is)))))

-- its own are none once it has ended
pub own_none : {C : Type 0} (t : ℕ) (ds : List (Open C)) → open_of t (open_not_of t ds) ≡ []
own_none t ds =
    filter_filter (λ d. d.transaction == t) (λ d. not (d.transaction == t)) ds ∙ filter_none (λ d. d.transaction == t && not (d.transaction == t)) ds (each_all (λ d. (d.transaction == t && not (d.transaction == t)) ≡ false) ds (λ d. never (d.transaction == t)))
  where
    never : (b : Bool) → (b && not b) ≡ false
    never true = refl
    never false = refl

-- where none is a transaction's own, each is another's
pub none_own : {C : Type 0} (t : ℕ) (ds : List (Open C)) → open_of t ds ≡ [] → Each (λ d. d.transaction ≡ t → ⊥) ds
none_own t [] e = tt
none_own t (d ∷ ds) e = by_test (d.transaction == t) refl e (none_own t ds)
  where
    by_test : (b : Bool) → (d.transaction == t) ≡ b → cond b (d ∷ open_of t ds) (open_of t ds) ≡ [] → (open_of t ds ≡ [] → Each (λ d. d.transaction ≡ t → ⊥) ds) → (d.transaction ≡ t → ⊥) × Each (λ d. d.transaction ≡ t → ⊥) ds
    by_test true i z g = absurd (cc)
    by_test false i z g = ((λ is. clash (d.transaction == t) i (subst (λ a. (d.transaction == a) ≡ true) is (same_number d.transaction))), g z)

pub all_own : {C : Type 0} (t : ℕ) (ds : List (Open C)) → Each (λ d. d.transaction ≡ t) ds → open_of t ds ≡ ds
all_own t ds h = filter_all (λ d. d.transaction == t) ds (each_more (λ d. d.transaction ≡ t) (λ d. (d.transaction == t) ≡ true) ds (λ d e. subst (λ z. (d.transaction == z) ≡ true) e (same_number d.transaction)) h)

pub own_of : {C : Type 0} (t : ℕ) (ds : List (Open C)) → Each (λ d. d.transaction ≡ t) (open_of t ds)
own_of t ds = each_kept (λ d. Unit {0}) (λ d. d.transaction ≡ t) (λ d. d.transaction == t) ds (λ d z e. number_is d.transaction t e) (each_all (λ d. Unit {0}) ds (λ d. tt))

and_swap : (a b : Bool) → (a && b) ≡ (b && a)
and_swap true true = refl
and_swap true false = refl
and_swap false true = refl
and_swap false false = refl

pub of_up_to : {C : Type 0} (t u : ℕ) (ds : List (Open C)) → open_of t (open_up_to t u ds) ≡ open_up_to t u (open_of t ds)
of_up_to t u ds =
    filter_filter (λ d. d.transaction == t) (λ d. not (d.transaction == t && nat_lt u d.lsn)) ds
    ∙ (filter_same (λ d. d.transaction == t && not (d.transaction == t && nat_lt u d.lsn)) (λ d. not (d.transaction == t && nat_lt u d.lsn) && d.transaction == t) ds (each_all (λ d. (d.transaction == t && not (d.transaction == t && nat_lt u d.lsn)) ≡ (not (d.transaction == t && nat_lt u d.lsn) && d.transaction == t)) ds (λ d. and_swap (d.transaction == t) (not (d.transaction == t && nat_lt u d.lsn))))
    ∙ sym (filter_filter (λ d. not (d.transaction == t && nat_lt u d.lsn)) (λ d. d.transaction == t) ds))

module _ {C N : Type 0} where
  pub off_below : (at : ℕ) (r : Numbered C N) (rs : List (Numbered C N)) → at < r.lsn → off at (r ∷ rs) ≡ off at rs
  off_below at r rs lt = cond_false (r.lsn == at) (visit_off r.lsn r.is (λ u. off u rs)) (off at rs) (other_number r.lsn at (λ e. absurd (omega arith)))

  pub off_at : (r : Numbered C N) (rs : List (Numbered C N)) → off r.lsn (r ∷ rs) ≡ visit_off r.lsn r.is (λ u. off u rs)
  off_at r rs = cond_true (r.lsn == r.lsn) (visit_off r.lsn r.is (λ u. off u rs)) (off r.lsn rs) (same_number r.lsn)

  pub finds_below : (at : ℕ) (r : Numbered C N) (rs : List (Numbered C N)) (ds : List (Open C)) → at < r.lsn → Each (λ d. d.lsn < r.lsn) ds → FindsOff rs at ds → FindsOff (r ∷ rs) at ds
  finds_below at r rs [] lt h f = off_below at r rs lt ∙ f
  finds_below at r rs (d ∷ ds) lt h f =
      (f.0, off_below at r rs lt ∙ f.1, off_below d.lsn r rs h.0 ∙ f.2, f.3, finds_below f.0 r rs ds (low f.0 f.3 h.0) h.1 f.4)
    where
      low : (p : ℕ) → p < d.lsn → d.lsn < r.lsn → p < r.lsn
      low p a b = omega arith

  -- from another LSN at which the same is found
  finds_from : (rs : List (Numbered C N)) (a b : ℕ) (ds : List (Open C)) → off b rs ≡ off a rs → FindsOff rs a ds → FindsOff rs b ds
  finds_from rs a b [] e f = e ∙ f
  finds_from rs a b (d ∷ ds) e f = (f.0, e ∙ f.1, f.2, f.3, f.4)

  -- a record goes on to an LSN
  pub finds_on : (u : ℕ) (r : Numbered C N) (rs : List (Numbered C N)) (ds : List (Open C)) → visit_off r.lsn r.is (λ v. off v rs) ≡ off u rs → Each (λ d. d.lsn < r.lsn) ds → FindsOff rs u ds → FindsOff (r ∷ rs) r.lsn ds
  finds_on u r rs [] e h f = off_at r rs ∙ (e ∙ f)
  finds_on u r rs (d ∷ ds) e h f =
      (f.0, off_at r rs ∙ (e ∙ f.1), off_below d.lsn r rs h.0 ∙ f.2, f.3, finds_below f.0 r rs ds (low f.0 f.3 h.0) h.1 f.4)
    where
      low : (p : ℕ) → p < d.lsn → d.lsn < r.lsn → p < r.lsn
      low p a b = omega arith

  -- the undo-next of a phys-comp comes to where the change that is taken off pointed to
  pub finds_next : (rs : List (Numbered C N)) (border p : ℕ) (ds : List (Open C)) → off border rs ≡ None → FindsOff rs p ds → FindsOff rs (next_off border ds) ds
  finds_next rs border p [] none f = none
  finds_next rs border p (d ∷ ds) none f = (f.0, f.2, f.2, f.3, f.4)

  pub other_open : (l : ℕ) (x : Record C N) (k : Tally C N) (u : ℕ) → (u ≡ txn_of x → ⊥) → open_of u (said l x k).opened ≡ open_of u k.opened
  other_open l (Begin t p) k u ne = refl
  other_open l (Change t p c) k u ne = cond_false (t == u) (record { lsn = l; transaction = t; change = c } ∷ open_of u k.opened) (open_of u k.opened) (other_number t u (λ e. ne (sym e)))
  other_open l (TopEnd t p w n) k u ne = open_others u t (λ d. not (d.transaction == t)) k.opened (λ d z. ap not (other_number d.transaction t z)) ne
  other_open l (PhysComp t p w c) k u ne = open_others u t (λ d. not (d.transaction == t && nat_lt w d.lsn)) k.opened (λ d z. ap (λ b. not (b && nat_lt w d.lsn)) (other_number d.transaction t z)) ne
  other_open l (TopVoid t p w) k u ne = open_others u t (λ d. not (d.transaction == t)) k.opened (λ d z. ap not (other_number d.transaction t z)) ne
  other_open l (CompEnd t p w) k u ne = open_others u t (λ d. not (d.transaction == t)) k.opened (λ d z. ap not (other_number d.transaction t z)) ne
  other_open l (Save t p m) k u ne = refl
  other_open l (Commit t p) k u ne = refl
  other_open l (End t p) k u ne = refl

  last_low : (l : ℕ) (x : Record C N) (rs : List (Numbered C N)) (t : ℕ) → last_of t rs < next_lsn rs → next_lsn rs ≤ l → last_of t (record { lsn = l; is = x } ∷ rs) < l + 1
  last_low l x rs t low le = by_test (txn_of x == t)
    where
      by_test : (b : Bool) → cond b l (last_of t rs) < l + 1
      by_test true = omega arith
      by_test false = omega arith

  pub last_here : (l : ℕ) (x : Record C N) (rs : List (Numbered C N)) → last_of (txn_of x) (record { lsn = l; is = x } ∷ rs) ≡ l
  last_here l x rs = cond_true (txn_of x == txn_of x) l (last_of (txn_of x) rs) (same_number (txn_of x))

  pub last_other : (l : ℕ) (x : Record C N) (rs : List (Numbered C N)) (t : ℕ) → (t ≡ txn_of x → ⊥) → last_of t (record { lsn = l; is = x } ∷ rs) ≡ last_of t rs
  last_other l x rs t ne = cond_false (txn_of x == t) l (last_of t rs) (other_number (txn_of x) t (λ e. ne (sym e)))

  -- a border: nothing is found from it
  pub at_border : (l : ℕ) (x : Record C N) (rs : List (Numbered C N)) → is_border x ≡ true → visit_off l x (λ u. off u rs) ≡ None
  at_border l (Begin t p) rs e = refl
  at_border l (Change t p c) rs e = absurd (cc)
  at_border l (TopEnd t p u n) rs e = refl
  at_border l (PhysComp t p u c) rs e = absurd (cc)
  at_border l (TopVoid t p u) rs e = refl
  at_border l (CompEnd t p u) rs e = refl
  at_border l (Save t p m) rs e = refl
  at_border l (Commit t p) rs e = refl
  at_border l (End t p) rs e = refl

  -- its own transaction behind a border with nothing open
  own_border : (l : ℕ) (x : Record C N) (rs : List (Numbered C N)) → is_border x ≡ true → open_of (txn_of x) (said l x (tally rs)).opened ≡ []
      → FindsOff (record { lsn = l; is = x } ∷ rs) (last_of (txn_of x) (record { lsn = l; is = x } ∷ rs)) (open_of (txn_of x) (said l x (tally rs)).opened) × (off (border_of (txn_of x) (record { lsn = l; is = x } ∷ rs)) (record { lsn = l; is = x } ∷ rs) ≡ None)
  own_border l x rs b none =
      let r : Numbered C N = record { lsn = l; is = x } in
      let nothing : off l (r ∷ rs) ≡ None = off_at r rs ∙ at_border l x rs b in
      (subst (λ ds. FindsOff (r ∷ rs) (last_of (txn_of x) (r ∷ rs)) ds) (sym none) (ap (λ a. off a (r ∷ rs)) (last_here l x rs) ∙ nothing), ap (λ a. off a (r ∷ rs)) (border_here l x rs b) ∙ nothing)

  -- no change of a transaction that begins now is open
  pub none_yet : (l t : ℕ) (rs : List (Numbered C N)) → t ≡ l → Sound rs → Taken rs → next_lsn rs ≤ l → Each (λ d. d.transaction ≡ t → ⊥) (tally rs).opened
  none_yet l t rs is h k le = each_more (λ d. (d.lsn < next_lsn rs) × (d.transaction ≤ d.lsn)) (λ d. d.transaction ≡ t → ⊥) (tally rs).opened (λ d z e. absurd (low d.transaction d.lsn z.0 z.1 e)) (each_both (λ d. d.lsn < next_lsn rs) (λ d. d.transaction ≤ d.lsn) (tally rs).opened h.opens k.owned)
    where
      low : (dt dl : ℕ) → dl < next_lsn rs → dt ≤ dl → dt ≡ t → ⊥
      low dt dl a b e = absurd (omega arith)

  pub none_of : (t : ℕ) (rs : List (Numbered C N)) → Each (λ d. d.transaction ≡ t → ⊥) (tally rs).opened → open_of t (tally rs).opened ≡ []
  none_of t rs h = filter_none (λ d. d.transaction == t) (tally rs).opened (each_more (λ d. d.transaction ≡ t → ⊥) (λ d. (d.transaction == t) ≡ false) (tally rs).opened (λ d ne. other_number d.transaction t ne) h)

  own_offs : (l : ℕ) (x : Record C N) (rs : List (Numbered C N)) → Formed rs → Sound rs → Taken rs → next_lsn rs ≤ l → (IsKnown (tally rs) x → Follows rs l x) → is_in (txn_of x) (said l x (tally rs)).live ≡ true
      → FindsOff (record { lsn = l; is = x } ∷ rs) (last_of (txn_of x) (record { lsn = l; is = x } ∷ rs)) (open_of (txn_of x) (said l x (tally rs)).opened) × (off (border_of (txn_of x) (record { lsn = l; is = x } ∷ rs)) (record { lsn = l; is = x } ∷ rs) ≡ None)
  own_offs l (Begin t p) rs fm h k le f live = own_border l (Begin t p) rs refl (none_of t rs (none_yet l t rs (f tt).0 h k le))
  own_offs l (Change t p c) rs fm h k le f live =
      let x : Record C N = Change t p c in
      let r : Numbered C N = record { lsn = l; is = x } in
      let d : Open C = record { lsn = l; transaction = t; change = c } in
      let ds : List (Open C) = open_of t (tally rs).opened in
      let o = k.offs t live in
      let is : p ≡ last_of t rs = f live in
      let lows : Each (λ e. e.lsn < l) ds = each_filter (λ e. e.lsn < l) (λ e. e.transaction == t) (tally rs).opened (each_more (λ e. e.lsn < next_lsn rs) (λ e. e.lsn < l) (tally rs).opened (λ e z. lt_of_lt_of_le z le) h.opens) in
      let below : p < l = lt_of_le_of_lt (le_of_eq is) (lt_of_lt_of_le (k.lasts t) le) in (
        subst (λ a. FindsOff (r ∷ rs) a (cond (t == t) (d ∷ ds) ds)) (sym (last_here l x rs))
            (subst (λ es. FindsOff (r ∷ rs) l es) (sym (cond_true (t == t) (d ∷ ds) ds (same_number t)))
            (p, off_at r rs, off_at r rs, below, finds_below p r rs ds below lows (subst (λ a. FindsOff rs a ds) (sym is) o.0))),
        ap (λ a. off a (r ∷ rs)) (border_stays l x rs t refl) ∙ (off_below (border_of t rs) r rs (lt_of_lt_of_le (h.borders t) le) ∙ o.1),
      )
  own_offs l (TopEnd t p u n) rs fm h k le f live = own_border l (TopEnd t p u n) rs refl (own_none t (tally rs).opened)
  own_offs l (PhysComp t p u c) rs fm h k le f live =
      let x : Record C N = PhysComp t p u c in
      let r : Numbered C N = record { lsn = l; is = x } in
      let g = f live in
      let d : Open C = g.1.0 in
      let ds : List (Open C) = g.1.1 in
      let is : open_of t (tally rs).opened ≡ d ∷ ds = g.1.2 in
      let undo : u ≡ next_off (border_of t rs) ds = g.1.3 in
      let own : Each (λ e. e.transaction ≡ t) (d ∷ ds) = subst (Each (λ e. e.transaction ≡ t)) is (own_of t (tally rs).opened) in
      let o = k.offs t live in
      let was : FindsOff rs (last_of t rs) (d ∷ ds) = subst (λ es. FindsOff rs (last_of t rs) es) is o.0 in
      let above : Each (λ e. is_in e.transaction (tally rs).live ≡ true → border_of e.transaction rs < e.lsn) (d ∷ ds) = subst (Each (λ e. is_in e.transaction (tally rs).live ≡ true → border_of e.transaction rs < e.lsn)) is (each_filter (λ e. is_in e.transaction (tally rs).live ≡ true → border_of e.transaction rs < e.lsn) (λ e. e.transaction == t) (tally rs).opened k.above) in
      let border : border_of t rs < d.lsn = subst (λ a. border_of a rs < d.lsn) own.0 (above.0 (subst (λ a. is_in a (tally rs).live ≡ true) (sym own.0) live)) in
      let order : Pairs Behind (d ∷ ds) = subst (Pairs Behind) is (pairs_filter Behind (λ e. e.transaction == t) (tally rs).opened h.order) in
      let now : open_of t (open_up_to t u (tally rs).opened) ≡ ds =
      of_up_to t u (tally rs).opened ∙ (ap (open_up_to t u) is ∙ takes_first t u (border_of t rs) d ds order own.0 border undo) in
      let lows : Each (λ e. e.lsn < l) (d ∷ ds) = subst (Each (λ e. e.lsn < l)) is (each_filter (λ e. e.lsn < l) (λ e. e.transaction == t) (tally rs).opened (each_more (λ e. e.lsn < next_lsn rs) (λ e. e.lsn < l) (tally rs).opened (λ e z. lt_of_lt_of_le z le) h.opens)) in
      let from : FindsOff rs u ds = subst (λ a. FindsOff rs a ds) (sym undo) (finds_next rs (border_of t rs) was.0 ds o.1 was.4) in (
        subst (λ a. FindsOff (r ∷ rs) a (open_of t (open_up_to t u (tally rs).opened))) (sym (last_here l x rs))
            (subst (λ es. FindsOff (r ∷ rs) l es) (sym now) (finds_on u r rs ds refl lows.1 from)),
        ap (λ a. off a (r ∷ rs)) (border_stays l x rs t refl) ∙ (off_below (border_of t rs) r rs (lt_of_lt_of_le (h.borders t) le) ∙ o.1),
      )
  own_offs l (TopVoid t p u) rs fm h k le f live = own_border l (TopVoid t p u) rs refl (own_none t (tally rs).opened)
  own_offs l (CompEnd t p u) rs fm h k le f live = own_border l (CompEnd t p u) rs refl (own_none t (tally rs).opened)
  own_offs l (Save t p m) rs fm h k le f live = own_border l (Save t p m) rs refl (f live).1
  own_offs l (Commit t p) rs fm h k le f live = absurd (clash (is_in t (without t (tally rs).live)) (without_not t (tally rs).live) live)
  own_offs l (End t p) rs fm h k le f live = absurd (clash (is_in t (without t (tally rs).live)) (without_not t (tally rs).live) live)

  other_offs : (l : ℕ) (x : Record C N) (rs : List (Numbered C N)) → Sound rs → Taken rs → next_lsn rs ≤ l → (t : ℕ) → (t ≡ txn_of x → ⊥) → is_in t (said l x (tally rs)).live ≡ true
      → FindsOff (record { lsn = l; is = x } ∷ rs) (last_of t (record { lsn = l; is = x } ∷ rs)) (open_of t (said l x (tally rs)).opened) × (off (border_of t (record { lsn = l; is = x } ∷ rs)) (record { lsn = l; is = x } ∷ rs) ≡ None)
  other_offs l x rs h k le t ne live =
      let r : Numbered C N = record { lsn = l; is = x } in
      let o = k.offs t (sym (other_live l x (tally rs) t ne) ∙ live) in
      let ds : List (Open C) = open_of t (tally rs).opened in
      let lows : Each (λ e. e.lsn < l) ds = each_filter (λ e. e.lsn < l) (λ e. e.transaction == t) (tally rs).opened (each_more (λ e. e.lsn < next_lsn rs) (λ e. e.lsn < l) (tally rs).opened (λ e z. lt_of_lt_of_le z le) h.opens) in (
        subst (λ a. FindsOff (r ∷ rs) a (open_of t (said l x (tally rs)).opened)) (sym (last_other l x rs t ne))
            (subst (λ es. FindsOff (r ∷ rs) (last_of t rs) es) (sym (other_open l x (tally rs) t ne)) (finds_below (last_of t rs) r rs ds (lt_of_lt_of_le (k.lasts t) le) lows o.0)),
        ap (λ a. off a (r ∷ rs)) (border_other l x rs t ne) ∙ (off_below (border_of t rs) r rs (lt_of_lt_of_le (h.borders t) le) ∙ o.1),
      )

  owned_more : (l : ℕ) (x : Record C N) (rs : List (Numbered C N)) → Taken rs → txn_of x ≤ l → Each (λ d. d.transaction ≤ d.lsn) (said l x (tally rs)).opened
  owned_more l (Begin t p) rs k le = k.owned
  owned_more l (Change t p c) rs k le = (le, k.owned)
  owned_more l (TopEnd t p u n) rs k le = each_filter (λ d. d.transaction ≤ d.lsn) (λ d. not (d.transaction == t)) (tally rs).opened k.owned
  owned_more l (PhysComp t p u c) rs k le = each_filter (λ d. d.transaction ≤ d.lsn) (λ d. not (d.transaction == t && nat_lt u d.lsn)) (tally rs).opened k.owned
  owned_more l (TopVoid t p u) rs k le = each_filter (λ d. d.transaction ≤ d.lsn) (λ d. not (d.transaction == t)) (tally rs).opened k.owned
  owned_more l (CompEnd t p u) rs k le = each_filter (λ d. d.transaction ≤ d.lsn) (λ d. not (d.transaction == t)) (tally rs).opened k.owned
  owned_more l (Save t p m) rs k le = k.owned
  owned_more l (Commit t p) rs k le = k.owned
  owned_more l (End t p) rs k le = k.owned

  -- an open change is above the border of its live transaction
  abbrev Over : ℕ → Record C N → List (Numbered C N) → List ℕ → Open C → Type 0
  Over l x rs live d = is_in d.transaction live ≡ true → border_of d.transaction (record { lsn = l; is = x } ∷ rs) < d.lsn

  abbrev Was : List (Numbered C N) → Open C → Type 0
  Was rs d = is_in d.transaction (tally rs).live ≡ true → border_of d.transaction rs < d.lsn

  -- of another transaction it still is
  over_other : (l : ℕ) (x : Record C N) (rs : List (Numbered C N)) (live : List ℕ) (d : Open C) → (is_in d.transaction live ≡ true → is_in d.transaction (tally rs).live ≡ true) → (d.transaction ≡ txn_of x → ⊥) → Was rs d → Over l x rs live d
  over_other l x rs live d less ne h is = lt_of_le_of_lt (le_of_eq (border_other l x rs d.transaction ne)) (h (less is))

  over_not_of : (l : ℕ) (x : Record C N) (rs : List (Numbered C N)) → Taken rs → Each (Over l x rs (tally rs).live) (filter (λ d. not (d.transaction == txn_of x)) (tally rs).opened)
  over_not_of l x rs k =
      each_kept (Was rs) (Over l x rs (tally rs).live) (λ d. not (d.transaction == txn_of x)) (tally rs).opened
      (λ d z e. over_other l x rs (tally rs).live d (λ is. is) (λ is. differ (d.transaction == txn_of x) e (subst (λ a. (d.transaction == a) ≡ true) is (same_number d.transaction))) z) k.above

  over_stays : (l : ℕ) (x : Record C N) (rs : List (Numbered C N)) → is_border x ≡ false → Taken rs → Each (Over l x rs (tally rs).live) (tally rs).opened
  over_stays l x rs e k = each_more (Was rs) (Over l x rs (tally rs).live) (tally rs).opened (λ d z is. lt_of_le_of_lt (le_of_eq (border_stays l x rs d.transaction e)) (z is)) k.above

  -- one that ends
  over_ended : (l : ℕ) (x : Record C N) (rs : List (Numbered C N)) → Taken rs → Each (Over l x rs (without (txn_of x) (tally rs).live)) (tally rs).opened
  over_ended l x rs k =
      each_more (Was rs) (Over l x rs (without (txn_of x) (tally rs).live)) (tally rs).opened
      (λ d z is. over_other l x rs (without (txn_of x) (tally rs).live) d (without_in (txn_of x) d.transaction (tally rs).live)
      (λ same. clash (is_in d.transaction (without (txn_of x) (tally rs).live)) (subst (λ a. is_in a (without (txn_of x) (tally rs).live) ≡ false) (sym same) (without_not (txn_of x) (tally rs).live)) is) z is) k.above

  above_more : (l : ℕ) (x : Record C N) (rs : List (Numbered C N)) → Sound rs → Taken rs → next_lsn rs ≤ l → (IsKnown (tally rs) x → Follows rs l x) → Each (Over l x rs (said l x (tally rs)).live) (said l x (tally rs)).opened
  above_more l (Begin t p) rs h k le f =
      each_more (λ d. (d.transaction ≡ t → ⊥) × Was rs d) (Over l (Begin t p) rs (t ∷ (tally rs).live)) (tally rs).opened
      (λ d z. over_other l (Begin t p) rs (t ∷ (tally rs).live) d
      (λ is. or_cases (t == d.transaction) (is_in d.transaction (tally rs).live) (is_in d.transaction (tally rs).live ≡ true) is (λ e. absurd (z.0 (sym (number_is t d.transaction e)))) (λ y. y)) z.0 z.1)
      (each_both (λ d. d.transaction ≡ t → ⊥) (Was rs) (tally rs).opened (none_yet l t rs (f tt).0 h k le) k.above)
  above_more l (Change t p c) rs h k le f =
      ((λ is. lt_of_le_of_lt (le_of_eq (border_stays l (Change t p c) rs t refl)) (lt_of_lt_of_le (h.borders t) le)), over_stays l (Change t p c) rs refl k)
  above_more l (TopEnd t p u n) rs h k le f = over_not_of l (TopEnd t p u n) rs k
  above_more l (PhysComp t p u c) rs h k le f = each_filter (Over l (PhysComp t p u c) rs (tally rs).live) (λ d. not (d.transaction == t && nat_lt u d.lsn)) (tally rs).opened (over_stays l (PhysComp t p u c) rs refl k)
  above_more l (TopVoid t p u) rs h k le f = over_not_of l (TopVoid t p u) rs k
  above_more l (CompEnd t p u) rs h k le f = over_not_of l (CompEnd t p u) rs k
  above_more l (Save t p m) rs h k le f = by_live (is_in t (tally rs).live) refl
    where
      x : Record C N
      x = Save t p m

      by_live : (b : Bool) → is_in t (tally rs).live ≡ b → Each (Over l x rs (tally rs).live) (tally rs).opened
      by_live true e =
          each_more (λ d. (d.transaction ≡ t → ⊥) × Was rs d) (Over l x rs (tally rs).live) (tally rs).opened (λ d z. over_other l x rs (tally rs).live d (λ is. is) z.0 z.1)
          (each_both (λ d. d.transaction ≡ t → ⊥) (Was rs) (tally rs).opened (none_own t (tally rs).opened (f e).1) k.above)
      by_live false e =
          each_more (Was rs) (Over l x rs (tally rs).live) (tally rs).opened
          (λ d z is. over_other l x rs (tally rs).live d (λ y. y) (λ same. clash (is_in d.transaction (tally rs).live) (subst (λ a. is_in a (tally rs).live ≡ false) (sym same) e) is) z is) k.above
  above_more l (Commit t p) rs h k le f = over_ended l (Commit t p) rs k
  above_more l (End t p) rs h k le f = over_ended l (End t p) rs k

  -- a record's transaction isn't above its number
  pub owned_low : (l : ℕ) (x : Record C N) → IsOwned l x → txn_of x ≤ l
  owned_low l (Begin t p) h = le_of_eq h
  owned_low l (Change t p c) h = le_of_lt h
  owned_low l (TopEnd t p u n) h = le_of_lt h
  owned_low l (PhysComp t p u c) h = le_of_lt h
  owned_low l (TopVoid t p u) h = le_of_lt h
  owned_low l (CompEnd t p u) h = le_of_lt h
  owned_low l (Save t p m) h = le_of_lt h
  owned_low l (Commit t p) h = le_of_lt h
  owned_low l (End t p) h = le_of_lt h

  -- The take-off of a live transaction's action finds its open changes from its last record on.
  pub taken : (rs : List (Numbered C N)) → Formed rs → AreOwned rs → Taken rs
  taken [] f o = record { lasts = λ t. omega arith; owned = tt; above = tt; offs = λ t live. (refl, refl) }
  taken (r ∷ rs) f o =
      let k = taken rs f.2 o.1 in
      let h = sound rs f.2 in
      record {
        lasts = λ t. last_low r.lsn r.is rs t (k.lasts t) f.0;
        owned = owned_more r.lsn r.is rs k (owned_low r.lsn r.is o.0);
        above = above_more r.lsn r.is rs h k f.0 f.1;
        offs = λ t live. by_test h k t live (t == txn_of r.is) refl;
      }
    where
      by_test : Sound rs → Taken rs → (t : ℕ) → is_in t (said r.lsn r.is (tally rs)).live ≡ true → (b : Bool) → (t == txn_of r.is) ≡ b
          → FindsOff (r ∷ rs) (last_of t (r ∷ rs)) (open_of t (said r.lsn r.is (tally rs)).opened) × (off (border_of t (r ∷ rs)) (r ∷ rs) ≡ None)
      by_test h k t live true e =
          let is : t ≡ txn_of r.is = number_is t (txn_of r.is) e in
          subst (λ u. FindsOff (r ∷ rs) (last_of u (r ∷ rs)) (open_of u (said r.lsn r.is (tally rs)).opened) × (off (border_of u (r ∷ rs)) (r ∷ rs) ≡ None)) (sym is)
          (own_offs r.lsn r.is rs f.2 h k f.0 f.1 (subst (λ u. is_in u (said r.lsn r.is (tally rs)).live ≡ true) is live))
      by_test h k t live false e = other_offs r.lsn r.is rs h k f.0 t (λ is. clash (t == txn_of r.is) e (subst (λ a. (t == a) ≡ true) is (same_number t))) live
