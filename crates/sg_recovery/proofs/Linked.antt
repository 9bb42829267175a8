-- In a formed log whose actions go straight on, the open changes are linked.
use Rattle.std.proofs.Common.{◌≡◌, ◌⊎◌, inl, inr, ℕ, ◌<◌, ◌≤◌, ◌==◌, nat_lt, arith, Bool, true, false, cond, not, ◌&&◌, List, [], ◌∷◌, filter, Some, refl, sym, ap, ◌∙◌, subst, lt_of_lt_of_le}
use Rattle.std.specs.Bool.{MatchBool}
use Rattle.sg_recovery.specs.Log.{Record, Numbered, Open, said, tally, is_in, without, open_of, open_up_to}
use Rattle.sg_recovery.specs.Log.Record.{Begin, Change, TopEnd, PhysComp, TopVoid, CompEnd, Save, Commit, End}
use Rattle.sg_recovery.specs.Laws.{Each}
use Rattle.sg_recovery.specs.Shows.{Pairs}
use Rattle.sg_recovery.specs.Chains.{txn_of, last_of, border_of, next_lsn, next_off, Follows, IsKnown, Behind, Formed, Sound}
use Rattle.sg_recovery.specs.TakeOff.{AreOwned, Taken, TakenSystem, IsBefore, PrecedesSystem, FollowsSystem, FormedSystem}
use Rattle.sg_recovery.specs.Formed.{IsUnfinished, IsStraight, AreStraight, IsLog}
use Rattle.sg_recovery.specs.Linked.{record_at, AreLinked, LinkedSystem}
use Rattle.sg_recovery.proofs.Basic.{cond_true, cond_false, each_more, each_both, each_filter, lt_false, lt_not, same_number, number_is, other_number}
use Rattle.sg_recovery.proofs.Chaining.{clash, other_live, border_stays, border_other, takes_first, sound}
use Rattle.sg_recovery.proofs.TakeOff.{own_none, own_of, of_up_to, all_own, other_open, none_yet, none_of, taken}
use Rattle.sg_recovery.proofs.Running.{pairs_filter}
use Rattle.sg_recovery.proofs.Showing.{without_not}
use Rattle.sg_recovery.proofs.SystemTakeOff.{taken_system}
use Rattle.sg_recovery.proofs.Unfinished.{all_found}

before_low : (base l p : ℕ) → 0 < l → base ≤ l → IsBefore base p → p < l
before_low base l p some le (inl e) = omega (arith, some, e)
before_low base l p some le (inr e) = omega (arith, le, e)

-- what the system's first change of an action names
first_before : (base p last border : ℕ) → last ≡ border → MatchBool (last == border) (MatchBool (last == 0) (IsBefore base p) (p ≡ 0)) (p ≡ last) → IsBefore base p
first_before base p last border e h = by_first (last == border) (ap (λ b. last == b) (sym e) ∙ same_number last) h
  where
    by_zero : (b : Bool) → MatchBool b (IsBefore base p) (p ≡ 0) → IsBefore base p
    by_zero true z = z
    by_zero false z = inl z

    by_first : (b : Bool) → b ≡ true → MatchBool b (MatchBool (last == 0) (IsBefore base p) (p ≡ 0)) (p ≡ last) → IsBefore base p
    by_first true q z = by_zero (last == 0) z
    by_first false q z = absurd (cc)

-- and each later one
later_last : (base p last border : ℕ) → border < last → MatchBool (last == border) (MatchBool (last == 0) (IsBefore base p) (p ≡ 0)) (p ≡ last) → p ≡ last
later_last base p last border less h = by_first (last == border) (other_number last border (λ e. absurd (omega (arith, e, less)))) h
  where
    by_first : (b : Bool) → b ≡ false → MatchBool b (MatchBool (last == 0) (IsBefore base p) (p ≡ 0)) (p ≡ last) → p ≡ last
    by_first false q z = z
    by_first true q z = absurd (cc)

module _ {C N : Type 0} where
  -- THE FIVE LEMMAS of a record more
  pub record_here : (l : ℕ) (x : Record C N) (rs : List (Numbered C N)) → record_at (record { lsn = l; is = x } ∷ rs) l ≡ Some x
  record_here l x rs = cond_true (l == l) (Some x) (record_at rs l) (same_number l)

  pub record_below : (l at : ℕ) (x : Record C N) (rs : List (Numbered C N)) → at < l → record_at (record { lsn = l; is = x } ∷ rs) at ≡ record_at rs at
  record_below l at x rs less = cond_false (l == at) (Some x) (record_at rs at) (other_number l at (λ e. absurd (omega (arith, e, less))))

  pub linked_more : (rs : List (Numbered C N)) (l before : ℕ) (x : Record C N) (ds : List (Open C)) → next_lsn rs ≤ l → AreLinked rs before ds → AreLinked (record { lsn = l; is = x } ∷ rs) before ds
  linked_more rs l before x [] low h = tt
  linked_more rs l before x (d ∷ ds) low h = (record_below l d.lsn x rs (omega (arith, h.2, low)) ∙ h.0, h.1, omega (arith, h.2, low), linked_more rs l before x ds low h.3)

  pub next_low : (rs : List (Numbered C N)) (l before : ℕ) (ds : List (Open C)) → next_lsn rs ≤ l → before < l → AreLinked rs before ds → next_off before ds < l
  next_low rs l before [] low less h = less
  next_low rs l before (d ∷ ds) low less h = omega (arith, h.2, low)

  pub linked_change : (rs : List (Numbered C N)) (l before t p : ℕ) (c : C) (ds : List (Open C)) → next_lsn rs ≤ l → before < l → p ≡ next_off before ds → AreLinked rs before ds
      → AreLinked (record { lsn = l; is = Change t p c } ∷ rs) before (record { lsn = l; transaction = t; change = c } ∷ ds)
  linked_change rs l before t p c ds low less is h = (
    record_here l (Change t p c) rs ∙ ap (λ (q : ℕ). Some (Change t q c)) is,
    next_low rs l before ds low less h,
    omega arith,
    linked_more rs l before (Change t p c) ds low h,
  )

  -- a transaction that goes on
  abbrev Linked : List (Numbered C N) → ℕ → Type 0
  Linked rs t = AreLinked rs (border_of t rs) (open_of t (tally rs).opened)

  none_linked : (rs : List (Numbered C N)) (before : ℕ) (ds : List (Open C)) → ds ≡ [] → AreLinked rs before ds
  none_linked rs before ds e = subst (λ (xs : List (Open C)). AreLinked rs before xs) (sym e) tt

  other_linked : (l : ℕ) (x : Record C N) (rs : List (Numbered C N)) (t : ℕ) → next_lsn rs ≤ l → (t ≡ txn_of x → ⊥) → Linked rs t → Linked (record { lsn = l; is = x } ∷ rs) t
  other_linked l x rs t le ne h =
      subst (λ (ds : List (Open C)). AreLinked (record { lsn = l; is = x } ∷ rs) (border_of t (record { lsn = l; is = x } ∷ rs)) ds) (sym (other_open l x (tally rs) t ne))
      (subst (λ b. AreLinked (record { lsn = l; is = x } ∷ rs) b (open_of t (tally rs).opened)) (sym (border_other l x rs t ne))
      (linked_more rs l (border_of t rs) x (open_of t (tally rs).opened) le h))

  own_linked : (l : ℕ) (x : Record C N) (rs : List (Numbered C N)) → Sound rs → Taken rs → next_lsn rs ≤ l → (IsKnown (tally rs) x → Follows rs l x) → IsStraight rs x
      → ((t : ℕ) → is_in t (tally rs).live ≡ true → Linked rs t) → is_in (txn_of x) (said l x (tally rs)).live ≡ true → Linked (record { lsn = l; is = x } ∷ rs) (txn_of x)
  own_linked l (Begin t p) rs h k le f z i live = none_linked (record { lsn = l; is = Begin t p } ∷ rs) _ (open_of t (tally rs).opened) (none_of t rs (none_yet l t rs (f tt).0 h k le))
  own_linked l (Change t p c) rs h k le f z i live =
      let x : Record C N = Change t p c in
      let r : Numbered C N = record { lsn = l; is = x } in
      let d : Open C = record { lsn = l; transaction = t; change = c } in
      let ds : List (Open C) = open_of t (tally rs).opened in
      let is : p ≡ next_off (border_of t rs) ds = f live ∙ z (inr live) in
      subst (λ b. AreLinked (r ∷ rs) b (cond (t == t) (d ∷ ds) ds)) (sym (border_stays l x rs t refl))
      (subst (λ es. AreLinked (r ∷ rs) (border_of t rs) es) (sym (cond_true (t == t) (d ∷ ds) ds (same_number t)))
      (linked_change rs l (border_of t rs) t p c ds le (lt_of_lt_of_le (h.borders t) le) is (i t live)))
  own_linked l (TopEnd t p u n) rs h k le f z i live = none_linked (record { lsn = l; is = TopEnd t p u n } ∷ rs) _ _ (own_none t (tally rs).opened)
  own_linked l (PhysComp t p u c) rs h k le f z i live =
      let x : Record C N = PhysComp t p u c in
      let r : Numbered C N = record { lsn = l; is = x } in
      let g = f live in
      let d : Open C = g.1.0 in
      let ds : List (Open C) = g.1.1 in
      let is : open_of t (tally rs).opened ≡ d ∷ ds = g.1.2 in
      let undo : u ≡ next_off (border_of t rs) ds = g.1.3 in
      let own : Each (λ e. e.transaction ≡ t) (d ∷ ds) = subst (Each (λ e. e.transaction ≡ t)) is (own_of t (tally rs).opened) in
      let above : Each (λ e. is_in e.transaction (tally rs).live ≡ true → border_of e.transaction rs < e.lsn) (d ∷ ds) = subst (Each (λ e. is_in e.transaction (tally rs).live ≡ true → border_of e.transaction rs < e.lsn)) is (each_filter (λ e. is_in e.transaction (tally rs).live ≡ true → border_of e.transaction rs < e.lsn) (λ e. e.transaction == t) (tally rs).opened k.above) in
      let border : border_of t rs < d.lsn = subst (λ a. border_of a rs < d.lsn) own.0 (above.0 (subst (λ a. is_in a (tally rs).live ≡ true) (sym own.0) live)) in
      let order : Pairs Behind (d ∷ ds) = subst (Pairs Behind) is (pairs_filter Behind (λ e. e.transaction == t) (tally rs).opened h.order) in
      let now : open_of t (open_up_to t u (tally rs).opened) ≡ ds = of_up_to t u (tally rs).opened ∙ (ap (open_up_to t u) is ∙ takes_first t u (border_of t rs) d ds order own.0 border undo) in
      let was : AreLinked rs (border_of t rs) (d ∷ ds) = subst (λ es. AreLinked rs (border_of t rs) es) is (i t live) in
      subst (λ b. AreLinked (r ∷ rs) b (open_of t (open_up_to t u (tally rs).opened))) (sym (border_stays l x rs t refl))
      (subst (λ es. AreLinked (r ∷ rs) (border_of t rs) es) (sym now) (linked_more rs l (border_of t rs) x ds le was.3))
  own_linked l (TopVoid t p u) rs h k le f z i live = none_linked (record { lsn = l; is = TopVoid t p u } ∷ rs) _ _ (own_none t (tally rs).opened)
  own_linked l (CompEnd t p u) rs h k le f z i live = none_linked (record { lsn = l; is = CompEnd t p u } ∷ rs) _ _ (own_none t (tally rs).opened)
  own_linked l (Save t p m) rs h k le f z i live = none_linked (record { lsn = l; is = Save t p m } ∷ rs) _ _ (f live).1
  own_linked l (Commit t p) rs h k le f z i live = absurd (clash (is_in t (without t (tally rs).live)) (without_not t (tally rs).live) live)
  own_linked l (End t p) rs h k le f z i live = absurd (clash (is_in t (without t (tally rs).live)) (without_not t (tally rs).live) live)

  -- the open changes of a transaction that goes on are linked, down to its last border
  pub linked : (rs : List (Numbered C N)) → Formed rs → AreOwned rs → AreStraight rs → (t : ℕ) → is_in t (tally rs).live ≡ true → AreLinked rs (border_of t rs) (open_of t (tally rs).opened)
  linked [] f o z t live = tt
  linked (r ∷ rs) f o z t live = by_test (linked rs f.2 o.1 z.1) (sound rs f.2) (taken rs f.2 o.1) (t == txn_of r.is) refl
    where
      by_test : ((u : ℕ) → is_in u (tally rs).live ≡ true → Linked rs u) → Sound rs → Taken rs → (b : Bool) → (t == txn_of r.is) ≡ b → Linked (r ∷ rs) t
      by_test i h k true e =
          let is : t ≡ txn_of r.is = number_is t (txn_of r.is) e in
          subst (Linked (r ∷ rs)) (sym is) (own_linked r.lsn r.is rs h k f.0 f.1 z.0 i (subst (λ u. is_in u (said r.lsn r.is (tally rs)).live ≡ true) is live))
      by_test i h k false e =
          let ne : t ≡ txn_of r.is → ⊥ = λ is. clash (t == txn_of r.is) e (subst (λ a. (t == a) ≡ true) is (same_number t)) in
          other_linked r.lsn r.is rs t f.0 ne (i t (sym (other_live r.lsn r.is (tally rs) t ne) ∙ live))

  -- THE SYSTEM

  -- those up to a number are the last ones
  low_kept : (rs : List (Numbered C N)) (t u before : ℕ) (ds : List (Open C)) → next_off before ds ≤ u → AreLinked rs before ds → open_up_to t u ds ≡ ds
  low_kept rs t u before [] low h = refl
  low_kept rs t u before (d ∷ ds) low h =
      cond_true (not (d.transaction == t && nat_lt u d.lsn)) (d ∷ open_up_to t u ds) (open_up_to t u ds) (kept (d.transaction == t))
      ∙ ap (λ es. d ∷ es) (low_kept rs t u before ds (omega (arith, h.1, low)) h.3)
    where
      kept : (b : Bool) → not (b && nat_lt u d.lsn) ≡ true
      kept true = ap not (lt_false u d.lsn low)
      kept false = refl

  up_to_linked : (rs : List (Numbered C N)) (t u before : ℕ) (ds : List (Open C)) → Each (λ d. d.transaction ≡ t) ds → AreLinked rs before ds → AreLinked rs before (open_up_to t u ds)
  up_to_linked rs t u before [] own h = tt
  up_to_linked rs t u before (d ∷ ds) own h = by_test (up_to_linked rs t u before ds own.1 h.3) (nat_lt u d.lsn) refl
    where
      is_own : (d.transaction == t) ≡ true
      is_own = ap (λ a. a == t) own.0 ∙ same_number t

      by_test : AreLinked rs before (open_up_to t u ds) → (b : Bool) → nat_lt u d.lsn ≡ b → AreLinked rs before (open_up_to t u (d ∷ ds))
      by_test rest true e =
          subst (AreLinked rs before) (sym (cond_false (not (d.transaction == t && nat_lt u d.lsn)) (d ∷ open_up_to t u ds) (open_up_to t u ds) (λ i. not (is_own i && e i)))) rest
      by_test rest false e = subst (AreLinked rs before) (sym (low_kept rs t u before (d ∷ ds) (lt_not u d.lsn e) h)) h

  some_below : (l : ℕ) (rs : List (Numbered C N)) → next_lsn rs ≤ l → 0 < l
  some_below l [] h = omega (arith, h)
  some_below l (r ∷ rs) h = omega (arith, h)

  system_none : (base : ℕ) (rs : List (Numbered C N)) (ds : List (Open C)) → ds ≡ [] → LinkedSystem base rs ds
  system_none base rs ds e = record { before = 0; is_before = inl refl; linked = none_linked rs 0 ds e }

  system_change : (base l p : ℕ) (c : C) (rs : List (Numbered C N)) (ds : List (Open C)) → next_lsn rs ≤ l → base ≤ l → PrecedesSystem base rs p → last_of 0 rs ≡ next_off (border_of 0 rs) ds → Each (λ d. border_of 0 rs < d.lsn) ds
      → LinkedSystem base rs ds → LinkedSystem base (record { lsn = l; is = Change 0 p c } ∷ rs) (record { lsn = l; transaction = 0; change = c } ∷ ds)
  system_change base l p c rs [] le low precedes straight over h =
      let b = first_before base p (last_of 0 rs) (border_of 0 rs) straight precedes in
      record { before = p; is_before = b; linked = linked_change rs l p 0 p c [] le (before_low base l p (some_below l rs le) low b) refl tt }
  system_change base l p c rs (d ∷ ds) le low precedes straight over h =
      let is : p ≡ last_of 0 rs = later_last base p (last_of 0 rs) (border_of 0 rs) (subst (λ n. border_of 0 rs < n) (sym straight) over.0) precedes in
      record { before = h.before; is_before = h.is_before; linked = linked_change rs l h.before 0 p c (d ∷ ds) le (before_low base l h.before (some_below l rs le) low h.is_before) (is ∙ straight) h.linked }

  over_own : (rs : List (Numbered C N)) → TakenSystem rs → Each (λ d. border_of 0 rs < d.lsn) (open_of 0 (tally rs).opened)
  over_own rs k = each_more (λ d. (d.transaction ≡ 0) × (d.transaction ≡ 0 → (border_of 0 rs < d.lsn) × (d.lsn ≤ last_of 0 rs))) (λ d. border_of 0 rs < d.lsn) (open_of 0 (tally rs).opened) (λ d z. (z.1 z.0).0)
      (each_both (λ d. d.transaction ≡ 0) (λ d. d.transaction ≡ 0 → (border_of 0 rs < d.lsn) × (d.lsn ≤ last_of 0 rs)) (open_of 0 (tally rs).opened) (own_of 0 (tally rs).opened)
      (each_filter (λ d. d.transaction ≡ 0 → (border_of 0 rs < d.lsn) × (d.lsn ≤ last_of 0 rs)) (λ d. d.transaction == 0) (tally rs).opened k.over))

  own_system : (base l : ℕ) (x : Record C N) (rs : List (Numbered C N)) → TakenSystem rs → next_lsn rs ≤ l → base ≤ l → FollowsSystem base rs x → IsStraight rs x → txn_of x ≡ 0
      → LinkedSystem base rs (open_of 0 (tally rs).opened) → LinkedSystem base (record { lsn = l; is = x } ∷ rs) (open_of 0 (said l x (tally rs)).opened)
  own_system base l (Begin t p) rs k le low f z is h = absurd f
  own_system base l (Change t p c) rs k le low f z is h =
      let ds : List (Open C) = open_of 0 (tally rs).opened in
      subst (λ a. LinkedSystem base (record { lsn = l; is = Change a p c } ∷ rs) (open_of 0 (record { lsn = l; transaction = a; change = c } ∷ (tally rs).opened))) (sym is)
      (system_change base l p c rs ds le low f (subst (λ a. last_of a rs ≡ next_off (border_of a rs) (open_of a (tally rs).opened)) is (z (inl is))) (over_own rs k) h)
  own_system base l (TopEnd t p u n) rs k le low f z is h = system_none base (record { lsn = l; is = TopEnd t p u n } ∷ rs) _ (subst (λ a. open_of 0 (filter (λ d. not (d.transaction == a)) (tally rs).opened) ≡ []) (sym is) (own_none 0 (tally rs).opened))
  own_system base l (PhysComp t p u c) rs k le low f z is h =
      let ds : List (Open C) = open_of 0 (tally rs).opened in
      let now : open_of 0 (open_up_to t u (tally rs).opened) ≡ open_up_to 0 u ds = ap (λ a. open_of 0 (open_up_to a u (tally rs).opened)) is ∙ of_up_to 0 u (tally rs).opened in
      record {
        before = h.before;
        is_before = h.is_before;
        linked = subst (λ es. AreLinked (record { lsn = l; is = PhysComp t p u c } ∷ rs) h.before es) (sym now) (linked_more rs l h.before (PhysComp t p u c) (open_up_to 0 u ds) le (up_to_linked rs 0 u h.before ds (own_of 0 (tally rs).opened) h.linked));
      }
  own_system base l (TopVoid t p u) rs k le low f z is h = system_none base (record { lsn = l; is = TopVoid t p u } ∷ rs) _ (subst (λ a. open_of 0 (filter (λ d. not (d.transaction == a)) (tally rs).opened) ≡ []) (sym is) (own_none 0 (tally rs).opened))
  own_system base l (CompEnd t p u) rs k le low f z is h = absurd f
  own_system base l (Save t p m) rs k le low f z is h = absurd f
  own_system base l (Commit t p) rs k le low f z is h = absurd f
  own_system base l (End t p) rs k le low f z is h = absurd f

  other_system : (base l : ℕ) (x : Record C N) (rs : List (Numbered C N)) → next_lsn rs ≤ l → (0 ≡ txn_of x → ⊥) → LinkedSystem base rs (open_of 0 (tally rs).opened) → LinkedSystem base (record { lsn = l; is = x } ∷ rs) (open_of 0 (said l x (tally rs)).opened)
  other_system base l x rs le ne h = record {
    before = h.before;
    is_before = h.is_before;
    linked = subst (λ (ds : List (Open C)). AreLinked (record { lsn = l; is = x } ∷ rs) h.before ds) (sym (other_open l x (tally rs) 0 ne)) (linked_more rs l h.before x (open_of 0 (tally rs).opened) le h.linked);
  }

  pub linked_system : (base : ℕ) (rs : List (Numbered C N)) → Each (λ r. base ≤ r.lsn) rs → Formed rs → AreOwned rs → FormedSystem base rs → AreStraight rs → LinkedSystem base rs (open_of 0 (tally rs).opened)
  linked_system base [] a f o y z = system_none base [] [] refl
  linked_system base (r ∷ rs) a f o y z = by_test (linked_system base rs a.1 f.2 o.1 y.1 z.1) (taken_system base rs a.1 f.2 o.1 y.1) (txn_of r.is == 0) refl
    where
      by_test : LinkedSystem base rs (open_of 0 (tally rs).opened) → TakenSystem rs → (b : Bool) → (txn_of r.is == 0) ≡ b → LinkedSystem base (r ∷ rs) (open_of 0 (tally (r ∷ rs)).opened)
      by_test h k true e = let is : txn_of r.is ≡ 0 = number_is (txn_of r.is) 0 e in own_system base r.lsn r.is rs k f.0 a.0 (y.0 is) z.0 is h
      by_test h k false e = other_system base r.lsn r.is rs f.0 (λ is. clash (txn_of r.is == 0) e (subst (λ b. (b == 0) ≡ true) is (same_number 0))) h

  -- WHERE AN ACTION HAS NO END, all changes that are open are linked: those of a transaction down to its last border
  pub all_linked : (base : ℕ) (rs : List (Numbered C N)) → IsLog base rs → (t : ℕ) → IsUnfinished rs t
      → ((t ≡ 0) × LinkedSystem base rs (tally rs).opened) ⊎ ((is_in t (tally rs).live ≡ true) × AreLinked rs (border_of t rs) (tally rs).opened)
  all_linked base rs h t un = by_whose (h.one_action.whose t un)
    where
      mine : Each (λ d. d.transaction ≡ t) (tally rs).opened
      mine = (all_found base rs h t un).1

      by_whose : (t ≡ 0) ⊎ (is_in t (tally rs).live ≡ true) → ((t ≡ 0) × LinkedSystem base rs (tally rs).opened) ⊎ ((is_in t (tally rs).live ≡ true) × AreLinked rs (border_of t rs) (tally rs).opened)
      by_whose (inl is) = inl (is, subst (LinkedSystem base rs) (all_own 0 (tally rs).opened (subst (λ a. Each (λ d. d.transaction ≡ a) (tally rs).opened) is mine)) (linked_system base rs h.above h.chained h.owned h.system h.straight))
      by_whose (inr live) = inr (live, subst (AreLinked rs (border_of t rs)) (all_own t (tally rs).opened mine) (linked rs h.chained h.owned h.straight t live))
