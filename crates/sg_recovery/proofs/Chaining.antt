-- A formed log keeps its chains, and the walk of an undo finds the standing notes.
use Rattle.std.proofs.Common.{◌≡◌, ℕ, ◌+◌, ◌<◌, ◌≤◌, ◌==◌, nat_le, nat_lt, arith, Bool, true, false, cond, not, ◌&&◌, ◌||◌, List, [], ◌∷◌, filter, None, refl, sym, ap, ◌∙◌, subst, le_trans, le_of_eq, lt_of_lt_of_le, lt_of_le_of_lt, le_of_lt}
use Rattle.sg_recovery.specs.Log.{Record, Numbered, Open, Top, Tally, said, tally, is_in, without, open_of, open_not_of, open_up_to, notes_of, notes_not_of, notes_up_to, changes_of}
use Rattle.sg_recovery.specs.Log.Record.{Begin, Change, TopEnd, PhysComp, TopVoid, CompEnd, Save, Commit, End}
use Rattle.sg_recovery.specs.Laws.{Each}
use Rattle.sg_recovery.specs.Shows.{Pairs}
use Rattle.sg_recovery.specs.Chains.{txn_of, is_border, border_of, next_lsn, next_off, Follows, IsKnown, Behind, Formed, visit, walk, Finds, Chains, IsStanding, Sound}
use Rattle.sg_recovery.proofs.Basic.{cond_true, cond_false, each_more, each_both, each_filter, each_kept, filter_all, filter_none, filter_same, filter_filter, or_right, or_cases, same_number, number_is, other_number, le_is, le_true, le_false, lt_is, lt_true, lt_false, lt_not}
use Rattle.sg_recovery.proofs.Showing.{each_all, without_same, without_not}
use Rattle.sg_recovery.proofs.Running.{pairs_filter}

pub and_test : (a b : Bool) → (a ≡ true → b ≡ true) → (a && b) ≡ a
and_test true b f = f refl
and_test false b f = refl

and_swap : (a b : Bool) → (a && b) ≡ (b && a)
and_swap true true = refl
and_swap true false = refl
and_swap false true = refl
and_swap false false = refl

-- a note still stands
stands_on : (live : List ℕ) (b c t lsn undo : ℕ) → b ≤ c → IsStanding live b t lsn undo → IsStanding live c t lsn undo
stands_on live b c t lsn undo le h = record { is_live = h.is_live; above = h.above; within = omega (arith, h.within); before = h.before }

with_live : (live more : List ℕ) (b t lsn undo : ℕ) → is_in t more ≡ is_in t live → IsStanding live b t lsn undo → IsStanding more b t lsn undo
with_live live more b t lsn undo e h = record { is_live = e ∙ h.is_live; above = h.above; within = h.within; before = h.before }

pub clash : (c : Bool) → c ≡ false → c ≡ true → ⊥
clash c a z = absurd (cc)

pub live_below : (b t : ℕ) (live : List ℕ) → Each (λ u. u < b) live → is_in t live ≡ true → t < b
live_below b t [] h is = absurd (cc)
live_below b t (u ∷ live) h is = or_cases (u == t) (is_in t live) (t < b) is (λ e. subst (λ z. z < b) (number_is u t e) h.0) (live_below b t live h.1)

pub differ : (c : Bool) → not c ≡ true → c ≡ true → ⊥
differ true a z = absurd (cc)
differ false a z = absurd (cc)

-- where no change of another is open, each open one is its own
pub own_open : {C : Type 0} (t : ℕ) (ds : List (Open C)) → open_not_of t ds ≡ [] → Each (λ d. d.transaction ≡ t) ds
own_open t [] e = tt
own_open t (d ∷ ds) e = by_test (d.transaction == t) refl e (own_open t ds)
  where
    by_test : (b : Bool) → (d.transaction == t) ≡ b → cond (not b) (d ∷ open_not_of t ds) (open_not_of t ds) ≡ [] → (open_not_of t ds ≡ [] → Each (λ d. d.transaction ≡ t) ds) → (d.transaction ≡ t) × Each (λ d. d.transaction ≡ t) ds
    by_test true i k f = (number_is d.transaction t i, f k)
    by_test false i k f = absurd (cc)

-- A phys-comp of the last open change whose undo-next is the LSN of the next one, or one below the action, leaves the others.
pub takes_first : {C : Type 0} (t u border : ℕ) (d : Open C) (ds : List (Open C)) → Pairs Behind (d ∷ ds) → d.transaction ≡ t → border < d.lsn → u ≡ next_off border ds → open_up_to t u (d ∷ ds) ≡ ds
takes_first {C = C} t u border d ds order own low undo =
    cond_false (not (d.transaction == t && nat_lt u d.lsn)) (d ∷ open_up_to t u ds) (open_up_to t u ds) (ap (λ b. not (b && nat_lt u d.lsn)) (subst (λ a. (d.transaction == a) ≡ true) own (same_number d.transaction)) ∙ ap not (lt_true u d.lsn below))
    ∙ filter_all (λ e. not (e.transaction == t && nat_lt u e.lsn)) ds (each_more (λ e. e.lsn ≤ u) (λ e. not (e.transaction == t && nat_lt u e.lsn) ≡ true) ds (λ e z. ap not (none (e.transaction == t) (nat_lt u e.lsn) (lt_false u e.lsn z))) (rest_low ds order.1 undo))
  where
    first : (es : List (Open C)) → Each (Behind d) es → next_off border es < d.lsn
    first [] z = low
    first (e ∷ es) z = z.0

    below : u < d.lsn
    below = subst (λ a. a < d.lsn) (sym undo) (first ds order.0)

    none : (a b : Bool) → b ≡ false → (a && b) ≡ false
    none true b e = e
    none false b e = refl

    rest_low : (es : List (Open C)) → Pairs Behind es → u ≡ next_off border es → Each (λ e. e.lsn ≤ u) es
    rest_low [] z e = tt
    rest_low (a ∷ es) z e = (le_of_eq (sym e), each_more (Behind a) (λ b. b.lsn ≤ u) es (λ b y. le_trans (le_of_lt y) (le_of_eq (sym e))) z.0)

module _ {C N : Type 0} where
  walk_stops : (stop at : ℕ) (rs : List (Numbered C N)) → at ≤ stop → walk stop at rs ≡ None
  walk_stops stop at [] le = refl
  walk_stops stop at (r ∷ rs) le = cond_true (nat_le at stop) None _ (le_true at stop le)

  -- the walk begins below a record
  walk_below : (stop at : ℕ) (r : Numbered C N) (rs : List (Numbered C N)) → at < r.lsn → walk stop at (r ∷ rs) ≡ walk stop at rs
  walk_below stop at r rs lt =
      by_test (nat_le at stop) refl
    where
      other : (cond (r.lsn == at) (visit r.lsn r.is (tally rs) (λ u. walk stop u rs)) (walk stop at rs)) ≡ walk stop at rs
      other = cond_false (r.lsn == at) _ (walk stop at rs) (other_number r.lsn at (λ is. absurd (omega arith)))

      by_test : (b : Bool) → nat_le at stop ≡ b → cond b None (cond (r.lsn == at) (visit r.lsn r.is (tally rs) (λ u. walk stop u rs)) (walk stop at rs)) ≡ walk stop at rs
      by_test true e = sym (walk_stops stop at rs (le_is at stop e))
      by_test false e = other

  -- the walk begins at a record
  walk_at : (stop : ℕ) (r : Numbered C N) (rs : List (Numbered C N)) → stop < r.lsn → walk stop r.lsn (r ∷ rs) ≡ visit r.lsn r.is (tally rs) (λ u. walk stop u rs)
  walk_at stop r rs lt =
      cond_false (nat_le r.lsn stop) None _ (le_false r.lsn stop lt) ∙ cond_true (r.lsn == r.lsn) (visit r.lsn r.is (tally rs) (λ u. walk stop u rs)) (walk stop r.lsn rs) (same_number r.lsn)

  finds_below : (stop at : ℕ) (r : Numbered C N) (rs : List (Numbered C N)) (ns : List (Top C N)) → at < r.lsn → Each (λ n. n.undo_next < r.lsn) ns → Finds rs stop at ns → Finds (r ∷ rs) stop at ns
  finds_below stop at r rs [] lt h f = walk_below stop at r rs lt ∙ f
  finds_below stop at r rs (n ∷ ns) lt h f = (λ z. walk_below stop at r rs lt ∙ f.0 z, λ z. walk_below stop at r rs lt ∙ f.1 z, finds_below stop n.undo_next r rs ns h.0 h.1 f.2)

  -- the walk goes on from a record to where it found some notes
  finds_on : (stop at u : ℕ) (rs : List (Numbered C N)) (r : Numbered C N) (ns : List (Top C N)) → u < r.lsn → Each (λ n. n.undo_next < r.lsn) ns → visit r.lsn r.is (tally rs) (λ v. walk stop v rs) ≡ walk stop u rs
      → Finds rs stop u ns → stop < r.lsn → Finds (r ∷ rs) stop r.lsn ns
  finds_on stop at u rs r [] lt h same f above = walk_at stop r rs above ∙ (same ∙ f)
  finds_on stop at u rs r (n ∷ ns) lt h same f above = (λ z. walk_at stop r rs above ∙ (same ∙ f.0 z), λ z. walk_at stop r rs above ∙ (same ∙ f.1 z), finds_below stop n.undo_next r rs ns h.0 h.1 f.2)

  -- at or below the stop nothing is found
  finds_stopped : (stop at : ℕ) (rs : List (Numbered C N)) (ns : List (Top C N)) → at ≤ stop → Each (λ n. (n.lsn ≤ stop) × (n.undo_next < n.lsn)) ns → Finds rs stop at ns
  finds_stopped stop at rs [] le h = walk_stops stop at rs le
  finds_stopped stop at rs (n ∷ ns) le h = (λ z. absurd (contra h.0.0 z), λ z. walk_stops stop at rs le, finds_stopped stop n.undo_next rs ns (below h.0.0 h.0.1) h.1)
    where
      contra : n.lsn ≤ stop → stop < n.lsn → ⊥
      contra a b = absurd (omega arith)

      below : n.lsn ≤ stop → n.undo_next < n.lsn → n.undo_next ≤ stop
      below a b = omega arith

  finds_next : (stop u : ℕ) (rs : List (Numbered C N)) (r : Numbered C N) (ns : List (Top C N)) → u < r.lsn → Each (λ n. (n.lsn ≤ r.lsn) × (n.undo_next < n.lsn)) ns
      → visit r.lsn r.is (tally rs) (λ v. walk stop v rs) ≡ walk stop u rs → Finds rs stop u ns → Finds (r ∷ rs) stop r.lsn ns
  finds_next stop u rs r ns lt h same f = by_test (nat_lt stop r.lsn) refl
    where
      up : stop < r.lsn → Finds (r ∷ rs) stop r.lsn ns
      up above = finds_on stop r.lsn u rs r ns lt (each_more (λ n. (n.lsn ≤ r.lsn) × (n.undo_next < n.lsn)) (λ n. n.undo_next < r.lsn) ns (λ n z. low n.lsn n.undo_next z.0 z.1) h) same f above
        where
          low : (a b : ℕ) → a ≤ r.lsn → b < a → b < r.lsn
          low a b p q = omega arith

      down : r.lsn ≤ stop → Finds (r ∷ rs) stop r.lsn ns
      down le = finds_stopped stop r.lsn (r ∷ rs) ns le (each_more (λ n. (n.lsn ≤ r.lsn) × (n.undo_next < n.lsn)) (λ n. (n.lsn ≤ stop) × (n.undo_next < n.lsn)) ns (λ n z. (low n.lsn z.0, z.1)) h)
        where
          low : (a : ℕ) → a ≤ r.lsn → a ≤ stop
          low a p = omega arith

      by_test : (b : Bool) → nat_lt stop r.lsn ≡ b → Finds (r ∷ rs) stop r.lsn ns
      by_test true e = up (lt_is stop r.lsn e)
      by_test false e = down (lt_not stop r.lsn e)

  -- what a record does to another transaction's notes
  of_others : (u t : ℕ) (p : Top C N → Bool) (ns : List (Top C N)) → ((n : Top C N) → (n.transaction ≡ t → ⊥) → p n ≡ true) → (u ≡ t → ⊥) → notes_of u (filter p ns) ≡ notes_of u ns
  of_others u t p ns all ne =
      filter_filter (λ n. n.transaction == u) p ns
      ∙ filter_same (λ n. n.transaction == u && p n) (λ n. n.transaction == u) ns (each_all (λ n. (n.transaction == u && p n) ≡ (n.transaction == u)) ns (λ n. and_test (n.transaction == u) (p n) (λ e. all n (λ is. ne (sym (number_is n.transaction u e) ∙ is)))))

  other_notes : (l : ℕ) (x : Record C N) (k : Tally C N) (u : ℕ) → (u ≡ txn_of x → ⊥) → notes_of u (said l x k).notes ≡ notes_of u k.notes
  other_notes l (Begin t p) k u ne = refl
  other_notes l (Change t p c) k u ne = refl
  other_notes l (TopEnd t p w n) k u ne = by_test (is_in t k.live)
    where
      top : Top C N
      top = record { lsn = l; transaction = t; undo_next = w; note = n; changes = changes_of (open_of t k.opened) }

      by_test : (b : Bool) → notes_of u (cond b (top ∷ k.notes) k.notes) ≡ notes_of u k.notes
      by_test true = cond_false (t == u) (top ∷ notes_of u k.notes) (notes_of u k.notes) (other_number t u (λ e. ne (sym e)))
      by_test false = refl
  other_notes l (PhysComp t p w c) k u ne = refl
  other_notes l (TopVoid t p w) k u ne = refl
  other_notes l (CompEnd t p w) k u ne = of_others u t (λ n. not (n.transaction == t && nat_lt w n.lsn)) k.notes (λ n d. ap (λ b. not (b && nat_lt w n.lsn)) (other_number n.transaction t d)) ne
  other_notes l (Save t p m) k u ne = refl
  other_notes l (Commit t p) k u ne = of_others u t (λ n. not (n.transaction == t)) k.notes (λ n d. ap not (other_number n.transaction t d)) ne
  other_notes l (End t p) k u ne = of_others u t (λ n. not (n.transaction == t)) k.notes (λ n d. ap not (other_number n.transaction t d)) ne

  pub other_live : (l : ℕ) (x : Record C N) (k : Tally C N) (u : ℕ) → (u ≡ txn_of x → ⊥) → is_in u (said l x k).live ≡ is_in u k.live
  other_live l (Begin t p) k u ne = ap (λ b. b || is_in u k.live) (other_number t u (λ e. ne (sym e)))
  other_live l (Change t p c) k u ne = refl
  other_live l (TopEnd t p w n) k u ne = refl
  other_live l (PhysComp t p w c) k u ne = refl
  other_live l (TopVoid t p w) k u ne = refl
  other_live l (CompEnd t p w) k u ne = refl
  other_live l (Save t p m) k u ne = refl
  other_live l (Commit t p) k u ne = without_same t u k.live ne
  other_live l (End t p) k u ne = without_same t u k.live ne

  -- borders
  pub border_up : (l : ℕ) (x : Record C N) (rs : List (Numbered C N)) (t : ℕ) → border_of t rs < next_lsn rs → next_lsn rs ≤ l → border_of t rs ≤ border_of t (record { lsn = l; is = x } ∷ rs)
  border_up l x rs t low le = by_test (txn_of x == t && is_border x)
    where
      by_test : (b : Bool) → border_of t rs ≤ cond b l (border_of t rs)
      by_test true = omega arith
      by_test false = omega arith

  pub border_low : (l : ℕ) (x : Record C N) (rs : List (Numbered C N)) (t : ℕ) → border_of t rs < next_lsn rs → next_lsn rs ≤ l → border_of t (record { lsn = l; is = x } ∷ rs) < l + 1
  border_low l x rs t low le = by_test (txn_of x == t && is_border x)
    where
      by_test : (b : Bool) → cond b l (border_of t rs) < l + 1
      by_test true = omega arith
      by_test false = omega arith

  -- the new border of its own transaction
  pub border_here : (l : ℕ) (x : Record C N) (rs : List (Numbered C N)) → is_border x ≡ true → border_of (txn_of x) (record { lsn = l; is = x } ∷ rs) ≡ l
  border_here l x rs h = cond_true (txn_of x == txn_of x && is_border x) l (border_of (txn_of x) rs) (ap (λ b. b && is_border x) (same_number (txn_of x)) ∙ h)

  pub border_stays : (l : ℕ) (x : Record C N) (rs : List (Numbered C N)) (t : ℕ) → is_border x ≡ false → border_of t (record { lsn = l; is = x } ∷ rs) ≡ border_of t rs
  border_stays l x rs t h = cond_false (txn_of x == t && is_border x) l (border_of t rs) (ap (λ b. txn_of x == t && b) h ∙ none (txn_of x == t))
    where
      none : (b : Bool) → (b && false) ≡ false
      none true = refl
      none false = refl

  pub border_other : (l : ℕ) (x : Record C N) (rs : List (Numbered C N)) (t : ℕ) → (t ≡ txn_of x → ⊥) → border_of t (record { lsn = l; is = x } ∷ rs) ≡ border_of t rs
  border_other l x rs t ne = cond_false (txn_of x == t && is_border x) l (border_of t rs) (ap (λ b. b && is_border x) (other_number (txn_of x) t (λ e. ne (sym e))))

  -- a later note is the comp-end's, and the earlier ones of its transaction stay
  rest_stays : (t : ℕ) (n : Top C N) (ns : List (Top C N)) → n.transaction ≡ t → n.undo_next < n.lsn → Each (λ m. m.lsn ≤ n.undo_next) ns → notes_up_to t n.undo_next (n ∷ ns) ≡ ns
  rest_stays t n ns is lt low =
      cond_false (not (n.transaction == t && nat_lt n.undo_next n.lsn)) (n ∷ notes_up_to t n.undo_next ns) (notes_up_to t n.undo_next ns)
      (ap (λ b. not (b && nat_lt n.undo_next n.lsn)) (subst (λ z. (n.transaction == z) ≡ true) is (same_number n.transaction)) ∙ ap not (lt_true n.undo_next n.lsn lt))
      ∙ filter_all (λ m. not (m.transaction == t && nat_lt n.undo_next m.lsn)) ns (each_more (λ m. m.lsn ≤ n.undo_next) (λ m. not (m.transaction == t && nat_lt n.undo_next m.lsn) ≡ true) ns (λ m le. ap not (none (m.transaction == t) (nat_lt n.undo_next m.lsn) (lt_false n.undo_next m.lsn le))) low)
    where
      none : (a b : Bool) → b ≡ false → (a && b) ≡ false
      none true b e = e
      none false b e = refl

  -- those of a transaction, all of them
  own_notes : (t : ℕ) (ns : List (Top C N)) → Each (λ n. n.transaction ≡ t) (notes_of t ns)
  own_notes t ns = each_kept (λ n. Unit {0}) (λ n. n.transaction ≡ t) (λ n. n.transaction == t) ns (λ n z e. number_is n.transaction t e) (each_all (λ n. Unit {0}) ns (λ n. tt))

  -- a note's facts at a transaction
  own_standing : (live : List ℕ) (rs : List (Numbered C N)) (t : ℕ) (ns : List (Top C N)) → Each (λ n. IsStanding live (border_of n.transaction rs) n.transaction n.lsn n.undo_next) ns
      → Each (λ n. (n.lsn ≤ border_of t rs) × (n.undo_next < n.lsn)) (notes_of t ns)
  own_standing live rs t ns h =
      each_kept (λ n. IsStanding live (border_of n.transaction rs) n.transaction n.lsn n.undo_next) (λ n. (n.lsn ≤ border_of t rs) × (n.undo_next < n.lsn)) (λ n. n.transaction == t) ns
      (λ n z e. (subst (λ u. n.lsn ≤ border_of u rs) (number_is n.transaction t e) z.within, z.before)) h

  -- the notes from before still stand, with more that are live
  still : (l : ℕ) (x : Record C N) (rs : List (Numbered C N)) (live : List ℕ) (ns : List (Top C N)) → ((t : ℕ) → border_of t rs < next_lsn rs) → next_lsn rs ≤ l
      → Each (λ n. (is_in n.transaction live ≡ true) × IsStanding (tally rs).live (border_of n.transaction rs) n.transaction n.lsn n.undo_next) ns
      → Each (λ n. IsStanding live (border_of n.transaction (record { lsn = l; is = x } ∷ rs)) n.transaction n.lsn n.undo_next) ns
  still l x rs live ns low le k =
      each_more (λ n. (is_in n.transaction live ≡ true) × IsStanding (tally rs).live (border_of n.transaction rs) n.transaction n.lsn n.undo_next) (λ n. IsStanding live (border_of n.transaction (record { lsn = l; is = x } ∷ rs)) n.transaction n.lsn n.undo_next) ns
      (λ n z. record { is_live = z.0; above = z.1.above; within = le_trans z.1.within (border_up l x rs n.transaction (low n.transaction) le); before = z.1.before }) k

  same_live : (rs : List (Numbered C N)) (ns : List (Top C N)) → Each (λ n. IsStanding (tally rs).live (border_of n.transaction rs) n.transaction n.lsn n.undo_next) ns
      → Each (λ n. (is_in n.transaction (tally rs).live ≡ true) × IsStanding (tally rs).live (border_of n.transaction rs) n.transaction n.lsn n.undo_next) ns
  same_live rs ns h = each_more (λ n. IsStanding (tally rs).live (border_of n.transaction rs) n.transaction n.lsn n.undo_next) (λ n. (is_in n.transaction (tally rs).live ≡ true) × IsStanding (tally rs).live (border_of n.transaction rs) n.transaction n.lsn n.undo_next) ns (λ n z. (z.is_live, z)) h

  -- a note's transaction isn't the one that ends
  not_ended : (rs : List (Numbered C N)) (t : ℕ) (ns : List (Top C N)) → Each (λ n. IsStanding (tally rs).live (border_of n.transaction rs) n.transaction n.lsn n.undo_next) ns
      → Each (λ n. (is_in n.transaction (without t (tally rs).live) ≡ true) × IsStanding (tally rs).live (border_of n.transaction rs) n.transaction n.lsn n.undo_next) (notes_not_of t ns)
  not_ended rs t ns h =
      each_kept (λ n. IsStanding (tally rs).live (border_of n.transaction rs) n.transaction n.lsn n.undo_next) (λ n. (is_in n.transaction (without t (tally rs).live) ≡ true) × IsStanding (tally rs).live (border_of n.transaction rs) n.transaction n.lsn n.undo_next)
      (λ n. not (n.transaction == t)) ns (λ n z e. (without_same t n.transaction (tally rs).live (λ is. differ (n.transaction == t) e (subst (λ a. (n.transaction == a) ≡ true) is (same_number n.transaction))) ∙ z.is_live, z)) h

  notes_more : (l : ℕ) (x : Record C N) (rs : List (Numbered C N)) → Sound rs → next_lsn rs ≤ l → (IsKnown (tally rs) x → Follows rs l x)
      → Each (λ n. IsStanding (said l x (tally rs)).live (border_of n.transaction (record { lsn = l; is = x } ∷ rs)) n.transaction n.lsn n.undo_next) (said l x (tally rs)).notes
  notes_more l (Begin t p) rs h le f =
      still l (Begin t p) rs (t ∷ (tally rs).live) (tally rs).notes h.borders le
      (each_more (λ n. IsStanding (tally rs).live (border_of n.transaction rs) n.transaction n.lsn n.undo_next) (λ n. (is_in n.transaction (t ∷ (tally rs).live) ≡ true) × IsStanding (tally rs).live (border_of n.transaction rs) n.transaction n.lsn n.undo_next) (tally rs).notes
      (λ n z. (or_right (t == n.transaction) (is_in n.transaction (tally rs).live) z.is_live, z)) h.notes)
  notes_more l (Change t p c) rs h le f = still l (Change t p c) rs (tally rs).live (tally rs).notes h.borders le (same_live rs (tally rs).notes h.notes)
  notes_more l (TopEnd t p u n) rs h le f = by_test (is_in t (tally rs).live) refl
    where
      top : Top C N
      top = record { lsn = l; transaction = t; undo_next = u; note = n; changes = changes_of (open_of t (tally rs).opened) }

      x : Record C N
      x = TopEnd t p u n

      P : Top C N → Type 0
      P m = IsStanding (tally rs).live (border_of m.transaction (record { lsn = l; is = x } ∷ rs)) m.transaction m.lsn m.undo_next

      old : Each P (tally rs).notes
      old = still l x rs (tally rs).live (tally rs).notes h.borders le (same_live rs (tally rs).notes h.notes)

      by_test : (b : Bool) → is_in t (tally rs).live ≡ b → Each P (cond b (top ∷ (tally rs).notes) (tally rs).notes)
      by_test true e = (record { is_live = e; above = lt_of_lt_of_le (live_below (next_lsn rs) t (tally rs).live h.lives e) le; within = le_of_eq (sym (border_here l x rs refl)); before = lt_of_lt_of_le (subst (λ z. z < next_lsn rs) (sym (f e).1) (h.borders t)) le }, old)
      by_test false e = old
  notes_more l (PhysComp t p u c) rs h le f = still l (PhysComp t p u c) rs (tally rs).live (tally rs).notes h.borders le (same_live rs (tally rs).notes h.notes)
  notes_more l (TopVoid t p u) rs h le f = still l (TopVoid t p u) rs (tally rs).live (tally rs).notes h.borders le (same_live rs (tally rs).notes h.notes)
  notes_more l (CompEnd t p u) rs h le f =
      each_filter (λ n. IsStanding (tally rs).live (border_of n.transaction (record { lsn = l; is = CompEnd t p u } ∷ rs)) n.transaction n.lsn n.undo_next) (λ n. not (n.transaction == t && nat_lt u n.lsn)) (tally rs).notes
      (still l (CompEnd t p u) rs (tally rs).live (tally rs).notes h.borders le (same_live rs (tally rs).notes h.notes))
  notes_more l (Save t p m) rs h le f = still l (Save t p m) rs (tally rs).live (tally rs).notes h.borders le (same_live rs (tally rs).notes h.notes)
  notes_more l (Commit t p) rs h le f = still l (Commit t p) rs (without t (tally rs).live) (notes_not_of t (tally rs).notes) h.borders le (not_ended rs t (tally rs).notes h.notes)
  notes_more l (End t p) rs h le f = still l (End t p) rs (without t (tally rs).live) (notes_not_of t (tally rs).notes) h.borders le (not_ended rs t (tally rs).notes h.notes)

  chains_more : (l : ℕ) (x : Record C N) (rs : List (Numbered C N)) → Sound rs → next_lsn rs ≤ l → (IsKnown (tally rs) x → Follows rs l x) → Pairs Chains (said l x (tally rs)).notes
  chains_more l (Begin t p) rs h le f = h.chains
  chains_more l (Change t p c) rs h le f = h.chains
  chains_more l (TopEnd t p u n) rs h le f = by_test (is_in t (tally rs).live) refl
    where
      top : Top C N
      top = record { lsn = l; transaction = t; undo_next = u; note = n; changes = changes_of (open_of t (tally rs).opened) }

      lower : (m : Top C N) → IsStanding (tally rs).live (border_of m.transaction rs) m.transaction m.lsn m.undo_next → m.lsn < l
      lower m z = lt_of_le_of_lt z.within (lt_of_lt_of_le (h.borders m.transaction) le)

      by_test : (b : Bool) → is_in t (tally rs).live ≡ b → Pairs Chains (cond b (top ∷ (tally rs).notes) (tally rs).notes)
      by_test true e = (
        each_more (λ m. IsStanding (tally rs).live (border_of m.transaction rs) m.transaction m.lsn m.undo_next) (Chains top) (tally rs).notes
            (λ m z. record { lower = lower m z; chained = λ is. le_trans z.within (le_of_eq (ap (λ a. border_of a rs) is ∙ sym (f e).1)) }) h.notes,
        h.chains,
      )
      by_test false e = h.chains
  chains_more l (PhysComp t p u c) rs h le f = h.chains
  chains_more l (TopVoid t p u) rs h le f = h.chains
  chains_more l (CompEnd t p u) rs h le f = pairs_filter Chains (λ n. not (n.transaction == t && nat_lt u n.lsn)) (tally rs).notes h.chains
  chains_more l (Save t p m) rs h le f = h.chains
  chains_more l (Commit t p) rs h le f = pairs_filter Chains (λ n. not (n.transaction == t)) (tally rs).notes h.chains
  chains_more l (End t p) rs h le f = pairs_filter Chains (λ n. not (n.transaction == t)) (tally rs).notes h.chains

  lives_more : (l : ℕ) (x : Record C N) (rs : List (Numbered C N)) → Sound rs → next_lsn rs ≤ l → (IsKnown (tally rs) x → Follows rs l x) → Each (λ t. t < l + 1) (said l x (tally rs)).live
  lives_more l x rs h le f = by_kind x f
    where
      old : Each (λ t. t < l + 1) (tally rs).live
      old = each_more (λ t. t < next_lsn rs) (λ t. t < l + 1) (tally rs).live (λ t z. up t z) h.lives
        where
          up : (t : ℕ) → t < next_lsn rs → t < l + 1
          up t z = omega arith

      by_kind : (y : Record C N) → (IsKnown (tally rs) y → Follows rs l y) → Each (λ t. t < l + 1) (said l y (tally rs)).live
      by_kind (Begin t p) g = (here (g tt).0, old)
        where
          here : t ≡ l → t < l + 1
          here e = omega arith
      by_kind (Change t p c) g = old
      by_kind (TopEnd t p u n) g = old
      by_kind (PhysComp t p u c) g = old
      by_kind (TopVoid t p u) g = old
      by_kind (CompEnd t p u) g = old
      by_kind (Save t p m) g = old
      by_kind (Commit t p) g = each_filter (λ u. u < l + 1) (λ u. not (u == t)) (tally rs).live old
      by_kind (End t p) g = each_filter (λ u. u < l + 1) (λ u. not (u == t)) (tally rs).live old

  -- the facts of a transaction's notes below a later record
  own_low : (rs : List (Numbered C N)) (l t : ℕ) → Sound rs → next_lsn rs ≤ l → Each (λ n. (n.lsn ≤ l) × (n.undo_next < n.lsn)) (notes_of t (tally rs).notes)
  own_low rs l t h le =
      each_more (λ n. (n.lsn ≤ border_of t rs) × (n.undo_next < n.lsn)) (λ n. (n.lsn ≤ l) × (n.undo_next < n.lsn)) (notes_of t (tally rs).notes)
      (λ n z. (le_trans z.0 (le_of_lt (lt_of_lt_of_le (h.borders t) le)), z.1)) (own_standing (tally rs).live rs t (tally rs).notes h.notes)

  own_undo : (rs : List (Numbered C N)) (l t : ℕ) → Sound rs → next_lsn rs ≤ l → Each (λ n. n.undo_next < l) (notes_of t (tally rs).notes)
  own_undo rs l t h le = each_more (λ n. (n.lsn ≤ l) × (n.undo_next < n.lsn)) (λ n. n.undo_next < l) (notes_of t (tally rs).notes) (λ n z. lt_of_lt_of_le z.1 z.0) (own_low rs l t h le)

  finds_own : (l : ℕ) (x : Record C N) (rs : List (Numbered C N)) → Sound rs → next_lsn rs ≤ l → (IsKnown (tally rs) x → Follows rs l x)
      → (stop : ℕ) → is_in (txn_of x) (said l x (tally rs)).live ≡ true → txn_of x ≤ stop
      → Finds (record { lsn = l; is = x } ∷ rs) stop (border_of (txn_of x) (record { lsn = l; is = x } ∷ rs)) (notes_of (txn_of x) (said l x (tally rs)).notes)
  finds_own l (Begin t p) rs h le f stop live low =
      subst (λ ns. Finds (record { lsn = l; is = Begin t p } ∷ rs) stop (border_of t (record { lsn = l; is = Begin t p } ∷ rs)) ns) (sym none)
      (walk_stops stop (border_of t (record { lsn = l; is = Begin t p } ∷ rs)) (record { lsn = l; is = Begin t p } ∷ rs) (le_trans (le_of_eq (border_here l (Begin t p) rs refl ∙ sym (f tt).0)) low))
    where
      never : (u : ℕ) → u ≡ l → is_in u (tally rs).live ≡ true → ⊥
      never u e is = too_low (live_below (next_lsn rs) u (tally rs).live h.lives is)
        where
          too_low : u < next_lsn rs → ⊥
          too_low z = absurd (omega arith)

      none : notes_of t (tally rs).notes ≡ []
      none = filter_none (λ n. n.transaction == t) (tally rs).notes
          (each_more (λ n. IsStanding (tally rs).live (border_of n.transaction rs) n.transaction n.lsn n.undo_next) (λ n. (n.transaction == t) ≡ false) (tally rs).notes
          (λ n z. other_number n.transaction t (λ e. never n.transaction (e ∙ (f tt).0) z.is_live)) h.notes)
  finds_own l (Change t p c) rs h le f stop live low =
      subst (λ b. Finds (record { lsn = l; is = Change t p c } ∷ rs) stop b (notes_of t (tally rs).notes)) (sym (border_stays l (Change t p c) rs t refl))
      (finds_below stop (border_of t rs) (record { lsn = l; is = Change t p c }) rs (notes_of t (tally rs).notes) (lt_of_lt_of_le (h.borders t) le) (own_undo rs l t h le) (h.finds t stop live low))
  finds_own l (TopEnd t p u n) rs h le f stop live low =
      let x : Record C N = TopEnd t p u n in
      let r : Numbered C N = record { lsn = l; is = x } in
      let top : Top C N = record { lsn = l; transaction = t; undo_next = u; note = n; changes = changes_of (open_of t (tally rs).opened) } in
      let ns : List (Top C N) = notes_of t (tally rs).notes in
      let now : notes_of t (cond (is_in t (tally rs).live) (top ∷ (tally rs).notes) (tally rs).notes) ≡ top ∷ ns =
      ap (notes_of t) (cond_true (is_in t (tally rs).live) (top ∷ (tally rs).notes) (tally rs).notes live) ∙ cond_true (t == t) (top ∷ ns) ns (same_number t) in
      let undo : u ≡ border_of t rs = (f live).1 in
      let after : Finds (r ∷ rs) stop u ns = finds_below stop u r rs ns (lt_of_lt_of_le (subst (λ z. z < next_lsn rs) (sym undo) (h.borders t)) le) (own_undo rs l t h le)
      (subst (λ z. Finds rs stop z ns) (sym undo) (h.finds t stop live low)) in
      subst (λ b. Finds (r ∷ rs) stop b (notes_of t (cond (is_in t (tally rs).live) (top ∷ (tally rs).notes) (tally rs).notes))) (sym (border_here l x rs refl))
      (subst (λ z. Finds (r ∷ rs) stop l z) (sym now) (λ above. walk_at stop r rs above, λ below. walk_stops stop l (r ∷ rs) below, after))
  finds_own l (PhysComp t p u c) rs h le f stop live low =
      subst (λ b. Finds (record { lsn = l; is = PhysComp t p u c } ∷ rs) stop b (notes_of t (tally rs).notes)) (sym (border_stays l (PhysComp t p u c) rs t refl))
      (finds_below stop (border_of t rs) (record { lsn = l; is = PhysComp t p u c }) rs (notes_of t (tally rs).notes) (lt_of_lt_of_le (h.borders t) le) (own_undo rs l t h le) (h.finds t stop live low))
  finds_own l (TopVoid t p u) rs h le f stop live low =
      subst (λ b. Finds (record { lsn = l; is = TopVoid t p u } ∷ rs) stop b (notes_of t (tally rs).notes)) (sym (border_here l (TopVoid t p u) rs refl))
      (finds_next stop u rs (record { lsn = l; is = TopVoid t p u }) (notes_of t (tally rs).notes) (lt_of_lt_of_le (subst (λ z. z < next_lsn rs) (sym (f live).2) (h.borders t)) le) (own_low rs l t h le) refl
      (subst (λ z. Finds rs stop z (notes_of t (tally rs).notes)) (sym (f live).2) (h.finds t stop live low)))
  finds_own l (CompEnd t p u) rs h le f stop live low =
      let x : Record C N = CompEnd t p u in
      let r : Numbered C N = record { lsn = l; is = x } in
      let n : Top C N = (f live).1.0 in
      let ns : List (Top C N) = (f live).1.1 in
      let own : notes_of t (tally rs).notes ≡ n ∷ ns = (f live).1.2 in
      let undo : u ≡ n.undo_next = (f live).1.3 in
      let low_all : Each (λ m. (m.lsn ≤ l) × (m.undo_next < m.lsn)) (n ∷ ns) = subst (Each (λ m. (m.lsn ≤ l) × (m.undo_next < m.lsn))) own (own_low rs l t h le) in
      let named : Each (λ m. m.transaction ≡ t) (n ∷ ns) = subst (Each (λ m. m.transaction ≡ t)) own (own_notes t (tally rs).notes) in
      let chains : Pairs Chains (n ∷ ns) = subst (Pairs Chains) own (pairs_filter Chains (λ m. m.transaction == t) (tally rs).notes h.chains) in
      let behind : Each (λ m. m.lsn ≤ n.undo_next) ns = each_more (λ m. (m.transaction ≡ t) × Chains n m) (λ m. m.lsn ≤ n.undo_next) ns (λ m z. z.1.chained (z.0 ∙ sym named.0)) (each_both (λ m. m.transaction ≡ t) (Chains n) ns named.1 chains.0) in
      let now : notes_of t (notes_up_to t u (tally rs).notes) ≡ ns =
      filter_filter (λ m. m.transaction == t) (λ m. not (m.transaction == t && nat_lt u m.lsn)) (tally rs).notes
      ∙ (filter_same (λ m. m.transaction == t && not (m.transaction == t && nat_lt u m.lsn)) (λ m. not (m.transaction == t && nat_lt u m.lsn) && m.transaction == t) (tally rs).notes (each_all (λ m. (m.transaction == t && not (m.transaction == t && nat_lt u m.lsn)) ≡ (not (m.transaction == t && nat_lt u m.lsn) && m.transaction == t)) (tally rs).notes (λ m. and_swap (m.transaction == t) (not (m.transaction == t && nat_lt u m.lsn))))
      ∙ (sym (filter_filter (λ m. not (m.transaction == t && nat_lt u m.lsn)) (λ m. m.transaction == t) (tally rs).notes)
      ∙ (ap (notes_up_to t u) own ∙ subst (λ z. notes_up_to t z (n ∷ ns) ≡ ns) (sym undo) (rest_stays t n ns named.0 low_all.0.1 behind)))) in
      let was : Finds rs stop (border_of t rs) (n ∷ ns) = subst (λ z. Finds rs stop (border_of t rs) z) own (h.finds t stop live low) in
      subst (λ b. Finds (r ∷ rs) stop b (notes_of t (notes_up_to t u (tally rs).notes))) (sym (border_here l x rs refl))
      (subst (λ z. Finds (r ∷ rs) stop l z) (sym now)
      (finds_next stop u rs r ns (subst (λ z. z < l) (sym undo) (lt_of_lt_of_le low_all.0.1 low_all.0.0)) low_all.1 refl (subst (λ z. Finds rs stop z ns) (sym undo) was.2)))
  finds_own l (Save t p m) rs h le f stop live low =
      subst (λ b. Finds (record { lsn = l; is = Save t p m } ∷ rs) stop b (notes_of t (tally rs).notes)) (sym (border_here l (Save t p m) rs refl))
      (finds_next stop p rs (record { lsn = l; is = Save t p m }) (notes_of t (tally rs).notes) (lt_of_lt_of_le (subst (λ z. z < next_lsn rs) (sym (f live).2) (h.borders t)) le) (own_low rs l t h le) refl
      (subst (λ z. Finds rs stop z (notes_of t (tally rs).notes)) (sym (f live).2) (h.finds t stop live low)))
  finds_own l (Commit t p) rs h le f stop live low = absurd (clash (is_in t (without t (tally rs).live)) (without_not t (tally rs).live) live)
  finds_own l (End t p) rs h le f stop live low = absurd (clash (is_in t (without t (tally rs).live)) (without_not t (tally rs).live) live)

  finds_other : (l : ℕ) (x : Record C N) (rs : List (Numbered C N)) → Sound rs → next_lsn rs ≤ l → (t stop : ℕ) → (t ≡ txn_of x → ⊥) → is_in t (said l x (tally rs)).live ≡ true → t ≤ stop
      → Finds (record { lsn = l; is = x } ∷ rs) stop (border_of t (record { lsn = l; is = x } ∷ rs)) (notes_of t (said l x (tally rs)).notes)
  finds_other l x rs h le t stop ne live low =
      let r : Numbered C N = record { lsn = l; is = x } in
      let was : is_in t (tally rs).live ≡ true = sym (other_live l x (tally rs) t ne) ∙ live in
      subst (λ b. Finds (r ∷ rs) stop b (notes_of t (said l x (tally rs)).notes)) (sym (border_other l x rs t ne))
      (subst (λ z. Finds (r ∷ rs) stop (border_of t rs) z) (sym (other_notes l x (tally rs) t ne))
      (finds_below stop (border_of t rs) r rs (notes_of t (tally rs).notes) (lt_of_lt_of_le (h.borders t) le) (own_undo rs l t h le) (h.finds t stop was low)))

  pub opens_more : (l : ℕ) (x : Record C N) (rs : List (Numbered C N)) → Sound rs → next_lsn rs ≤ l → Each (λ d. d.lsn < l + 1) (said l x (tally rs)).opened
  opens_more l x rs h le = by_kind x
    where
      old : Each (λ d. d.lsn < l + 1) (tally rs).opened
      old = each_more (λ d. d.lsn < next_lsn rs) (λ d. d.lsn < l + 1) (tally rs).opened (λ d z. up d.lsn z) h.opens
        where
          up : (a : ℕ) → a < next_lsn rs → a < l + 1
          up a z = omega arith

      by_kind : (y : Record C N) → Each (λ d. d.lsn < l + 1) (said l y (tally rs)).opened
      by_kind (Begin t p) = old
      by_kind (Change t p c) = (omega arith, old)
      by_kind (TopEnd t p u n) = each_filter (λ d. d.lsn < l + 1) (λ d. not (d.transaction == t)) (tally rs).opened old
      by_kind (PhysComp t p u c) = each_filter (λ d. d.lsn < l + 1) (λ d. not (d.transaction == t && nat_lt u d.lsn)) (tally rs).opened old
      by_kind (TopVoid t p u) = each_filter (λ d. d.lsn < l + 1) (λ d. not (d.transaction == t)) (tally rs).opened old
      by_kind (CompEnd t p u) = each_filter (λ d. d.lsn < l + 1) (λ d. not (d.transaction == t)) (tally rs).opened old
      by_kind (Save t p m) = old
      by_kind (Commit t p) = old
      by_kind (End t p) = old

  order_more : (l : ℕ) (x : Record C N) (rs : List (Numbered C N)) → Sound rs → next_lsn rs ≤ l → Pairs Behind (said l x (tally rs)).opened
  order_more l (Begin t p) rs h le = h.order
  order_more l (Change t p c) rs h le = (each_more (λ d. d.lsn < next_lsn rs) (λ d. d.lsn < l) (tally rs).opened (λ d z. lt_of_lt_of_le z le) h.opens, h.order)
  order_more l (TopEnd t p u n) rs h le = pairs_filter Behind (λ d. not (d.transaction == t)) (tally rs).opened h.order
  order_more l (PhysComp t p u c) rs h le = pairs_filter Behind (λ d. not (d.transaction == t && nat_lt u d.lsn)) (tally rs).opened h.order
  order_more l (TopVoid t p u) rs h le = pairs_filter Behind (λ d. not (d.transaction == t)) (tally rs).opened h.order
  order_more l (CompEnd t p u) rs h le = pairs_filter Behind (λ d. not (d.transaction == t)) (tally rs).opened h.order
  order_more l (Save t p m) rs h le = h.order
  order_more l (Commit t p) rs h le = h.order
  order_more l (End t p) rs h le = h.order

  -- A formed log keeps its chains, and the walk finds each live transaction's standing notes, the greatest first.
  pub sound : (rs : List (Numbered C N)) → Formed rs → Sound rs
  sound [] f = record { borders = λ t. omega arith; lives = tt; notes = tt; chains = tt; opens = tt; order = tt; finds = λ t stop live low. refl }
  sound (r ∷ rs) f =
      let h = sound rs f.2 in
      record {
        borders = λ t. border_low r.lsn r.is rs t (h.borders t) f.0;
        lives = lives_more r.lsn r.is rs h f.0 f.1;
        notes = notes_more r.lsn r.is rs h f.0 f.1;
        chains = chains_more r.lsn r.is rs h f.0 f.1;
        opens = opens_more r.lsn r.is rs h f.0;
        order = order_more r.lsn r.is rs h f.0;
        finds = λ t stop live low. by_test h t stop live low (t == txn_of r.is) refl;
      }
    where
      by_test : Sound rs → (t stop : ℕ) → is_in t (said r.lsn r.is (tally rs)).live ≡ true → t ≤ stop → (b : Bool) → (t == txn_of r.is) ≡ b
          → Finds (r ∷ rs) stop (border_of t (r ∷ rs)) (notes_of t (said r.lsn r.is (tally rs)).notes)
      by_test h t stop live low true e =
          let is : t ≡ txn_of r.is = number_is t (txn_of r.is) e in
          subst (λ u. Finds (r ∷ rs) stop (border_of u (r ∷ rs)) (notes_of u (said r.lsn r.is (tally rs)).notes)) (sym is)
          (finds_own r.lsn r.is rs h f.0 f.1 stop (subst (λ u. is_in u (said r.lsn r.is (tally rs)).live ≡ true) is live) (subst (λ u. u ≤ stop) is low))
      by_test h t stop live low false e = finds_other r.lsn r.is rs h f.0 t stop (λ is. clash (t == txn_of r.is) e (subst (λ a. (t == a) ≡ true) is (same_number t))) live low

  -- what an opening appends
  pub takes_one : (rs : List (Numbered C N)) (u border : ℕ) (d : Open C) (ds : List (Open C)) → Formed rs → (tally rs).opened ≡ d ∷ ds → border < d.lsn → u ≡ next_off border ds → open_up_to d.transaction u (d ∷ ds) ≡ ds
  takes_one rs u border d ds f is low undo = takes_first d.transaction u border d ds (subst (Pairs Behind) is (sound rs f).order) refl low undo
