-- The walk back over a log, record by record.
use Rattle.std.proofs.Common.{◌≡◌, ◌⊎◌, ℕ, ◌==◌, ◌<◌, ◌≤◌, nat_le, nat_lt, cond, List, [], ◌∷◌, Option, Some, None, Bool, true, false, not, sym, ap, subst, ◌∙◌, refl, arith, inl, inr, IsSome}
use Rattle.std.specs.Prelude.{◌&&◌, if◌then◌else◌}
use Rattle.std.proofs.lemmas.Bool.{cases_Bool, cases_eq}
use Rattle.sg_record.specs.Changes.{Change as Changing}
use Rattle.sg_recovery.specs.Laws.{Each}
use Rattle.sg_recovery.specs.Log.{Numbered, Tally, said, tally, is_in, without, open_of, notes_of, changes_of}
use Rattle.sg_recovery.specs.Log.Record.{Begin, Change, TopEnd, PhysComp, TopVoid, CompEnd, Save, Commit, End}
use Rattle.sg_recovery.specs.Chains.{txn_of, is_border, last_of, border_of, next_lsn, Formed, Follows, IsKnown, Finds, IsStanding, visit, walk}
use Rattle.sg_recovery.proofs.Basic.{cond_true, cond_false, each_more, each_filter, each_kept, same_number, number_is, other_number, le_is, le_true, le_false, lt_is, lt_true, lt_not}
use Rattle.sg_recovery.proofs.Chaining.{clash, sound, other_live}
use Rattle.sg_recovery.proofs.Showing.{without_not}
use Rattle.sg_actions.specs.Steps.{Step, Steps, step_at}
use Rattle.sg_actions.specs.Undoing.{SeesBy, first_behind, next_note, goes_to}
use Rattle.sg_actions.specs.Counts.{Note}
use Rattle.sg_actions.proofs.Chained.{step_there, last_low}

pub same_some : {A : Type 0} (x y : A) → Some x ≡ Some y → x ≡ y
same_some x y h = cc

pub none_some : {A : Type 0} (x : A) → None ≡ Some x → ⊥
none_some x e = cc

-- a record that stands in a formed log is below its end
pub at_low : (rs : Steps) (at : ℕ) (x : Step) → Formed rs → step_at rs at ≡ Some x → at < next_lsn rs
at_low [] at x f e = absurd (none_some x e)
at_low (r ∷ rs) at x f e = elim (cases_Bool (r.lsn == at)) [
  | inl is ↦ let same : r.lsn ≡ at = number_is r.lsn at is in omega (arith, same)
  | inr other ↦
      let there : step_at rs at ≡ Some x = sym (cond_false (r.lsn == at) (Some r.is) (step_at rs at) other) ∙ e in
      let low = at_low rs at x f.2 there in omega (arith, low, f.0)
]

-- below the stop nothing is found
stops : (stop at : ℕ) (rs : Steps) → at ≤ stop → walk stop at rs ≡ None
stops stop at [] le = refl
stops stop at (r ∷ rs) le = cond_true (nat_le at stop) None _ (le_true at stop le)

-- the walk from below a record doesn't see it
below : (stop at : ℕ) (r : Numbered Changing (List ℕ)) (rs : Steps) → at < r.lsn → walk stop at (r ∷ rs) ≡ walk stop at rs
below stop at r rs lt = by_test (nat_le at stop) refl
  where
    other : cond (r.lsn == at) (visit r.lsn r.is (tally rs) (λ u. walk stop u rs)) (walk stop at rs) ≡ walk stop at rs
    other = cond_false (r.lsn == at) _ (walk stop at rs) (other_number r.lsn at (λ is. absurd (omega (arith, is, lt))))

    by_test : (b : Bool) → nat_le at stop ≡ b → cond b None (cond (r.lsn == at) (visit r.lsn r.is (tally rs) (λ u. walk stop u rs)) (walk stop at rs)) ≡ walk stop at rs
    by_test true e = sym (stops stop at rs (le_is at stop e))
    by_test false e = other

-- the walk at a record, and behind one
here_is : (stop at : ℕ) (r : Numbered Changing (List ℕ)) (rs : Steps) → stop < at → r.lsn ≡ at → walk stop at (r ∷ rs) ≡ visit r.lsn r.is (tally rs) (λ u. walk stop u rs)
here_is stop at r rs lt is =
    cond_false (nat_le at stop) None _ (le_false at stop lt)
    ∙ cond_true (r.lsn == at) (visit r.lsn r.is (tally rs) (λ u. walk stop u rs)) (walk stop at rs) (subst (λ n. (r.lsn == n) ≡ true) is (same_number r.lsn))

-- the steps before the one with this number
abbrev pub behind : Steps → ℕ → Steps
behind [] at = []
behind (r ∷ rs) at = if r.lsn == at then rs else behind rs at

visit_on : (l : ℕ) (x : Step) (k : Tally Changing (List ℕ)) (go : ℕ → Option Note) (u : ℕ) → goes_to x ≡ Some u → visit l x k go ≡ go u
visit_on l (Begin t p) k go u e = absurd (none_some u e)
visit_on l (Change t p c) k go u e = ap go (same_some p u e)
visit_on l (TopEnd t p w n) k go u e = absurd (none_some u e)
visit_on l (PhysComp t p w c) k go u e = ap go (same_some p u e)
visit_on l (TopVoid t p w) k go u e = ap go (same_some w u e)
visit_on l (CompEnd t p w) k go u e = ap go (same_some w u e)
visit_on l (Save t p m) k go u e = ap go (same_some p u e)
visit_on l (Commit t p) k go u e = ap go (same_some p u e)
visit_on l (End t p) k go u e = ap go (same_some p u e)

-- AT A RECORD WITHOUT A NOTE the walk goes on where it says
pub walk_on : (rs : Steps) (stop at u : ℕ) (x : Step) → Formed rs → step_at rs at ≡ Some x → stop < at → goes_to x ≡ Some u → u < at → walk stop at rs ≡ walk stop u rs
walk_on [] stop at u x f e lt on low = absurd (none_some x e)
walk_on (r ∷ rs) stop at u x f e lt on low = elim (cases_Bool (r.lsn == at)) [
  | inl is ↦
      let num : r.lsn ≡ at = number_is r.lsn at is in
      let same : r.is ≡ x = same_some r.is x (sym (cond_true (r.lsn == at) (Some r.is) (step_at rs at) is) ∙ e) in
      here_is stop at r rs lt num ∙ (visit_on r.lsn r.is (tally rs) (λ v. walk stop v rs) u (ap goes_to same ∙ on) ∙ sym (below stop u r rs (omega (arith, low, num))))
  | inr other ↦
      let there : step_at rs at ≡ Some x = sym (cond_false (r.lsn == at) (Some r.is) (step_at rs at) other) ∙ e in
      let less : at < next_lsn rs = at_low rs at x f.2 there in
      below stop at r rs (omega (arith, less, f.0)) ∙ (walk_on rs stop at u x f.2 there lt on low ∙ sym (below stop u r rs (omega (arith, less, low, f.0))))
]

-- AT A NOTE it has found it
pub walk_note : (rs : Steps) (stop at t p u : ℕ) (note : List ℕ) → Formed rs → step_at rs at ≡ Some (TopEnd t p u note) → stop < at
    → walk stop at rs ≡ Some (record { lsn = at; transaction = t; undo_next = u; note = note; changes = changes_of (open_of t (tally (behind rs at)).opened) })
walk_note [] stop at t p u note f e lt = absurd (none_some _ e)
walk_note (r ∷ rs) stop at t p u note f e lt = elim (cases_Bool (r.lsn == at)) [
  | inl is ↦
      let num : r.lsn ≡ at = number_is r.lsn at is in
      let same : r.is ≡ TopEnd t p u note = same_some r.is (TopEnd t p u note) (sym (cond_true (r.lsn == at) (Some r.is) (step_at rs at) is) ∙ e) in
      let front : behind (r ∷ rs) at ≡ rs = cond_true (r.lsn == at) rs (behind rs at) is in
      here_is stop at r rs lt num ∙ ((λ j. visit (num j) (same j) (tally rs) (λ v. walk stop v rs))
      ∙ ap (λ (ss : Steps). (let o : Option Note = Some (record { lsn = at; transaction = t; undo_next = u; note = note; changes = changes_of (open_of t (tally ss).opened) }) in o)) (sym front))
  | inr other ↦
      let there : step_at rs at ≡ Some (TopEnd t p u note) = sym (cond_false (r.lsn == at) (Some r.is) (step_at rs at) other) ∙ e in
      let less : at < next_lsn rs = at_low rs at (TopEnd t p u note) f.2 there in
      let front : behind (r ∷ rs) at ≡ behind rs at = cond_false (r.lsn == at) rs (behind rs at) other in
      below stop at r rs (omega (arith, less, f.0)) ∙ (walk_note rs stop at t p u note f.2 there lt
      ∙ ap (λ (ss : Steps). (let o : Option Note = Some (record { lsn = at; transaction = t; undo_next = u; note = note; changes = changes_of (open_of t (tally ss).opened) }) in o)) (sym front))
]

-- AT A BEGIN there is none
pub walk_begin : (rs : Steps) (stop at t p : ℕ) → Formed rs → step_at rs at ≡ Some (Begin t p) → walk stop at rs ≡ None
walk_begin [] stop at t p f e = refl
walk_begin (r ∷ rs) stop at t p f e = by_test (λ there. walk_begin rs stop at t p f.2 there) (nat_lt stop at) refl
  where
    up : (step_at rs at ≡ Some (Begin t p) → walk stop at rs ≡ None) → stop < at → walk stop at (r ∷ rs) ≡ None
    up more lt = elim (cases_Bool (r.lsn == at)) [
      | inl is ↦
          let num : r.lsn ≡ at = number_is r.lsn at is in
          let same : r.is ≡ Begin t p = same_some r.is (Begin t p) (sym (cond_true (r.lsn == at) (Some r.is) (step_at rs at) is) ∙ e) in
          here_is stop at r rs lt num ∙ (λ j. visit r.lsn (same j) (tally rs) (λ v. walk stop v rs))
      | inr other ↦
          let there : step_at rs at ≡ Some (Begin t p) = sym (cond_false (r.lsn == at) (Some r.is) (step_at rs at) other) ∙ e in
          let less : at < next_lsn rs = at_low rs at (Begin t p) f.2 there in
          below stop at r rs (omega (arith, less, f.0)) ∙ more there
    ]

    by_test : (step_at rs at ≡ Some (Begin t p) → walk stop at rs ≡ None) → (b : Bool) → nat_lt stop at ≡ b → walk stop at (r ∷ rs) ≡ None
    by_test more true e = up more (lt_is stop at e)
    by_test more false e = stops stop at (r ∷ rs) (lt_not stop at e)

-- at or below the stop there is none
pub walk_stops : (rs : Steps) (stop at : ℕ) → at ≤ stop → walk stop at rs ≡ None
walk_stops rs stop at le = stops stop at rs le

-- A PLACE OF A TRANSACTION: one of its records, or a number at or below its begin
abbrev pub IsPlace : Steps → (t at : ℕ) → Type 0
IsPlace rs t at = (at ≤ t) ⊎ ((x : Step) × (step_at rs at ≡ Some x) × (txn_of x ≡ t))

place_more : (rs : Steps) (r : Numbered Changing (List ℕ)) (t at : ℕ) → Formed rs → next_lsn rs ≤ r.lsn → IsPlace rs t at → IsPlace (r ∷ rs) t at
place_more rs r t at f le (inl low) = inl low
place_more rs r t at f le (inr p) = let less : at < next_lsn rs = at_low rs at p.0 f p.1 in inr (p.0, step_there rs r.lsn at r.is (omega (arith, less, le)) ∙ p.1, p.2)

place_here : (rs : Steps) (r : Numbered Changing (List ℕ)) (t : ℕ) → txn_of r.is ≡ t → IsPlace (r ∷ rs) t r.lsn
place_here rs r t e = inr (r.is, cond_true (r.lsn == r.lsn) (Some r.is) (step_at rs r.lsn) (same_number r.lsn), e)

-- a transaction's last record, and its last border, are places
pub last_place : (rs : Steps) (t : ℕ) → Formed rs → IsPlace rs t (last_of t rs)
last_place [] t f = inl (omega arith)
last_place (r ∷ rs) t f = elim (cases_Bool (txn_of r.is == t)) [
  | inl e ↦ subst (λ (n : ℕ). IsPlace (r ∷ rs) t n) (sym (cond_true (txn_of r.is == t) r.lsn (last_of t rs) e)) (place_here rs r t (number_is (txn_of r.is) t e))
  | inr e ↦ subst (λ (n : ℕ). IsPlace (r ∷ rs) t n) (sym (cond_false (txn_of r.is == t) r.lsn (last_of t rs) e)) (place_more rs r t (last_of t rs) f.2 f.0 (last_place rs t f.2))
]

and_left : (a b : Bool) → (a && b) ≡ true → a ≡ true
and_left true b h = refl
and_left false b h = absurd (cc)

pub border_place : (rs : Steps) (t : ℕ) → Formed rs → IsPlace rs t (border_of t rs)
border_place [] t f = inl (omega arith)
border_place (r ∷ rs) t f = elim (cases_Bool (txn_of r.is == t && is_border r.is)) [
  | inl e ↦ subst (λ (n : ℕ). IsPlace (r ∷ rs) t n) (sym (cond_true (txn_of r.is == t && is_border r.is) r.lsn (border_of t rs) e)) (place_here rs r t (number_is (txn_of r.is) t (and_left (txn_of r.is == t) (is_border r.is) e)))
  | inr e ↦ subst (λ (n : ℕ). IsPlace (r ∷ rs) t n) (sym (cond_false (txn_of r.is == t && is_border r.is) r.lsn (border_of t rs) e)) (place_more rs r t (border_of t rs) f.2 f.0 (border_place rs t f.2))
]

-- undoing goes on at a place behind each note
abbrev UndoPlace : Steps → Note → Type 0
UndoPlace rs n = IsPlace rs n.transaction n.undo_next

notes_more : (rs : Steps) (r : Numbered Changing (List ℕ)) (ns : List Note) → Formed rs → next_lsn rs ≤ r.lsn → Each (UndoPlace rs) ns → Each (UndoPlace (r ∷ rs)) ns
notes_more rs r ns f le h = each_more (UndoPlace rs) (UndoPlace (r ∷ rs)) ns (λ n p. place_more rs r n.transaction n.undo_next f le p) h

pub notes_place : (rs : Steps) → Formed rs → Each (UndoPlace rs) (tally rs).notes
notes_place [] f = tt
notes_place (r ∷ rs) f = by r.is f.1 (notes_more rs r (tally rs).notes f.2 f.0 (notes_place rs f.2))
  where
    by : (x : Step) → (IsKnown (tally rs) x → Follows rs r.lsn x) → Each (UndoPlace (r ∷ rs)) (tally rs).notes → Each (UndoPlace (r ∷ rs)) (said r.lsn x (tally rs)).notes
    by (Begin t p) k h = h
    by (Change t p c) k h = h
    by (TopEnd t p u n) k h = by_live (is_in t (tally rs).live) refl
      where
        by_live : (b : Bool) → is_in t (tally rs).live ≡ b
            → Each (UndoPlace (r ∷ rs)) (cond b (record { lsn = r.lsn; transaction = t; undo_next = u; note = n; changes = changes_of (open_of t (tally rs).opened) } ∷ (tally rs).notes) (tally rs).notes)
        by_live true e = (place_more rs r t u f.2 f.0 (subst (λ (m : ℕ). IsPlace rs t m) (sym (k e).1) (border_place rs t f.2)), h)
        by_live false e = h
    by (PhysComp t p u c) k h = h
    by (TopVoid t p u) k h = h
    by (CompEnd t p u) k h = each_filter (UndoPlace (r ∷ rs)) (λ n. not (n.transaction == t && nat_lt u n.lsn)) (tally rs).notes h
    by (Save t p m) k h = h
    by (Commit t p) k h = each_filter (UndoPlace (r ∷ rs)) (λ n. not (n.transaction == t)) (tally rs).notes h
    by (End t p) k h = each_filter (UndoPlace (r ∷ rs)) (λ n. not (n.transaction == t)) (tally rs).notes h

-- where the walk goes on it is lower, and at a place
abbrev GoesWell : Steps → (t at u : ℕ) → Type 0
GoesWell rs t at u = (u < at) × IsPlace rs t u

own_note : (rs : Steps) (t : ℕ) (n : Note) (ns : List Note) → Formed rs → notes_of t (tally rs).notes ≡ n ∷ ns → (n.undo_next < next_lsn rs) × IsPlace rs t n.undo_next
own_note rs t n ns f is =
    let s = sound rs f in
    let stand : Each (λ m. (m.undo_next < next_lsn rs) × (m.transaction ≡ t)) (n ∷ ns) = subst (Each (λ m. (m.undo_next < next_lsn rs) × (m.transaction ≡ t))) is (each_kept (λ m. IsStanding (tally rs).live (border_of m.transaction rs) m.transaction m.lsn m.undo_next) (λ m. (m.undo_next < next_lsn rs) × (m.transaction ≡ t)) (λ m. m.transaction == t) (tally rs).notes
    (λ m z e. (low m.undo_next m.lsn (border_of m.transaction rs) z.before z.within (s.borders m.transaction), number_is m.transaction t e)) s.notes) in
    let place : Each (UndoPlace rs) (n ∷ ns) = subst (Each (UndoPlace rs)) is (each_filter (UndoPlace rs) (λ m. m.transaction == t) (tally rs).notes (notes_place rs f)) in
    (stand.0.0, subst (λ (u : ℕ). IsPlace rs u n.undo_next) stand.0.1 place.0)
  where
    low : (a b c : ℕ) → a < b → b ≤ c → c < next_lsn rs → a < next_lsn rs
    low a b c p q o = omega (arith, p, q, o)

-- at its transaction's record
own_on : (rs : Steps) (l t u : ℕ) (x : Step) → Formed rs → next_lsn rs ≤ l → (IsKnown (tally rs) x → Follows rs l x) → txn_of x ≡ t → is_in t (said l x (tally rs)).live ≡ true → goes_to x ≡ Some u → (u < l) × IsPlace rs t u
own_on rs l t u (Begin a p) f le k own live on = absurd (none_some u on)
own_on rs l t u (Change a p c) f le k own live on =
    let is : u ≡ last_of t rs = sym (same_some p u on) ∙ (k (ap (λ (n : ℕ). is_in n (tally rs).live) own ∙ live) ∙ ap (λ (n : ℕ). last_of n rs) own) in
    let low = last_low rs t f in (omega (arith, is, low, le), subst (λ (n : ℕ). IsPlace rs t n) (sym is) (last_place rs t f))
own_on rs l t u (TopEnd a p w n) f le k own live on = absurd (none_some u on)
own_on rs l t u (PhysComp a p w c) f le k own live on =
    let is : u ≡ last_of t rs = sym (same_some p u on) ∙ ((k (ap (λ (n : ℕ). is_in n (tally rs).live) own ∙ live)).0 ∙ ap (λ (n : ℕ). last_of n rs) own) in
    let low = last_low rs t f in (omega (arith, is, low, le), subst (λ (n : ℕ). IsPlace rs t n) (sym is) (last_place rs t f))
own_on rs l t u (TopVoid a p w) f le k own live on =
    let is : u ≡ border_of t rs = sym (same_some w u on) ∙ ((k (ap (λ (n : ℕ). is_in n (tally rs).live) own ∙ live)).2 ∙ ap (λ (n : ℕ). border_of n rs) own) in
    let low = (sound rs f).borders t in (omega (arith, is, low, le), subst (λ (n : ℕ). IsPlace rs t n) (sym is) (border_place rs t f))
own_on rs l t u (CompEnd a p w) f le k own live on =
    let g = (k (ap (λ (n : ℕ). is_in n (tally rs).live) own ∙ live)).1 in
    let is : u ≡ g.0.undo_next = sym (same_some w u on) ∙ g.3 in
    let o = own_note rs t g.0 g.1 f (ap (λ (n : ℕ). notes_of n (tally rs).notes) (sym own) ∙ g.2) in
    let low = o.0 in (omega (arith, is, low, le), subst (λ (n : ℕ). IsPlace rs t n) (sym is) o.1)
own_on rs l t u (Save a p m) f le k own live on =
    let is : u ≡ last_of t rs = sym (same_some p u on) ∙ ((k (ap (λ (n : ℕ). is_in n (tally rs).live) own ∙ live)).0 ∙ ap (λ (n : ℕ). last_of n rs) own) in
    let low = last_low rs t f in (omega (arith, is, low, le), subst (λ (n : ℕ). IsPlace rs t n) (sym is) (last_place rs t f))
own_on rs l t u (Commit a p) f le k own live on = absurd (clash (is_in t (without a (tally rs).live)) (subst (λ (n : ℕ). is_in n (without a (tally rs).live) ≡ false) own (without_not a (tally rs).live)) live)
own_on rs l t u (End a p) f le k own live on = absurd (clash (is_in t (without a (tally rs).live)) (subst (λ (n : ℕ). is_in n (without a (tally rs).live) ≡ false) own (without_not a (tally rs).live)) live)

-- a transaction that goes on went on at each of its records behind its begin
pub was_live : (rs : Steps) (l t : ℕ) (x : Step) → next_lsn rs ≤ l → (IsKnown (tally rs) x → Follows rs l x) → t < next_lsn rs → is_in t (said l x (tally rs)).live ≡ true → is_in t (tally rs).live ≡ true
was_live rs l t x le k low live = elim (cases_eq t (txn_of x)) [
  | inl e ↦ by x k e live
  | inr ne ↦ sym (other_live l x (tally rs) t ne) ∙ live
]
  where
    by : (y : Step) → (IsKnown (tally rs) y → Follows rs l y) → t ≡ txn_of y → is_in t (said l y (tally rs)).live ≡ true → is_in t (tally rs).live ≡ true
    by (Begin a p) g e h = absurd (let z = (g tt).0 in omega (arith, z, e, low, le))
    by (Change a p c) g e h = h
    by (TopEnd a p w n) g e h = h
    by (PhysComp a p w c) g e h = h
    by (TopVoid a p w) g e h = h
    by (CompEnd a p w) g e h = h
    by (Save a p m) g e h = h
    by (Commit a p) g e h = absurd (clash (is_in t (without a (tally rs).live)) (subst (λ (n : ℕ). is_in n (without a (tally rs).live) ≡ false) (sym e) (without_not a (tally rs).live)) h)
    by (End a p) g e h = absurd (clash (is_in t (without a (tally rs).live)) (subst (λ (n : ℕ). is_in n (without a (tally rs).live) ≡ false) (sym e) (without_not a (tally rs).live)) h)

-- THE WALK GOES ON LOWER, at a place of the same transaction
pub goes_well : (rs : Steps) (t at u : ℕ) (x : Step) → Formed rs → is_in t (tally rs).live ≡ true → t < at → step_at rs at ≡ Some x → txn_of x ≡ t → goes_to x ≡ Some u → (u < at) × IsPlace rs t u
goes_well [] t at u x f live lt e own on = absurd (none_some x e)
goes_well (r ∷ rs) t at u x f live lt e own on = elim (cases_Bool (r.lsn == at)) [
  | inl is ↦
      let num : r.lsn ≡ at = number_is r.lsn at is in
      let same : r.is ≡ x = same_some r.is x (sym (cond_true (r.lsn == at) (Some r.is) (step_at rs at) is) ∙ e) in
      let o = own_on rs r.lsn t u r.is f.2 f.0 f.1 (ap (λ (y : Step). txn_of y) same ∙ own) live (ap goes_to same ∙ on) in
      let low = o.0 in (omega (arith, low, num), place_more rs r t u f.2 f.0 o.1)
  | inr other ↦
      let there : step_at rs at ≡ Some x = sym (cond_false (r.lsn == at) (Some r.is) (step_at rs at) other) ∙ e in
      let less : at < next_lsn rs = at_low rs at x f.2 there in
      let o = goes_well rs t at u x f.2 (was_live rs r.lsn t r.is f.0 f.1 (omega (arith, lt, less)) live) lt there own on in (o.0, place_more rs r t u f.2 f.0 o.1)
]

-- THE WALK FROM A TRANSACTION'S LAST BORDER comes to its last note that is behind the stop
pub walk_next : (rs : Steps) (t stop : ℕ) → Formed rs → is_in t (tally rs).live ≡ true → t ≤ stop → walk stop (border_of t rs) rs ≡ next_note t stop rs
walk_next rs t stop f live le = by (notes_of t (tally rs).notes) ((sound rs f).finds t stop live le)
  where
    by : (ns : List Note) → Finds rs stop (border_of t rs) ns → walk stop (border_of t rs) rs ≡ first_behind stop ns
    by [] h = h
    by (n ∷ ns) h = elim (cases_Bool (nat_lt stop n.lsn)) [
      | inl e ↦ h.0 (lt_is stop n.lsn e) ∙ sym (cond_true (nat_lt stop n.lsn) (Some n) None e)
      | inr e ↦ h.1 (lt_not stop n.lsn e) ∙ sym (cond_false (nat_lt stop n.lsn) (Some n) None e)
    ]

-- with the transaction's own number as the stop it's the first of its notes
pub next_is_first : (rs : Steps) (t : ℕ) (n : Note) (ns : List Note) → Formed rs → notes_of t (tally rs).notes ≡ n ∷ ns → next_note t t rs ≡ Some n
next_is_first rs t n ns f is =
    let s = sound rs f in
    let above : Each (λ m. t < m.lsn) (n ∷ ns) = subst (Each (λ m. t < m.lsn)) is (each_kept (λ m. IsStanding (tally rs).live (border_of m.transaction rs) m.transaction m.lsn m.undo_next) (λ m. t < m.lsn) (λ m. m.transaction == t) (tally rs).notes
    (λ m z e. subst (λ (a : ℕ). a < m.lsn) (number_is m.transaction t e) z.above) s.notes) in
    ap (first_behind t) is ∙ cond_true (nat_lt t n.lsn) (Some n) None (lt_true t n.lsn above.0)

-- THE WALK is at a place of the transaction, and comes from there to the note that is undone next
pub record IsWalking (rs : Steps) (txn stop at : ℕ) : Type 0 where
  pub place : IsPlace rs txn at
  pub comes : walk stop at rs ≡ next_note txn stop rs

-- an undo sees something at a record that is a step
pub see_some : (o : Option Step) (note : List ℕ) → IsSome o → SeesBy o note None → ⊥
see_some None note h s = absurd (cc)
see_some (Some x) note h s = s
