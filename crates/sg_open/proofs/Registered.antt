-- Where opening finds no code unknown, each operation that a formed log needs is registered.
use Rattle.std.proofs.Common.{◌≡◌, ◌⊎◌, inl, inr, ℕ, ◌+◌, ◌<◌, ◌≤◌, ◌==◌, ◌&&◌, ◌||◌, nat_le, nat_lt, not, arith, Bool, true, false, cond, is_some, List, [], ◌∷◌, ◌++◌, map, Option, Some, None, refl, sym, ap, ◌∙◌, subst}
use Rattle.sg_ops.specs.Table.{Table, record_at, range_at}
use Rattle.sg_record.specs.Changes.{Change as Changing}
use Rattle.sg_record.specs.Changes.Change.{Page, SegWrite, SegOp}
use Rattle.sg_record.specs.Records.{Says}
use Rattle.sg_record.specs.Records.Says.{Begin as SaysBegin, Changed as SaysChanged, TopEnd as SaysTopEnd, PhysComp as SaysPhysComp, TopVoid as SaysTopVoid, CompEnd as SaysCompEnd, Save as SaysSave, Commit as SaysCommit, End as SaysEnd, Checkpoint as SaysCheckpoint}
use Rattle.sg_redo.specs.Places.{changed_by}
use Rattle.sg_recovery.specs.Log as recovery
use Rattle.sg_recovery.specs.Log.{Open, said, tally, is_in, open_of}
use Rattle.sg_recovery.specs.Log.Record.{Begin, Change, TopEnd, PhysComp, TopVoid, CompEnd, Save, Commit, End}
use Rattle.sg_recovery.specs.Laws.{Each}
use Rattle.sg_recovery.specs.Chains.{txn_of, last_of, border_of, next_lsn, Formed}
use Rattle.sg_recovery.specs.Formed.{IsLog, IsOfLast}
use Rattle.sg_recovery.proofs.Basic.{each_more, each_both, each_append, each_filter, or_left, or_right, or_cases, same_number, number_is}
use Rattle.sg_recovery.proofs.Chaining.{sound}
use Rattle.sg_recovery.proofs.Unfinished.{all_of_last}
use Rattle.sg_log.specs.Frames.{Numbered}
use Rattle.sg_analysis.specs.Sights.{Step, Steps, Sight, sight_by, sight_of, with_step, steps_behind, steps_of}
use Rattle.sg_analysis.specs.Sights.Sight.{Stepped, Estimated}
use Rattle.sg_analysis.specs.Analysis.{analysis_of, oldest_first, is_number}
use Rattle.sg_analysis.specs.Returns.{opens}
use Rattle.sg_analysis.specs.Standing.{IsPageLog}
use Rattle.sg_analysis.specs.Codes as needs
use Rattle.sg_analysis.specs.Codes.{codes, codes_in, codes_said, codes_needed, is_open_at}
use Rattle.sg_analysis.specs.Codes.Sort.{OnItem, OnRange}
use Rattle.sg_analysis.proofs.Lists.{is_in-oldest_first}
use Rattle.sg_places.specs.Asked as asked
use Rattle.sg_places.specs.Asked.{Undone, undone_of, is_among, unknown_in, unknown_by, first_unknown, or_else}
use Rattle.sg_find.specs.Synced.{redo_point}
use Rattle.sg_disk.specs.Disk.{Image}
use Rattle.sg_gate.specs.declared.superblock.Super.{Super}
use Rattle.sg_open.specs.Refusals.{IsAccepted}
use Rattle.sg_open.specs.Needed.{is_known, IsRegistered, codes_of}
use Rattle.sg_open.proofs.Needed.{is_loser, number_in}

never : (l a b : ℕ) → a < b → b ≤ l → l ≡ a → ⊥
never l a b lt le is = absurd (omega arith)

-- the step with this number is of this transaction
abbrev IsOwner : (l u : ℕ) → recovery.Numbered Changing (List ℕ) → Type 0
IsOwner l u r = r.lsn ≡ l → txn_of r.is ≡ u

abbrev AreOwn : Steps → Open Changing → Type 0
AreOwn rs d = Each (IsOwner d.lsn d.transaction) rs

low : (rs : Steps) → Formed rs → Each (λ r. r.lsn < next_lsn rs) rs
low [] f = tt
low (r ∷ rs) f = (omega arith, each_more (λ s. s.lsn < next_lsn rs) (λ s. s.lsn < r.lsn + 1) rs (λ s z. up s.lsn (next_lsn rs) r.lsn z f.0) (low rs f.2))
  where
    up : (a b c : ℕ) → a < b → b ≤ c → a < c + 1
    up a b c lt le = omega arith

-- with one step more
module _ (l : ℕ) (rs : Steps) (le : next_lsn rs ≤ l) (lows : Each (λ r. r.lsn < next_lsn rs) rs) (opened : Each (λ d. d.lsn < next_lsn rs) (tally rs).opened) (own : Each (AreOwn rs) (tally rs).opened) where
  old_own : (x : Step) → Each (AreOwn (record { lsn = l; is = x } ∷ rs)) (tally rs).opened
  old_own x =
      each_more (λ d. (d.lsn < next_lsn rs) × AreOwn rs d) (AreOwn (record { lsn = l; is = x } ∷ rs)) (tally rs).opened
      (λ d z. ((λ is. absurd (never l d.lsn (next_lsn rs) z.0 le is)), z.1))
      (each_both (λ d. d.lsn < next_lsn rs) (AreOwn rs) (tally rs).opened opened own)

  own_more : (x : Step) → Each (AreOwn (record { lsn = l; is = x } ∷ rs)) (said l x (tally rs)).opened
  own_more (Begin t p) = old_own (Begin t p)
  own_more (Change t p c) =
      (((λ is. refl), each_more (λ r. r.lsn < next_lsn rs) (IsOwner l t) rs (λ r z is. absurd (never l r.lsn (next_lsn rs) z le (sym is))) lows), old_own (Change t p c))
  own_more (TopEnd t p u n) = each_filter (AreOwn (record { lsn = l; is = TopEnd t p u n } ∷ rs)) (λ d. not (d.transaction == t)) (tally rs).opened (old_own (TopEnd t p u n))
  own_more (PhysComp t p u c) = each_filter (AreOwn (record { lsn = l; is = PhysComp t p u c } ∷ rs)) (λ d. not (d.transaction == t && nat_lt u d.lsn)) (tally rs).opened (old_own (PhysComp t p u c))
  own_more (TopVoid t p u) = each_filter (AreOwn (record { lsn = l; is = TopVoid t p u } ∷ rs)) (λ d. not (d.transaction == t)) (tally rs).opened (old_own (TopVoid t p u))
  own_more (CompEnd t p u) = each_filter (AreOwn (record { lsn = l; is = CompEnd t p u } ∷ rs)) (λ d. not (d.transaction == t)) (tally rs).opened (old_own (CompEnd t p u))
  own_more (Save t p m) = old_own (Save t p m)
  own_more (Commit t p) = old_own (Commit t p)
  own_more (End t p) = old_own (End t p)

-- the step with the number of an open change is of that change's transaction
all_own : (rs : Steps) → Formed rs → Each (AreOwn rs) (tally rs).opened
all_own [] f = tt
all_own (r ∷ rs) f = own_more r.lsn rs f.0 (low rs f.2) (sound rs f.2).opens (all_own rs f.2) r.is

each_swap : {A B : Type 0} (P : A → B → Type 0) (xs : List A) (ys : List B) → Each (λ x. Each (P x) ys) xs → Each (λ y. Each (λ x. P x y) xs) ys
each_swap P xs [] h = tt
each_swap P xs (y ∷ ys) h = (
  each_more (λ x. P x y × Each (P x) ys) (λ x. P x y) xs (λ x z. z.0) h,
  each_swap P xs ys (each_more (λ x. P x y × Each (P x) ys) (λ x. Each (P x) ys) xs (λ x z. z.1) h),
)

-- the record is this step
abbrev IsStep : (recovery.Numbered Changing (List ℕ) → Type 0) → Numbered → Type 0
IsStep Q n = (x : Step) → sight_of n.is ≡ Stepped x → Q (record { lsn = n.lsn; is = x })

-- what holds of all steps of a log holds of each of its records that is one
each_record : (Q : recovery.Numbered Changing (List ℕ) → Type 0) (rs : Steps) (ns : List Numbered) → Each Q (steps_behind rs ns) → Each Q rs × Each (IsStep Q) ns
each_record Q rs [] h = (h, tt)
each_record Q rs (n ∷ ns) h = by_sight (sight_of n.is) refl (each_record Q (with_step rs n.lsn (sight_of n.is)) ns h)
  where
    by_sight : (s : Sight) → sight_of n.is ≡ s → Each Q (with_step rs n.lsn s) × Each (IsStep Q) ns → Each Q rs × Each (IsStep Q) (n ∷ ns)
    by_sight (Stepped y) e z = (z.0.1, ((λ x is. subst (λ (s : Step). Q (record { lsn = n.lsn; is = s })) (same y x (sym e ∙ is)) z.0.0), z.1))
      where
        same : (a b : Step) → ◌≡◌ {A = Sight} (Stepped a) (Stepped b) → a ≡ b
        same a b is = cc
    by_sight (Estimated estimate) e z = (z.0, ((λ x is. absurd (other x (sym e ∙ is))), z.1))
      where
        other : (a : Step) → ◌≡◌ {A = Sight} (Estimated estimate) (Stepped a) → ⊥
        other a is = cc

-- an open change with this number is among its transaction's, and what holds of all owners holds of this one
find_open : (W : ℕ → Type 0) (l u : ℕ) (ds : List (Open Changing)) → Each (λ d. l ≡ d.lsn → u ≡ d.transaction) ds → Each (λ d. W d.transaction) ds → is_open_at l ds ≡ true
    → (is_in l (map (λ d. d.lsn) (open_of u ds)) ≡ true) × W u
find_open W l u [] own whose h = absurd (cc)
find_open W l u (d ∷ ds) own whose h =
    or_cases (d.lsn == l) (is_open_at l ds) ((is_in l (map (λ e. e.lsn) (open_of u (d ∷ ds))) ≡ true) × W u) h
    (λ here. let is : u ≡ d.transaction = own.0 (sym (number_is d.lsn l here)) in (
      subst (λ b. is_in l (map (λ e. e.lsn) (cond b (d ∷ open_of u ds) (open_of u ds))) ≡ true) (sym (subst (λ v. (d.transaction == v) ≡ true) (sym is) (same_number d.transaction)))
          (or_left (d.lsn == l) (is_in l (map (λ e. e.lsn) (open_of u ds))) here),
      subst W (sym is) whose.0,
    ))
    (λ later. let more = find_open W l u ds own.1 whose.1 later in (by_test (d.transaction == u) more.0, more.1))
  where
    by_test : (b : Bool) → is_in l (map (λ e. e.lsn) (open_of u ds)) ≡ true → is_in l (map (λ e. e.lsn) (cond b (d ∷ open_of u ds) (open_of u ds))) ≡ true
    by_test true z = or_right (d.lsn == l) (is_in l (map (λ e. e.lsn) (open_of u ds))) z
    by_test false z = z

abbrev GoesOn : Steps → ℕ → Type 0
GoesOn rs u = (u ≡ 0) ⊎ (is_in u (tally rs).live ≡ true)

all_go_on : (base : ℕ) (rs : Steps) → IsLog base rs → Each (λ d. GoesOn rs d.transaction) (tally rs).opened
all_go_on base rs h =
    each_more (IsOfLast rs) (λ d. GoesOn rs d.transaction) (tally rs).opened
    (λ d z. h.one_action.whose d.transaction (unended d.lsn (border_of d.transaction rs) (last_of d.transaction rs) z.behind z.within))
    (all_of_last rs h.chained h.owned h.between)
  where
    unended : (at border last : ℕ) → border < at → at ≤ last → last ≡ border → ⊥
    unended at border last a b e = absurd (omega arith)

-- the operations of a record that is a change are asked for, where they are needed
module _ (base point : ℕ) (ns : List Numbered) (formed : IsPageLog base ns) where
  abbrev IsAsked : Numbered → Type 0
  IsAsked n = asked.is_needed point (undone_of (analysis_of base ns)) n.lsn n.is ≡ true

  abbrev IsNeeded : Numbered → Type 0
  IsNeeded n = needs.is_needed point (tally (steps_of ns)).live (tally (steps_of ns)).opened n ≡ true

  abbrev Owners : recovery.Numbered Changing (List ℕ) → Type 0
  Owners r = Each (λ d. IsOwner d.lsn d.transaction r) (tally (steps_of ns)).opened

  needed_asked : (n : Numbered) (x : Step) → txn_of x ≡ n.is.transaction → Owners (record { lsn = n.lsn; is = x }) → IsNeeded n → IsAsked n
  needed_asked n x of owners h =
      or_cases (nat_le point n.lsn) (live || opened) (IsAsked n) h
      (λ late. or_left (nat_le point n.lsn) (loser || systems) late)
      (λ undone. or_right (nat_le point n.lsn) (loser || systems)
      (or_cases live opened ((loser || systems) ≡ true) undone
      (λ on. or_left loser systems (is_loser u rs ∙ on))
      (λ is_open. by_open (find_open (GoesOn rs) n.lsn u (tally rs).opened (subst (λ v. Each (λ d. n.lsn ≡ d.lsn → v ≡ d.transaction) (tally rs).opened) of owners) (all_go_on base rs formed.steps) is_open))))
    where
      rs : Steps
      rs = steps_of ns

      u : ℕ
      u = n.is.transaction

      live : Bool
      live = is_in u (tally rs).live

      opened : Bool
      opened = is_open_at n.lsn (tally rs).opened

      loser : Bool
      loser = is_among u (analysis_of base ns).losers

      systems : Bool
      systems = u == 0 && is_number n.lsn (analysis_of base ns).opened

      both : (a b : Bool) → a ≡ true → b ≡ true → (a && b) ≡ true
      both true b e z = z
      both false b e z = absurd (cc)

      by_open : (is_in n.lsn (opens rs u) ≡ true) × GoesOn rs u → (loser || systems) ≡ true
      by_open (found, inl is) = or_right loser systems (both (u == 0) (is_number n.lsn (oldest_first (opens rs 0))) (subst (λ v. (u == v) ≡ true) is (same_number u))
          (number_in n.lsn (oldest_first (opens rs 0)) ∙ (is_in-oldest_first n.lsn (opens rs 0) ∙ subst (λ v. is_in n.lsn (opens rs v) ≡ true) is found)))
      by_open (found, inr on) = or_left loser systems (is_loser u rs ∙ on)

  each_asked : (ms : List Numbered) → Each (IsStep Owners) ms → Each (λ n. IsNeeded n → (x : Step) → sight_of n.is ≡ Stepped x → txn_of x ≡ n.is.transaction → IsAsked n) ms
  each_asked ms h = each_more (IsStep Owners) (λ n. IsNeeded n → (x : Step) → sight_of n.is ≡ Stepped x → txn_of x ≡ n.is.transaction → IsAsked n) ms
      (λ n owners needed x is of. needed_asked n x of (owners x is) needed) h

  all_asked : Each (λ n. IsNeeded n → (x : Step) → sight_of n.is ≡ Stepped x → txn_of x ≡ n.is.transaction → IsAsked n) ns
  all_asked = each_asked ns (each_record Owners [] ns (each_swap (λ d r. IsOwner d.lsn d.transaction r) (tally (steps_of ns)).opened (steps_of ns) (all_own (steps_of ns) formed.steps.chained))).1

module _ (t : Table) where
  change_known : (c : Changing) → unknown_in t (Some c) ≡ None → Each (IsRegistered t) (codes_in c)
  change_known (Page c) e = by_test (c.operation == 6 || c.operation == 7) (is_some (record_at t c.code)) refl e
    where
      by_test : (b k : Bool) → is_some (record_at t c.code) ≡ k → ◌≡◌ {A = Option ℕ} (cond (b && not k) (Some c.code) None) None
          → Each (IsRegistered t) (cond b (record { sort = OnItem; code = c.code } ∷ []) [])
      by_test true true known z = (known, tt)
      by_test true false known z = absurd (cc)
      by_test false k known z = tt
  change_known (SegWrite c) e = tt
  change_known (SegOp c) e = by_test (is_some (range_at t c.code)) refl e
    where
      by_test : (k : Bool) → is_some (range_at t c.code) ≡ k → ◌≡◌ {A = Option ℕ} (cond k None (Some c.code)) None → Each (IsRegistered t) (record { sort = OnRange; code = c.code } ∷ [])
      by_test true known z = (known, tt)
      by_test false known z = absurd (cc)

  -- where none of those that are asked for is unknown, all that are needed are registered
  module _ (point : ℕ) (undone : Undone) (live : List ℕ) (opened : List (Open Changing)) where
    abbrev Follows : Numbered → Type 0
    Follows n = needs.is_needed point live opened n ≡ true → (x : Step) → sight_of n.is ≡ Stepped x → txn_of x ≡ n.is.transaction → asked.is_needed point undone n.lsn n.is ≡ true

    record_known : (n : Numbered) → Follows n → needs.is_needed point live opened n ≡ true → unknown_by t point undone n.lsn n.is ≡ None → Each (IsRegistered t) (codes_said n.is.says)
    record_known n follows needed e = by_says n.is.says refl
      where
        none : (c : Changing) → changed_by n.is.says ≡ Some c → asked.is_needed point undone n.lsn n.is ≡ true → unknown_in t (Some c) ≡ None
        none c is asked_for = ap (unknown_in t) (sym is) ∙ (sym (ap (λ b. cond b (unknown_in t (changed_by n.is.says)) None) asked_for) ∙ e)

        by_says : (s : Says) → n.is.says ≡ s → Each (IsRegistered t) (codes_said s)
        by_says SaysBegin is = tt
        by_says (SaysChanged c) is = change_known c (none c (ap changed_by is) (follows needed (Change n.is.transaction n.is.previous c) (ap (sight_by n.is.transaction n.is.previous) is) refl))
        by_says (SaysTopEnd u note) is = tt
        by_says (SaysPhysComp u c) is = change_known c (none c (ap changed_by is) (follows needed (PhysComp n.is.transaction n.is.previous u c) (ap (sight_by n.is.transaction n.is.previous) is) refl))
        by_says (SaysTopVoid u) is = tt
        by_says (SaysCompEnd u) is = tt
        by_says (SaysSave m) is = tt
        by_says SaysCommit is = tt
        by_says SaysEnd is = tt
        by_says (SaysCheckpoint estimate others) is = tt

    all_known : (ns : List Numbered) → Each Follows ns → first_unknown t point undone ns ≡ None → Each (IsRegistered t) (codes_needed point live opened ns)
    all_known [] follows e = tt
    all_known (n ∷ ns) follows e =
        let split = both_none (unknown_by t point undone n.lsn n.is) (first_unknown t point undone ns) e in
        each_append (IsRegistered t) (cond (needs.is_needed point live opened n) (codes_said n.is.says) []) (codes_needed point live opened ns)
        (by_need (needs.is_needed point live opened n) refl split.0) (all_known ns follows.1 split.1)
      where
        both_none : (a b : Option ℕ) → or_else a b ≡ None → (a ≡ None) × (b ≡ None)
        both_none None b z = (refl, z)
        both_none (Some x) b z = absurd (cc)

        by_need : (b : Bool) → needs.is_needed point live opened n ≡ b → unknown_by t point undone n.lsn n.is ≡ None → Each (IsRegistered t) (cond b (codes_said n.is.says) [])
        by_need true needed z = record_known n follows.0 needed z
        by_need false needed z = tt

-- WHERE OPENING FINDS NO CODE UNKNOWN, all that a formed log needs are registered
pub none_unknown : (t : Table) (base : ℕ) (ns : List Numbered) → IsPageLog base ns → first_unknown t (redo_point base ns) (undone_of (analysis_of base ns)) ns ≡ None → Each (IsRegistered t) (codes base ns)
none_unknown t base ns formed e =
    all_known t (redo_point base ns) (undone_of (analysis_of base ns)) (tally (steps_of ns)).live (tally (steps_of ns)).opened ns (all_asked base (redo_point base ns) ns formed) e

pub accepted_knows : (t : Table) (c : Image) (s : Super) → (a : IsAccepted t c s) → IsPageLog a.0.super.base a.0.log.records → Each (IsRegistered t) (codes_of c a.0)
accepted_knows t c s a formed = none_unknown t a.0.super.base a.0.log.records formed a.2
