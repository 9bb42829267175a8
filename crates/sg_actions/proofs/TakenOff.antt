-- Taking the open action off, one change after another.
use Rattle.std.proofs.Common.{◌≡◌, ◌≢◌, ℕ, ◌==◌, ◌<◌, ◌≤◌, List, [], ◌∷◌, Some, Bool, true, sym, ap, subst, ◌∙◌, refl, arith, inl, inr}
use Rattle.std.specs.Prelude.{map, is_some}
use Rattle.std.proofs.lemmas.Bool.{cases_Bool}
use Rattle.sg_ops.specs.Laws.{IsLawful}
use Rattle.sg_ops.specs.Table.{Table}
use Rattle.sg_record.specs.Changes.{Change as Changing, PageChange}
use Rattle.sg_record.specs.Changes.Change.{Page, SegWrite, SegOp}
use Rattle.sg_recovery.specs.Laws.{Each}
use Rattle.sg_recovery.specs.Log.{Open, said, tally, open_up_to, changes_of}
use Rattle.sg_recovery.specs.Log.Record.{Begin, Change, TopEnd, PhysComp, TopVoid, CompEnd, Save, Commit, End}
use Rattle.sg_recovery.specs.Chains.{next_off, Behind}
use Rattle.sg_recovery.specs.Shows.{Pairs}
use Rattle.sg_recovery.proofs.Chaining.{sound, takes_first}
use Rattle.sg_action.specs.States.{State, Change as Changed, Kept, apply, fits, inverse_of, made, step_leaf, or_same, with_one, Alike}
use Rattle.sg_action.specs.Opened.{TakesTo, GoesOn}
use Rattle.sg_action.proofs.TakenOff.{takes_off, goes_on}
use Rattle.sg_actions.specs.Acting.{IsWell, IsChained}
use Rattle.sg_actions.specs.Changes.{op_said, back_said, meaning, comp_of, page_off}
use Rattle.sg_actions.specs.Rows.{placed, at_rest}
use Rattle.sg_actions.specs.Steps.{Step, Steps, stepped, with_change, logged, opened, but_change, ended, begin_of, repeated}
use Rattle.sg_actions.specs.Taken.{kept_of}
use Rattle.sg_actions.specs.TakingOff.{IsTakingOff, AreLinked}
use Rattle.sg_actions.specs.declared.rows.Actor.{Actor}
use Rattle.sg_actions.specs.declared.rows.Row.{Row}
use Rattle.sg_actions.proofs.Chained.{later, running_comp, running_void, running_later, rows_step, rows_top, rows_top_system, rows_later, own_low, none_open}
use Rattle.sg_actions.proofs.Repeating.{made_opened}

-- what a record says that takes a change of a page off
pub off_said : (c : PageChange) → op_said (page_off c) ≡ back_said c
off_said c = elim (cases_Bool (c.operation == 1)) [
  | inl a ↦ rw a refl
  | inr a ↦ elim (cases_Bool (c.operation == 2)) [
    | inl b ↦ rw a (rw b refl)
    | inr b ↦ elim (cases_Bool (c.operation == 3)) [
      | inl d ↦ rw a (rw b (rw d refl))
      | inr d ↦ elim (cases_Bool (c.operation == 4)) [
        | inl e ↦ rw a (rw b (rw d (rw e refl)))
        | inr e ↦ elim (cases_Bool (c.operation == 5)) [
          | inl f ↦ rw a (rw b (rw d (rw e (rw f refl))))
          | inr f ↦ elim (cases_Bool (c.operation == 6)) [
            | inl g ↦ rw a (rw b (rw d (rw e (rw f (rw g refl)))))
            | inr g ↦ rw a (rw b (rw d (rw e (rw f (rw g refl)))))
          ]
        ]
      ]
    ]
  ]
]

pub off_page : (c : PageChange) → (page_off c).page ≡ c.page
off_page c = elim (cases_Bool (c.operation == 1)) [
  | inl a ↦ rw a refl
  | inr a ↦ elim (cases_Bool (c.operation == 2)) [
    | inl b ↦ rw a (rw b refl)
    | inr b ↦ elim (cases_Bool (c.operation == 3)) [
      | inl d ↦ rw a (rw b (rw d refl))
      | inr d ↦ elim (cases_Bool (c.operation == 4)) [
        | inl e ↦ rw a (rw b (rw d (rw e refl)))
        | inr e ↦ elim (cases_Bool (c.operation == 5)) [
          | inl f ↦ rw a (rw b (rw d (rw e (rw f refl))))
          | inr f ↦ elim (cases_Bool (c.operation == 6)) [
            | inl g ↦ rw a (rw b (rw d (rw e (rw f (rw g refl)))))
            | inr g ↦ rw a (rw b (rw d (rw e (rw f (rw g refl)))))
          ]
        ]
      ]
    ]
  ]
]

-- THE RECORD THAT TAKES A CHANGE OFF does what the change's inverse does
pub comp_applies : (t : Table) (x : State) (c : Changing) → apply t x (meaning (comp_of c)) ≡ apply t x (inverse_of (meaning c))
comp_applies t x (Page c) = λ j. record x { pages = with_one x.pages (off_page c j) (or_same (step_leaf t (off_said c j) (x.pages (off_page c j))) (x.pages (off_page c j))) }
comp_applies t x (SegWrite c) = refl
comp_applies t x (SegOp c) = by_bytes c.before refl
  where
    by_bytes : (before : List ℕ) → c.before ≡ before → apply t x (meaning (comp_of (SegOp c))) ≡ apply t x (inverse_of (meaning (SegOp c)))
    by_bytes [] e = rw e refl
    by_bytes (y ∷ ys) e = rw e refl

pub comp_fits : (t : Table) (x : State) (c : Changing) → fits t x (meaning (comp_of c)) ≡ fits t x (inverse_of (meaning c))
comp_fits t x (Page c) = λ j. is_some (step_leaf t (off_said c j) (x.pages (off_page c j)))
comp_fits t x (SegWrite c) = refl
comp_fits t x (SegOp c) = by_bytes c.before refl
  where
    by_bytes : (before : List ℕ) → c.before ≡ before → fits t x (meaning (comp_of (SegOp c))) ≡ fits t x (inverse_of (meaning (SegOp c)))
    by_bytes [] e = rw e refl
    by_bytes (y ∷ ys) e = rw e refl

-- THE OPEN CHANGES of the log are those of the open action
pub changes_are : (rs : Steps) → (tally (ended rs)).opened ≡ [] → changes_of (tally rs).opened ≡ logged rs
changes_are [] e = refl
changes_are (r ∷ rs) e = by_step r.is (r ∷ rs) refl e (changes_are rs)
  where
    none : (ds : List (Open Changing)) → ds ≡ [] → changes_of ds ≡ []
    none ds k = ap (λ (xs : List (Open Changing)). changes_of xs) k

    by_step : (s : Step) (here : Steps) → (tally here).opened ≡ (said r.lsn s (tally rs)).opened → (tally (but_change s here (ended rs))).opened ≡ [] → ((tally (ended rs)).opened ≡ [] → changes_of (tally rs).opened ≡ logged rs)
        → changes_of (said r.lsn s (tally rs)).opened ≡ with_change s (logged rs)
    by_step (Begin u p) here is e more = none _ (sym is ∙ e)
    by_step (Change u p c) here is e more = ap (λ (cs : List Changing). c ∷ cs) (more e)
    by_step (TopEnd u p w n) here is e more = none _ (sym is ∙ e)
    by_step (PhysComp u p w c) here is e more = none _ (sym is ∙ e)
    by_step (TopVoid u p w) here is e more = none _ (sym is ∙ e)
    by_step (CompEnd u p w) here is e more = none _ (sym is ∙ e)
    by_step (Save u p m) here is e more = none _ (sym is ∙ e)
    by_step (Commit u p) here is e more = none _ (sym is ∙ e)
    by_step (End u p) here is e more = none _ (sym is ∙ e)

-- A TAKE-OFF BEGINS at each record of an action
pub take_off_begins : (t : Table) → IsLawful t → (limits : State → ℕ → ℕ) (base : ℕ) (first : State) (rs : Steps) (pages bands : List Bool) (tail : ℕ) (rows : List Row) (actor : Actor) → IsChained base rs tail rows actor
    → IsWell t limits (begin_of t first rs) (opened rs) pages bands → IsTakingOff t (kept_of limits pages bands (begin_of t first rs) (opened rs)) (begin_of t first rs) base rs (repeated t first rs) tail rows actor
take_off_begins t law limits base first rs pages bands tail rows actor h w =
    let kept : Kept = kept_of limits pages bands (begin_of t first rs) (opened rs) in
    let takes : TakesTo t kept (begin_of t first rs) (opened rs) (made t (begin_of t first rs) (opened rs)) = takes_off t law kept (begin_of t first rs) [] (opened rs) w.begun w.fit w.opens w.well in
    record {
      running = h.running;
      rows_are = h.rows_are;
      takes = subst (λ (ds : List Changed). TakesTo t kept (begin_of t first rs) ds (repeated t first rs)) (sym (ap (λ (cs : List Changing). map meaning cs) (changes_are rs h.closed)))
          (subst (λ (x : State). TakesTo t kept (begin_of t first rs) (opened rs) x) (made_opened t first rs) takes);
    }

-- each open change is behind the record before the action
pub before_below : (rs : Steps) (before : ℕ) (d : Open Changing) (ds : List (Open Changing)) → AreLinked rs before (d ∷ ds) → before < d.lsn
before_below rs before d [] h = h.1
before_below rs before d (e ∷ ds) h = let rest = before_below rs before e ds h.3 in omega (arith, rest, h.1)

-- the record that takes the last open change off, and goes on at the one before it
abbrev pub comp_step : Actor → Open Changing → List (Open Changing) → Step
comp_step actor d ds = PhysComp actor.txn.0 actor.last (next_off actor.before ds) (comp_of d.change)

-- ONE CHANGE IS TAKEN OFF: its inverse fits, and what is left goes on so
pub record TakesOneOff (t : Table) (kept : Kept) (begin : State) (base : ℕ) (rs : Steps) (x : State) (tail next : ℕ) (rows : List Row) (actor : Actor) (d : Open Changing) (ds : List (Open Changing)) : Type 0 where
  pub fits_it : fits t x (meaning (comp_of d.change)) ≡ true
  pub leaves : (tally (stepped rs tail (comp_step actor d ds))).opened ≡ ds
  pub goes_on : IsTakingOff t kept begin base (stepped rs tail (comp_step actor d ds)) (apply t x (meaning (comp_of d.change))) next rows (later actor tail)

pub takes_one_off : (t : Table) (kept : Kept) (begin : State) (base : ℕ) (rs : Steps) (x : State) (tail next : ℕ) (rows : List Row) (actor : Actor) (d : Open Changing) (ds : List (Open Changing)) → tail < next → (tally rs).opened ≡ d ∷ ds
    → IsTakingOff t kept begin base rs x tail rows actor → TakesOneOff t kept begin base rs x tail next rows actor d ds
takes_one_off t kept begin base rs x tail next rows actor d ds less is h =
    let step : Step = comp_step actor d ds in
    let own : Each (λ e. e.transaction ≡ actor.txn.0) (d ∷ ds) = subst (λ (es : List (Open Changing)). Each (λ e. e.transaction ≡ actor.txn.0) es) is h.running.owned in
    let linked : AreLinked rs actor.before (d ∷ ds) = subst (λ (es : List (Open Changing)). AreLinked rs actor.before es) is h.running.linked in
    let order : Pairs Behind (d ∷ ds) = subst (λ (es : List (Open Changing)). Pairs Behind es) is (sound rs h.running.log.chained).order in
    let leaves : open_up_to actor.txn.0 (next_off actor.before ds) (tally rs).opened ≡ ds =
    ap (λ (es : List (Open Changing)). open_up_to actor.txn.0 (next_off actor.before ds) es) is ∙ takes_first actor.txn.0 (next_off actor.before ds) actor.before d ds order own.0 (before_below rs actor.before d ds linked) refl in
    let takes : TakesTo t kept begin (meaning d.change ∷ map meaning (changes_of ds)) x = subst (λ (es : List (Open Changing)). TakesTo t kept begin (map meaning (changes_of es)) x) is h.takes in
    let more : GoesOn t kept begin (map meaning (changes_of ds)) (meaning d.change) x = goes_on t kept begin (map meaning (changes_of ds)) (meaning d.change) x takes in
    record {
      fits_it = comp_fits t x d.change ∙ more.fits;
      leaves = leaves;
      goes_on = record {
        running = running_comp (comp_of d.change) d ds less is leaves h.running;
        rows_are = rows_step step refl refl less h.rows_are;
        takes = subst (λ (es : List (Open Changing)). TakesTo t kept begin (map meaning (changes_of es)) (apply t x (meaning (comp_of d.change)))) (sym leaves)
            (subst (λ (y : State). TakesTo t kept begin (map meaning (changes_of ds)) y) (sym (comp_applies t x d.change)) more.rest);
      };
    }

-- ALL IS TAKEN OFF: pages and bands can't be told from those at the action's begin, and the record that says so ends the action
abbrev pub void_step : Actor → Step
void_step actor = TopVoid actor.txn.0 actor.last actor.before

pub off_alike : (t : Table) (kept : Kept) (begin : State) (base : ℕ) (rs : Steps) (x : State) (tail : ℕ) (rows : List Row) (actor : Actor) → (tally rs).opened ≡ [] → IsTakingOff t kept begin base rs x tail rows actor → Alike kept x begin
off_alike t kept begin base rs x tail rows actor is h =
    let takes : TakesTo t kept begin [] x = subst (λ (es : List (Open Changing)). TakesTo t kept begin (map meaning (changes_of es)) x) is h.takes in
    subst (λ (y : State). Alike kept y begin) (sym (same_some x takes.end takes.off)) takes.alike
  where
    same_some : (a b : State) → Some a ≡ Some b → a ≡ b
    same_some a b e = cc

pub chain_void : (t : Table) (kept : Kept) (begin : State) (base : ℕ) (rs : Steps) (x : State) (tail next : ℕ) (rows : List Row) (actor : Actor) (row : Row) → tail < next → actor.txn.0 ≢ 0 → row.txn.0 ≡ actor.txn.0 → row.last ≡ tail → (tally rs).opened ≡ []
    → IsTakingOff t kept begin base rs x tail rows actor → IsChained base (stepped rs tail (void_step actor)) next (placed rows actor.txn.0 row) at_rest
chain_void t kept begin base rs x tail next rows actor row less acts is_row is_last none h = record {
  running = running_void less none h.running;
  rows_are = rows_top (void_step actor) row refl refl less (own_low h.running) acts (h.running.acting acts) is_row is_last h.rows_are;
  closed = none_open h.running;
  at = sym (ap (next_off 0) (none_open h.running));
}

-- and of the system
pub chain_void_system : (t : Table) (kept : Kept) (begin : State) (base : ℕ) (rs : Steps) (x : State) (tail next : ℕ) (rows : List Row) (actor : Actor) → tail < next → actor.txn.0 ≡ 0 → (tally rs).opened ≡ []
    → IsTakingOff t kept begin base rs x tail rows actor → IsChained base (stepped rs tail (void_step actor)) next rows at_rest
chain_void_system t kept begin base rs x tail next rows actor less acts none h = record {
  running = running_void less none h.running;
  rows_are = rows_top_system (void_step actor) refl refl less acts h.rows_are;
  closed = none_open h.running;
  at = sym (ap (next_off 0) (none_open h.running));
}

-- a take-off at a later tail
pub taking_later : {t : Table} {kept : Kept} {begin : State} {base : ℕ} {rs : Steps} {x : State} {tail next : ℕ} {rows : List Row} {actor : Actor} → IsTakingOff t kept begin base rs x tail rows actor → tail ≤ next → IsTakingOff t kept begin base rs x next rows actor
taking_later {t} {kept} {begin} {base} {rs} {x} {tail} {next} {rows} {actor} h le = record { running = running_later le h.running; rows_are = rows_later le h.rows_are; takes = h.takes }
