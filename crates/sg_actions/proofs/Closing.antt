-- The chain with a transaction's record that is outside of its actions, and with the end of an undo.
use Rattle.std.proofs.Common.{◌≡◌, ◌≢◌, ℕ, ◌+◌, ◌==◌, ◌<◌, ◌≤◌, List, [], ◌∷◌, Option, Some, None, IsSome, Bool, true, false, sym, ap, subst, ◌∙◌, refl, arith, inl, inr, ◌⊎◌, nat_lt}
use Rattle.std.specs.Prelude.{if◌then◌else◌, option_map, Result, Ok, Err, OnOk}
use Rattle.std.specs.Bool.{MatchBool}
use Rattle.std.specs.List.{find}
use Rattle.std.proofs.lemmas.Bool.{cases_Bool, cases_eq}
use Rattle.sg_alloc.specs.declared.maps.Maps.{Maps}
use Rattle.sg_base.specs.declared.numbers.TxnId.{TxnId}
use Rattle.sg_ops.specs.Laws.{IsLawful}
use Rattle.sg_ops.specs.Table.{Table}
use Rattle.sg_record.specs.Changes.{Change as Changing}
use Rattle.sg_record.specs.Records.Says.{CompEnd as SaysCompEnd, Save as SaysSave, Commit as SaysCommit, End as SaysEnd}
use Rattle.sg_record.specs.Records.{Record}
use Rattle.sg_record.specs.Shown.{by}
use Rattle.sg_recovery.specs.Ending.{EndsWell, MayBeBehind, IsOver}
use Rattle.sg_recovery.specs.Formed.{IsBetween as Between}
use Rattle.sg_recovery.specs.Laws.{Each}
use Rattle.sg_recovery.specs.Log.{Open, said, tally, is_in, without, open_of, notes_of}
use Rattle.sg_recovery.specs.Log.Record.{CompEnd, Save, Commit, End}
use Rattle.sg_recovery.specs.TakeOff.{IsOwned}
use Rattle.sg_recovery.specs.Chains.{txn_of, is_border, last_of, border_of, next_off, Formed, Follows, IsKnown, IsStanding}
use Rattle.sg_recovery.proofs.Basic.{each_kept, number_is, lt_is, lt_not}
use Rattle.sg_recovery.proofs.Chaining.{clash, sound}
use Rattle.sg_recovery.proofs.Showing.{without_not, without_in, without_same}
use Rattle.sg_action.specs.States.{State, Change as Changed}
use Rattle.sg_space.specs.declared.space.SpaceFault.{SpaceFault}
use Rattle.sg_actions.specs.Acting.{IsWell, IsChained}
use Rattle.sg_actions.specs.Calls.{AreSettled, Appends}
use Rattle.sg_actions.specs.Counts.{Note, MayAppend}
use Rattle.sg_actions.specs.Ending.{IsUndone, CanEndUndo, UndoEnded, IsBetween, IsEndable, Marked, Committed, Closed, vacant}
use Rattle.sg_actions.specs.Engine.{EngineView, Moments, seen}
use Rattle.sg_actions.specs.Led.{Appended, HasLogged, LogCall, Stayed, HasStayed, LookCall}
use Rattle.sg_actions.specs.Growing.{grows_same, grows_then, moments_then}
use Rattle.sg_actions.specs.Images.{Grows, Recovering}
use Rattle.sg_actions.specs.Onward.{acting_to}
use Rattle.sg_actions.specs.Rows.{last_in, HasRow, AreApart, placed, rows_after, at_rest}
use Rattle.sg_actions.specs.Steps.{Step, Steps, step_of, with_step, stepped, repeated, opened, ended, begin_of}
use Rattle.sg_recovery.specs.Formed.{IsStraight}
use Rattle.sg_actions.specs.TakingOff.{AreLinked, IsRunning, HasCommitted}
use Rattle.sg_actions.specs.View.{IsKept}
use Rattle.sg_actions.specs.declared.rows.Actor.{Actor}
use Rattle.sg_actions.specs.declared.rows.Row.{Row}
use Rattle.sg_actions.specs.Taken.{is_set}
use Rattle.sg_actions.proofs.Beginning.{idle_opened, well_idle}
use Rattle.sg_actions.proofs.Chained.{last_here, last_there, border_here, border_there, committed_there, committed_here, no_zero, own_low, none_open, log_more, goes_over, straight_on, one_action, rows_top, running_end, running_later, chain_later}
use Rattle.sg_actions.proofs.Ended.{well_ended}
use Rattle.sg_actions.proofs.Flags.{some_of, and_left}
use Rattle.sg_actions.proofs.Led.{call_gone}
use Rattle.sg_actions.proofs.Placing.{placed_other, placed_self, none_placed, placed_apart, after_one}
use Rattle.sg_actions.proofs.Repeating.{made_opened}

none_some : {A : Type 0} (x : A) → None ≡ Some x → ⊥
none_some x e = cc

same_some : {A : Type 0} (x y : A) → Some x ≡ Some y → x ≡ y
same_some x y h = cc

-- BETWEEN ACTIONS

idle_closed : (base : ℕ) (rs : Steps) (tail : ℕ) (rows : List Row) (actor : Actor) → ended rs ≡ rs → IsChained base rs tail rows actor → (tally rs).opened ≡ []
idle_closed base rs tail rows actor idle h = sym (ap (λ (xs : Steps). (tally xs).opened) idle) ∙ h.closed

own_closed : (t : ℕ) (ds : List (Open Changing)) → ds ≡ [] → open_of t ds ≡ []
own_closed t ds e = ap (open_of t) e

-- where the transaction's last record stands, between actions
stands : (base : ℕ) (rs : Steps) (tail : ℕ) (rows : List Row) (actor : Actor) (t last : ℕ) → actor.txn.0 ≡ 0 → last_in rows t ≡ Some last → IsChained base rs tail rows actor → is_in t (tally rs).live ≡ true → (last ≡ last_of t rs) × (last ≡ border_of t rs)
stands base rs tail rows actor t last rest row h live =
    let ne : t ≢ actor.txn.0 = λ e. no_zero rs t h.running.system live (e ∙ rest) in
    let is : last ≡ last_of t rs = same_some last (last_of t rs) (sym row ∙ h.rows_are.others t ne live) in
    (is, is ∙ h.running.alone t ne)

-- A RECORD BETWEEN ACTIONS, of a transaction, by what it leaves of those that go on
running_between : {base : ℕ} {rs : Steps} {tail next : ℕ} {actor : Actor} (x : Step) → tail < next → actor.txn.0 ≡ 0 → is_border x ≡ true → txn_of x ≢ 0 → (said tail x (tally rs)).opened ≡ []
    → ((u : ℕ) → is_in u (said tail x (tally rs)).live ≡ true → is_in u (tally rs).live ≡ true) → IsOwned tail x → (IsKnown (tally rs) x → Follows rs tail x) → Between rs x → IsStraight rs x → EndsWell rs x → IsOver base rs x
    → IsRunning base rs tail actor → IsRunning base (stepped rs tail x) next actor
running_between {base} {rs} {tail} {next} {actor} x less rest border nz none fewer owned follows between straight ended over h = record {
  log = log_more base rs tail x h.log h.based h.below owned follows (λ z. absurd (nz z)) between straight ended over (one_action (stepped rs tail x) actor alone (λ ne. absurd (ne rest)));
  based = omega (arith, h.based, less);
  below = omega (arith, less);
  system = system;
  owned = subst (λ (ds : List (Open Changing)). Each (λ d. d.transaction ≡ actor.txn.0) ds) (sym none) tt;
  last_is = λ live. absurd (clash (is_in actor.txn.0 (said tail x (tally rs)).live) off live);
  before_is = λ live. absurd (clash (is_in actor.txn.0 (said tail x (tally rs)).live) off live);
  system_is = λ z. ((h.system_is z).0, subst (λ (n : ℕ). MatchBool (n == border_of 0 (stepped rs tail x)) (actor.last ≡ 0) (actor.last ≡ n)) (sym (last_there tail x rs 0 apart_0)) (subst (λ (m : ℕ). MatchBool (last_of 0 rs == m) (actor.last ≡ 0) (actor.last ≡ last_of 0 rs)) (sym (border_there tail x rs 0 apart_0)) (h.system_is z).1));
  acting = λ ne. absurd (ne rest);
  alone = alone;
  linked = subst (λ (ds : List (Open Changing)). AreLinked (stepped rs tail x) actor.before ds) (sym none) tt;
  before_low = omega (arith, h.before_low, less);
}
  where
    apart_0 : 0 ≢ txn_of x
    apart_0 e = absurd (nz (sym e))

    system : is_in 0 (said tail x (tally rs)).live ≡ false
    system = elim (cases_Bool (is_in 0 (said tail x (tally rs)).live)) [
      | inl e ↦ absurd (clash (is_in 0 (tally rs).live) h.system (fewer 0 e))
      | inr e ↦ e
    ]

    off : is_in actor.txn.0 (said tail x (tally rs)).live ≡ false
    off = ap (λ (k : ℕ). is_in k (said tail x (tally rs)).live) rest ∙ system

    alone : (u : ℕ) → u ≢ actor.txn.0 → last_of u (stepped rs tail x) ≡ border_of u (stepped rs tail x)
    alone u ne = elim (cases_eq u (txn_of x)) as (λ _. last_of u (stepped rs tail x) ≡ border_of u (stepped rs tail x)) [
      | inl e ↦ subst (λ (k : ℕ). last_of k (stepped rs tail x) ≡ border_of k (stepped rs tail x)) (sym e) (last_here tail x rs ∙ sym (border_here tail x rs border))
      | inr d ↦ last_there tail x rs u d ∙ (h.alone u ne ∙ sym (border_there tail x rs u d))
    ]

-- and the rows behind it: where it is the commit of the transaction, its row says it; where it is its end, it has none
chain_between : (base : ℕ) (rs : Steps) (tail next : ℕ) (rows rows' : List Row) (actor : Actor) (x : Step) → tail < next → actor.txn.0 ≡ 0 → (said tail x (tally rs)).opened ≡ [] → (tally (ended (stepped rs tail x))).opened ≡ [] → (tally rs).opened ≡ []
    → ((u : ℕ) → is_in u (said tail x (tally rs)).live ≡ true → is_in u (tally rs).live ≡ true) → ((u : ℕ) → next ≤ u → last_in rows' u ≡ None) → (is_in (txn_of x) (said tail x (tally rs)).live ≡ true → last_in rows' (txn_of x) ≡ Some tail)
    → ((u : ℕ) → u ≢ txn_of x → u ≢ 0 → last_in rows' u ≡ last_in rows u) → AreApart rows'
    → ((u : ℕ) → u ≢ txn_of x → is_in u (said tail x (tally rs)).live ≡ is_in u (tally rs).live)
    → ((last : ℕ) → last_in rows' (txn_of x) ≡ Some last → is_in (txn_of x) (said tail x (tally rs)).live ≡ false → HasCommitted (stepped rs tail x) (txn_of x) last) → IsRunning base (stepped rs tail x) next actor
    → IsChained base rs tail rows actor → IsChained base (stepped rs tail x) next rows' actor
chain_between base rs tail next rows rows' actor x less rest none closed was fewer low own others distinct same past running h = record {
  running = running;
  rows_are = record {
    own = λ ne. absurd (ne rest);
    low = low;
    others = λ u ne live. elim (cases_eq u (txn_of x)) as (λ _. last_in rows' u ≡ Some (last_of u (stepped rs tail x))) [
      | inl e ↦ subst (λ (k : ℕ). last_in rows' k ≡ Some (last_of k (stepped rs tail x))) (sym e) (own (subst (λ (k : ℕ). is_in k (said tail x (tally rs)).live ≡ true) e live) ∙ ap Some (sym (last_here tail x rs)))
      | inr d ↦ others u d (no_zero rs u h.running.system (fewer u live)) ∙ (h.rows_are.others u ne (fewer u live) ∙ ap Some (sym (last_there tail x rs u d)))
    ];
    apart = distinct;
    past = λ u last some ne there gone. elim (cases_eq u (txn_of x)) as (λ _. HasCommitted (stepped rs tail x) u last) [
      | inl e ↦ subst (λ (k : ℕ). HasCommitted (stepped rs tail x) k last) (sym e)
          (past last (subst (λ (k : ℕ). last_in rows' k ≡ Some last) e there) (subst (λ (k : ℕ). is_in k (said tail x (tally rs)).live ≡ false) e gone))
      | inr d ↦ committed_there tail x rs u last d (h.rows_are.past u last some ne (sym (others u d some) ∙ there) (sym (same u d) ∙ gone))
    ];
  };
  closed = closed;
  at = h.at ∙ (ap (next_off actor.before) was ∙ sym (ap (next_off actor.before) none));
}

-- the row that is put there
low_placed : (rows : List Row) (t tail next : ℕ) (row : Row) → t < tail → tail < next → (row.txn.0 ≡ t) ⊎ (row.txn.0 ≡ 0) → ((u : ℕ) → tail ≤ u → last_in rows u ≡ None) → (u : ℕ) → next ≤ u → last_in (placed rows t row) u ≡ None
low_placed rows t tail next row below less (inl e) low u far = placed_other rows t u row (λ k. absurd (omega (arith, k, far, less, below))) (λ k. absurd (omega (arith, k, far, less, below, e))) ∙ low u (omega (arith, far, less))
low_placed rows t tail next row below less (inr e) low u far = placed_other rows t u row (λ k. absurd (omega (arith, k, far, less, below))) (λ k. absurd (omega (arith, k, far, less, below, e))) ∙ low u (omega (arith, far, less))

-- a transaction with a row has a number below what comes next
pub row_low : (base : ℕ) (rs : Steps) (tail : ℕ) (rows : List Row) (actor : Actor) (t last : ℕ) → last_in rows t ≡ Some last → IsChained base rs tail rows actor → t < tail
row_low base rs tail rows actor t last row h = by (nat_lt t tail) refl
  where
    by : (b : Bool) → nat_lt t tail ≡ b → t < tail
    by true e = lt_is t tail e
    by false e = absurd (none_some last (sym (h.rows_are.low t (lt_not t tail e)) ∙ row))

-- A MARK
pub running_save : (base : ℕ) (rs : Steps) (tail next t last mark : ℕ) (rows : List Row) (actor : Actor) → tail < next → ended rs ≡ rs → actor.txn.0 ≡ 0 → last_in rows t ≡ Some last → is_in t (tally rs).live ≡ true
    → IsChained base rs tail rows actor → IsRunning base (stepped rs tail (Save t last mark)) next actor
running_save base rs tail next t last mark rows actor less idle rest there live h =
    let none = idle_closed base rs tail rows actor idle h in
    let at = stands base rs tail rows actor t last rest there h live in
    running_between (Save t last mark) less rest refl (no_zero rs t h.running.system live) none (λ u z. z) (row_low base rs tail rows actor t last there h) (λ known. (at.0, own_closed t (tally rs).opened none, at.1)) (own_closed t (tally rs).opened none) tt
    tt (goes_over base rs (Save t last mark) (λ some. live)) h.running

chain_save : (base : ℕ) (rs : Steps) (tail next t last mark : ℕ) (rows : List Row) (actor : Actor) (row : Row) → tail < next → ended rs ≡ rs → actor.txn.0 ≡ 0 → last_in rows t ≡ Some last → is_in t (tally rs).live ≡ true → row.txn.0 ≡ t → row.last ≡ tail
    → IsChained base rs tail rows actor → IsChained base (stepped rs tail (Save t last mark)) next (placed rows t row) actor
chain_save base rs tail next t last mark rows actor row less idle rest there live is_row is_last h =
    let none = idle_closed base rs tail rows actor idle h in
    chain_between base rs tail next rows (placed rows t row) actor (Save t last mark) less rest none none none (λ u z. z)
    (low_placed rows t tail next row (row_low base rs tail rows actor t last there h) less (inl is_row) h.rows_are.low)
    (λ z. placed_self rows t last row there is_row ∙ ap Some is_last)
    (λ u ne nz. placed_other rows t u row ne (λ e. ne (sym e ∙ is_row)))
    (placed_apart rows t row h.rows_are.apart (λ some ne. absurd (ne is_row))) (λ u ne. refl) (λ last' z gone. absurd (clash (is_in t (tally rs).live) gone live))
    (running_save base rs tail next t last mark rows actor less idle rest there live h) h

-- A COMMIT
pub running_commit : (base : ℕ) (rs : Steps) (tail next t last : ℕ) (rows : List Row) (actor : Actor) → tail < next → ended rs ≡ rs → actor.txn.0 ≡ 0 → last_in rows t ≡ Some last → is_in t (tally rs).live ≡ true
    → IsChained base rs tail rows actor → IsRunning base (stepped rs tail (Commit t last)) next actor
running_commit base rs tail next t last rows actor less idle rest there live h =
    let none = idle_closed base rs tail rows actor idle h in
    let at = stands base rs tail rows actor t last rest there h live in
    running_between (Commit t last) less rest refl (no_zero rs t h.running.system live) none (λ u z. without_in t u (tally rs).live z) (row_low base rs tail rows actor t last there h)
    (λ known. (at.0, own_closed t (tally rs).opened none)) (own_closed t (tally rs).opened none) tt (λ known. sym at.0 ∙ at.1) (goes_over base rs (Commit t last) (λ some. live)) h.running

chain_commit : (base : ℕ) (rs : Steps) (tail next t last : ℕ) (rows : List Row) (actor : Actor) (row : Row) → tail < next → ended rs ≡ rs → actor.txn.0 ≡ 0 → last_in rows t ≡ Some last → is_in t (tally rs).live ≡ true → row.txn.0 ≡ t → row.last ≡ tail
    → IsChained base rs tail rows actor → IsChained base (stepped rs tail (Commit t last)) next (placed rows t row) actor
chain_commit base rs tail next t last rows actor row less idle rest there live is_row is_last h =
    let none = idle_closed base rs tail rows actor idle h in
    chain_between base rs tail next rows (placed rows t row) actor (Commit t last) less rest none none none (λ u z. without_in t u (tally rs).live z)
    (low_placed rows t tail next row (row_low base rs tail rows actor t last there h) less (inl is_row) h.rows_are.low)
    (λ z. absurd (clash (is_in t (without t (tally rs).live)) (without_not t (tally rs).live) z))
    (λ u ne nz. placed_other rows t u row ne (λ e. ne (sym e ∙ is_row)))
    (placed_apart rows t row h.rows_are.apart (λ some ne. absurd (ne is_row))) (λ u ne. without_same t u (tally rs).live ne)
    (λ last' z gone. subst (λ (k : ℕ). HasCommitted (stepped rs tail (Commit t last)) t k) (same_some tail last' (sym (ap Some is_last) ∙ (sym (placed_self rows t last row there is_row) ∙ z))) (committed_here tail last t rs))
    (running_commit base rs tail next t last rows actor less idle rest there live h) h

-- AN END, of a transaction that goes on, or of one that has committed, whose row says its commit
ends_over : (base : ℕ) (rs : Steps) (t last : ℕ) → (is_in t (tally rs).live ≡ false → HasCommitted rs t last) → IsOver base rs (End t last)
ends_over base rs t last past some gone = let c = past gone in subst (λ (x : Option Step). MayBeBehind base (last_of t rs) (End t last) x) (sym c.newest_is) (refl, c.last_is)

pub running_done : (base : ℕ) (rs : Steps) (tail next t last : ℕ) (rows : List Row) (actor : Actor) → tail < next → ended rs ≡ rs → actor.txn.0 ≡ 0 → last_in rows t ≡ Some last → t ≢ 0
    → IsChained base rs tail rows actor → IsRunning base (stepped rs tail (End t last)) next actor
running_done base rs tail next t last rows actor less idle rest there nz h =
    let none = idle_closed base rs tail rows actor idle h in
    running_between (End t last) less rest refl nz none (λ u z. without_in t u (tally rs).live z) (row_low base rs tail rows actor t last there h)
    (λ known. ((stands base rs tail rows actor t last rest there h known).0, own_closed t (tally rs).opened none)) (own_closed t (tally rs).opened none) tt
    (λ known. h.running.alone t (λ e. nz (e ∙ rest))) (ends_over base rs t last (λ gone. h.rows_are.past t last nz (λ e. nz (e ∙ rest)) there gone)) h.running

chain_done : (base : ℕ) (rs : Steps) (tail next t last : ℕ) (rows : List Row) (actor : Actor) → tail < next → ended rs ≡ rs → actor.txn.0 ≡ 0 → last_in rows t ≡ Some last → t ≢ 0
    → IsChained base rs tail rows actor → IsChained base (stepped rs tail (End t last)) next (placed rows t vacant) actor
chain_done base rs tail next t last rows actor less idle rest there nz h =
    let none = idle_closed base rs tail rows actor idle h in
    chain_between base rs tail next rows (placed rows t vacant) actor (End t last) less rest none none none (λ u z. without_in t u (tally rs).live z)
    (low_placed rows t tail next vacant (row_low base rs tail rows actor t last there h) less (inr refl) h.rows_are.low)
    (λ z. absurd (clash (is_in t (without t (tally rs).live)) (without_not t (tally rs).live) z))
    (λ u ne some. placed_other rows t u vacant ne (λ e. some (sym e)))
    (placed_apart rows t vacant h.rows_are.apart (λ some ne. absurd (some refl))) (λ u ne. without_same t u (tally rs).live ne)
    (λ last' z gone. absurd (none_some last' (sym (none_placed rows t vacant h.rows_are.apart nz (λ e. nz (sym e))) ∙ z)))
    (running_done base rs tail next t last rows actor less idle rest there nz h) h

-- what is kept with such a record
kept_between : (t : Table) (limits : State → ℕ → ℕ) (e e' : EngineView) (maps : Maps) (rows rows' : List Row) (actor : Actor) (r : Record) (x : Step) (lsn : ℕ) → step_of r ≡ Some x → ((f : State) → begin_of t f (stepped e.steps lsn x) ≡ repeated t f e.steps) → opened (stepped e.steps lsn x) ≡ []
    → Appended e e' r lsn → ended e.steps ≡ e.steps → (IsChained e.base e.steps lsn rows actor → IsChained e.base (stepped e.steps lsn x) e'.tail rows' actor)
    → IsKept t limits e maps rows actor → IsKept t limits e' maps rows' actor
kept_between t limits e e' maps rows rows' actor r x lsn is begin none g idle chain k =
    let now : begin_of t e.first e.steps ≡ begin_of t e.first (stepped e.steps lsn x) = ap (repeated t e.first) idle ∙ sym (begin e.first) in
    acting_to g.base g.first (g.steps ∙ ap (with_step e.steps lsn) is) (record {
      chain = chain (chain_later k.chain g.number);
      well = subst (λ (ds : List Changed). IsWell t limits (begin_of t e.first (stepped e.steps lsn x)) ds maps.pages maps.bands) (sym none)
          (well_idle t limits (begin_of t e.first e.steps) (begin_of t e.first (stepped e.steps lsn x)) (opened e.steps) maps.pages maps.bands now (idle_opened e.steps idle) k.well);
    })

-- a look behind what is appended
pub logged_then : {a b c : EngineView} {r : Record} {lsn : ℕ} → Appended a b r lsn → Stayed b c → Appended a c r lsn
logged_then {a} {b} {c} {r} {lsn} g s = record {
  number = g.number;
  base = s.base ∙ g.base;
  first = s.first ∙ g.first;
  steps = s.steps ∙ g.steps;
  tail = let low = g.tail in let up = s.tail in omega (arith, low, up);
  durable = grows_then g.durable s.durable;
}

pub marked : (t : Table) (limits : State → ℕ → ℕ) (e e' : EngineView) (maps unfreed : Maps) (rows rows' : List Row) (actor : Actor) (txn : TxnId) (mark last lsn : ℕ) → (e.Told → IsBetween e.steps unfreed rows actor txn.0) → last_in rows txn.0 ≡ Some last
    → HasLogged e e' (by txn.0 last (SaysSave mark)) lsn → rows' ≡ placed rows txn.0 (record { txn = txn; last = lsn }) → Marked t limits e e' maps rows rows' actor txn mark lsn
marked t limits e e' maps unfreed rows rows' actor txn mark last lsn can row g is = record {
  last = last;
  was = row;
  told = g.told;
  logged = g.logged;
  rows_are = is;
  kept = λ told. kept_between t limits e e' maps rows rows' actor (by txn.0 last (SaysSave mark)) (Save txn.0 last mark) lsn refl (λ f. refl) refl (g.logged told) (can told).rest.idle
      (λ h. subst (λ (rs : List Row). IsChained e.base (stepped e.steps lsn (Save txn.0 last mark)) e'.tail rs actor) (sym is)
      (chain_save e.base e.steps lsn e'.tail txn.0 last mark rows actor (record { txn = txn; last = lsn }) (g.logged told).tail (can told).rest.idle (can told).rest.system row (can told).live refl refl h));
}

pub save_appends : (recovers : Recovering) (t : Table) (limits : State → ℕ → ℕ) (e e' : EngineView) (maps unfreed : Maps) (rows : List Row) (actor : Actor) (txn mark last : ℕ) (r : Result ℕ SpaceFault) → (e.Told → IsBetween e.steps unfreed rows actor txn) → last_in rows txn ≡ Some last
    → LogCall recovers t e e' (by txn last (SaysSave mark)) r → (e'.Told → e'.steps ≡ stepped e.steps e'.tried (Save txn last mark)) → e.Told → IsKept t limits e maps rows actor → MayAppend recovers t e e' rows txn (λ p. Save txn p mark)
save_appends recovers t limits e e' maps unfreed rows actor txn mark last r can row h gone told k = record {
  lsn = e'.tried;
  last = last;
  was = row;
  above = h.above told;
  formed = (running_save e.base e.steps e'.tried (e'.tried + 1) txn last mark rows actor (omega arith) (can told).rest.idle (can told).rest.system row (can told).live (chain_later k.chain (h.above told))).log;
  moments = h.moments told;
  gone = gone;
}

-- on Ok the record is appended, with the number that is known
pub has_gone : (e e' : EngineView) (r : Record) (x : Step) (lsn : ℕ) → step_of r ≡ Some x → HasLogged e e' r lsn → (e'.Told → e.Told) → e'.Told → e'.steps ≡ stepped e.steps e'.tried x
has_gone e e' r x lsn is h back told = (h.logged (back told)).steps ∙ (ap (with_step e.steps lsn) is ∙ ap (λ (n : ℕ). stepped e.steps n x) h.tried)

-- one that has failed is told no more
pub fails : {P : Type 0} (e : EngineView) → (e.Told → e.failed ≡ false) → e.failed ≡ true → e.Told → P
fails e whole failed told = absurd (let t : true ≡ false = sym failed ∙ whole told in cc)

pub committed : (t : Table) (limits : State → ℕ → ℕ) (e e1 e' : EngineView) (maps unfreed : Maps) (rows rows' : List Row) (actor : Actor) (txn : TxnId) (last lsn : ℕ) → (e.Told → IsBetween e.steps unfreed rows actor txn.0) → last_in rows txn.0 ≡ Some last
    → HasLogged e e1 (by txn.0 last SaysCommit) lsn → HasStayed e1 e' → (e'.Told → e'.durable ≡ e'.steps) → rows' ≡ placed rows txn.0 (record { txn = txn; last = lsn }) → Committed t limits e e' maps rows rows' actor txn
committed t limits e e1 e' maps unfreed rows rows' actor txn last lsn can row g s durable is = record {
  last = last;
  lsn = lsn;
  was = row;
  told = λ told. s.told (g.told told);
  logged = both;
  durable = durable;
  rows_are = is;
  kept = λ told k. kept_between t limits e e' maps rows rows' actor (by txn.0 last SaysCommit) (Commit txn.0 last) lsn refl (λ f. refl) refl (both told) (can told).rest.idle
      (λ h. subst (λ (rs : List Row). IsChained e.base (stepped e.steps lsn (Commit txn.0 last)) e'.tail rs actor) (sym is)
      (chain_commit e.base e.steps lsn e'.tail txn.0 last rows actor (record { txn = txn; last = lsn }) (both told).tail (can told).rest.idle (can told).rest.system row (can told).live refl refl h)) k;
}
  where
    both : e.Told → Appended e e' (by txn.0 last SaysCommit) lsn
    both told = logged_then (g.logged told) (s.stays (g.told told))

pub commit_appends : (recovers : Recovering) (t : Table) (limits : State → ℕ → ℕ) (e e' : EngineView) (maps unfreed : Maps) (rows : List Row) (actor : Actor) (txn last : ℕ) (r : Result ℕ SpaceFault) → (e.Told → IsBetween e.steps unfreed rows actor txn) → last_in rows txn ≡ Some last
    → LogCall recovers t e e' (by txn last SaysCommit) r → (e'.Told → e'.steps ≡ stepped e.steps e'.tried (Commit txn last)) → e.Told → IsKept t limits e maps rows actor → MayAppend recovers t e e' rows txn (λ p. Commit txn p)
commit_appends recovers t limits e e' maps unfreed rows actor txn last r can row h gone told k = record {
  lsn = e'.tried;
  last = last;
  was = row;
  above = h.above told;
  formed = (running_commit e.base e.steps e'.tried (e'.tried + 1) txn last rows actor (omega arith) (can told).rest.idle (can told).rest.system row (can told).live (chain_later k.chain (h.above told))).log;
  moments = h.moments told;
  gone = gone;
}

-- and a look behind it, also one that fails
pub appends_look : {T : Type 0} (recovers : Recovering) (t : Table) (e e1 e' : EngineView) (rows : List Row) (txn : ℕ) (x : ℕ → Step) (r : Result T SpaceFault) → LookCall recovers t e1 e' r → e1.Told → e1.first ≡ e.first → Grows e.durable e1.durable
    → (e'.Told → Stayed e1 e') → MayAppend recovers t e e1 rows txn x → MayAppend recovers t e e' rows txn x
appends_look {T} recovers t e e1 e' rows txn x r l told first durable stays m = record {
  lsn = m.lsn;
  last = m.last;
  was = m.was;
  above = m.above;
  formed = m.formed;
  moments = moments_then e e1 e' first durable (grows_same (stepped e.steps m.lsn (x m.last))) m.moments (subst (λ (rs : Steps). Moments recovers t e1 e' rs) (m.gone told) (l.moments told));
  gone = λ u. (stays u).steps ∙ m.gone told;
}

-- a row is vacant then
pub has_vacant : (rows : List Row) (t last : ℕ) → last_in rows t ≡ Some last → HasRow (placed rows t vacant) 0
has_vacant [] t last e = absurd (none_some last e)
has_vacant (x ∷ xs) t last e = elim (cases_Bool (x.txn.0 == t)) [
  | inl is ↦ subst (λ (rs : List Row). HasRow rs 0) (sym (ap (λ (b : Bool). if b then vacant ∷ xs else x ∷ placed xs t vacant) is)) refl
  | inr other ↦
      let rest : last_in xs t ≡ Some last = sym (ap (λ (b : Bool). option_map (λ (r : Row). r.last) (if b then Some x else find (λ (r : Row). r.txn.0 == t) xs)) other) ∙ e in
      subst (λ (rs : List Row). HasRow rs 0) (sym (ap (λ (b : Bool). if b then vacant ∷ xs else x ∷ placed xs t vacant) other)) (by_test (x.txn.0 == 0) refl (has_vacant xs t last rest))
]
  where
    by_test : (b : Bool) → (x.txn.0 == 0) ≡ b → HasRow (placed xs t vacant) 0 → HasRow (x ∷ placed xs t vacant) 0
    by_test true k h = subst (λ (o : Option ℕ). IsSome o) (sym (ap (λ (b : Bool). option_map (λ (r : Row). r.last) (if b then Some x else find (λ (r : Row). r.txn.0 == 0) (placed xs t vacant))) k)) refl
    by_test false k h = subst (λ (o : Option ℕ). IsSome o) (sym (ap (λ (b : Bool). option_map (λ (r : Row). r.last) (if b then Some x else find (λ (r : Row). r.txn.0 == 0) (placed xs t vacant))) k)) h

pub closed : (t : Table) (limits : State → ℕ → ℕ) (e e' : EngineView) (maps unfreed : Maps) (rows rows' : List Row) (actor : Actor) (txn : TxnId) (last lsn : ℕ) → (e.Told → IsEndable e.steps unfreed rows actor txn.0) → last_in rows txn.0 ≡ Some last
    → HasLogged e e' (by txn.0 last SaysEnd) lsn → rows' ≡ placed rows txn.0 vacant → Closed t limits e e' maps rows rows' actor txn
closed t limits e e' maps unfreed rows rows' actor txn last lsn can row g is = record {
  last = last;
  lsn = lsn;
  was = row;
  told = g.told;
  logged = g.logged;
  rows_are = is;
  room = subst (λ (rs : List Row). HasRow rs 0) (sym is) (has_vacant rows txn.0 last row);
  kept = λ told. kept_between t limits e e' maps rows rows' actor (by txn.0 last SaysEnd) (End txn.0 last) lsn refl (λ f. refl) refl (g.logged told) (can told).rest.idle
      (λ h. subst (λ (rs : List Row). IsChained e.base (stepped e.steps lsn (End txn.0 last)) e'.tail rs actor) (sym is)
      (chain_done e.base e.steps lsn e'.tail txn.0 last rows actor (g.logged told).tail (can told).rest.idle (can told).rest.system row (can told).some h));
}

pub done_appends : (recovers : Recovering) (t : Table) (limits : State → ℕ → ℕ) (e e' : EngineView) (maps unfreed : Maps) (rows : List Row) (actor : Actor) (txn last : ℕ) (r : Result ℕ SpaceFault) → (e.Told → IsEndable e.steps unfreed rows actor txn) → last_in rows txn ≡ Some last
    → LogCall recovers t e e' (by txn last SaysEnd) r → (e'.Told → e'.steps ≡ stepped e.steps e'.tried (End txn last)) → e.Told → IsKept t limits e maps rows actor → MayAppend recovers t e e' rows txn (λ p. End txn p)
done_appends recovers t limits e e' maps unfreed rows actor txn last r can row h gone told k = record {
  lsn = e'.tried;
  last = last;
  was = row;
  above = h.above told;
  formed = (running_done e.base e.steps e'.tried (e'.tried + 1) txn last rows actor (omega arith) (can told).rest.idle (can told).rest.system row (can told).some (chain_later k.chain (h.above told))).log;
  moments = h.moments told;
  gone = gone;
}

-- where nothing is known of the row there is none
pub no_row : {P : Type 0} (rows : List Row) (txn : ℕ) → HasRow rows txn → last_in rows txn ≡ None → P
no_row rows txn has none = absurd (let some = some_of (last_in rows txn) has in none_some some.0 (sym none ∙ some.1))

pub on_ok2 : {T F : Type 0} {P Q R : Type 0} (r : Result T F) → (P → Q → R) → OnOk r P → OnOk r Q → OnOk r R
on_ok2 (Ok x) f h k = f h k
on_ok2 (Err e) f h k = tt

-- a look that is told at its end has stayed
pub stays_of : {T : Type 0} {recovers : Recovering} {t : Table} (e e' : EngineView) (r : Result T SpaceFault) → LookCall recovers t e e' r → (e'.Told → e'.failed ≡ false) → e.Told → e'.Told → Stayed e e'
stays_of {T} e e' (Ok x) l whole told told' = l.stays.stays told
stays_of {T} e e' (Err f) l whole told told' = fails e' whole l.counts.failed told'

-- THE END OF AN UNDO

-- a transaction of which a note stands goes on
note_live : (rs : Steps) (t : ℕ) (n : Note) (ns : List Note) → Formed rs → notes_of t (tally rs).notes ≡ n ∷ ns → is_in t (tally rs).live ≡ true
note_live rs t n ns f is =
    let live : Each (λ m. is_in t (tally rs).live ≡ true) (n ∷ ns) = subst (Each (λ m. is_in t (tally rs).live ≡ true)) is (each_kept (λ m. IsStanding (tally rs).live (border_of m.transaction rs) m.transaction m.lsn m.undo_next) (λ m. is_in t (tally rs).live ≡ true) (λ m. m.transaction == t) (tally rs).notes
    (λ m z e. subst (λ (u : ℕ). is_in u (tally rs).live ≡ true) (number_is m.transaction t e) z.is_live) (sound rs f).notes) in
    live.0

pub running_undone : {base : ℕ} {rs : Steps} {tail next : ℕ} {actor : Actor} (after : ℕ) → tail < next → actor.last ≡ next_off actor.before (tally rs).opened → IsUndone rs actor actor.txn.0 after → IsRunning base rs tail actor → IsRunning base (stepped rs tail (CompEnd actor.txn.0 actor.last after)) next at_rest
running_undone {base} {rs} {tail} {next} {actor} after less at c h =
    let nonzero = no_zero rs actor.txn.0 h.system (note_live rs actor.txn.0 c.n c.rest h.log.chained c.notes) in
    running_end (CompEnd actor.txn.0 actor.last after) refl refl less refl (none_open h) (own_low h) (λ known. (h.last_is known, (c.n, c.rest, c.notes, sym c.goes_on))) (λ z. absurd (nonzero z)) tt tt (λ acts. straight_on h at acts) h

pub own_undone : (rs : Steps) (actor : Actor) (txn after : ℕ) → IsUndone rs actor txn after → IsUndone rs actor actor.txn.0 after
own_undone rs actor txn after c = subst (λ (u : ℕ). IsUndone rs actor u after) (sym c.acts) c

chain_undone : (base : ℕ) (rs : Steps) (tail next after : ℕ) (rows : List Row) (actor : Actor) (lsn : ℕ) → tail < next → lsn ≡ tail → IsUndone rs actor actor.txn.0 after
    → IsChained base rs tail rows actor → IsChained base (stepped rs tail (CompEnd actor.txn.0 actor.last after)) next (rows_after rows actor.txn lsn) at_rest
chain_undone base rs tail next after rows actor lsn less is c h =
    let nonzero = no_zero rs actor.txn.0 h.running.system (note_live rs actor.txn.0 c.n c.rest h.running.log.chained c.notes) in
    let row : Row = record { txn = actor.txn; last = lsn } in
    subst (λ (xs : List Row). IsChained base (stepped rs tail (CompEnd actor.txn.0 actor.last after)) next xs at_rest) (after_one rows actor.txn lsn nonzero) (record {
      running = running_undone after less h.at c h.running;
      rows_are = rows_top (CompEnd actor.txn.0 actor.last after) row refl refl less (own_low h.running) nonzero (h.running.acting nonzero) refl is h.rows_are;
      closed = none_open h.running;
      at = sym (ap (next_off 0) (none_open h.running));
    })

pub undo_ended : (t : Table) (limits : State → ℕ → ℕ) (e e' : EngineView) (maps maps' unfreed unfreed' : Maps) (rows rows' : List Row) (actor : Actor) (txn after lsn : ℕ) → CanEndUndo (seen e) actor txn after
    → HasLogged e e' (by actor.txn.0 actor.last (SaysCompEnd after)) lsn → rows' ≡ rows_after rows actor.txn lsn
    → AreSettled maps.pages unfreed.pages maps'.pages unfreed'.pages → AreSettled maps.bands unfreed.bands maps'.bands unfreed'.bands
    → UndoEnded t limits e e' maps maps' unfreed unfreed' rows rows' actor at_rest after
undo_ended t limits e e' maps maps' unfreed unfreed' rows rows' actor txn after lsn can h is_rows pages bands = record {
  lsn = lsn;
  told = h.told;
  logged = h.logged;
  rest = refl;
  rows_are = is_rows;
  pages = pages;
  bands = bands;
  kept = λ law told k. let g = h.logged told in acting_to g.base g.first g.steps (record {
    chain = subst (λ (xs : List Row). IsChained e.base (stepped e.steps lsn (CompEnd actor.txn.0 actor.last after)) e'.tail xs at_rest) (sym is_rows) (chain_undone e.base e.steps lsn e'.tail after rows actor lsn g.tail refl (own_undone e.steps actor txn after (can told)) (chain_later k.chain g.number));
    well = well law k.well;
  });
}
  where
    well : IsLawful t → IsWell t limits (begin_of t e.first e.steps) (opened e.steps) maps.pages maps.bands
        → IsWell t limits (begin_of t e.first (stepped e.steps lsn (CompEnd actor.txn.0 actor.last after))) (opened (stepped e.steps lsn (CompEnd actor.txn.0 actor.last after))) maps'.pages maps'.bands
    well law w =
        subst (λ (x : State). IsWell t limits x [] maps'.pages maps'.bands) (made_opened t e.first e.steps)
        (well_ended t law limits (begin_of t e.first e.steps) (opened e.steps) maps.pages maps'.pages maps.bands maps'.bands (λ n h. and_left (is_set maps.pages n) (is_set unfreed.pages n) (sym (pages.there n) ∙ h)) w)

pub undo_end_appends : (recovers : Recovering) (t : Table) (limits : State → ℕ → ℕ) (e e' : EngineView) (maps : Maps) (rows : List Row) (actor : Actor) (txn after : ℕ) (r : Result ℕ SpaceFault) → CanEndUndo (seen e) actor txn after → LogCall recovers t e e' (by actor.txn.0 actor.last (SaysCompEnd after)) r
    → (e'.Told → e'.failed ≡ false) → e.Told → IsKept t limits e maps rows actor → Appends recovers t e e' (CompEnd actor.txn.0 actor.last after)
undo_end_appends recovers t limits e e' maps rows actor txn after r can h whole told k = record {
  above = h.above told;
  formed = (running_undone {tail = e'.tried} {next = e'.tried + 1} after (omega arith) k.chain.at (own_undone e.steps actor txn after (can told)) (running_later (h.above told) k.chain.running)).log;
  moments = h.moments told;
  gone = λ told'. call_gone e e' (by actor.txn.0 actor.last (SaysCompEnd after)) (CompEnd actor.txn.0 actor.last after) r refl h whole told';
}
