-- Who acts may go on with a change: behind a look, behind a change, and behind a call that failed; and the log is formed with each record that is
-- appended.
use mathlib.Core.Logic.{∥∥₁_elim, ∥∥₁_prop}
use Rattle.std.proofs.Common.{◌≡◌, ◌≢◌, ℕ, ◌+◌, ◌<◌, ◌≤◌, List, Some, Bool, true, false, sym, ap, subst, ◌∙◌, refl, arith}
use Rattle.std.specs.Prelude.{Result, Ok, Err, OnErr, IfOk}
use Rattle.sg_alloc.specs.declared.maps.Maps.{Maps}
use Rattle.sg_ops.specs.Table.{Table, fresh_table}
use Rattle.sg_record.specs.Changes.{Change as Changing}
use Rattle.sg_record.specs.Records.{Record}
use Rattle.sg_record.specs.Records.Says.{Begin as SaysBegin}
use Rattle.sg_recovery.specs.Formed.{IsLog}
use Rattle.sg_recovery.specs.Log.Record.{Begin, Change, TopEnd, TopVoid, CompEnd, Save, Commit, End}
use Rattle.sg_space.specs.declared.space.SpaceFault.{SpaceFault}
use Rattle.sg_action.specs.States.{State}
use Rattle.sg_actions.specs.Acting.{MayChange, IsChained, CanChange, HasChain}
use Rattle.sg_actions.specs.Calls.{CanBegin, CanAct}
use Rattle.sg_actions.specs.Ending.{IsBetween, IsEndable, CanEndUndo}
use Rattle.sg_actions.specs.Engine.{EngineSeen, AreBy, IsFormedWith, led}
use Rattle.sg_actions.specs.Images.{Recovering}
use Rattle.sg_actions.specs.Led.{HasLogged, HasStayed}
use Rattle.sg_actions.specs.Rows.{last_in}
use Rattle.sg_actions.specs.Steps.{Steps, step_of, with_step, stepped}
use Rattle.sg_actions.specs.TakingOff.{IsAllOff}
use Rattle.sg_actions.specs.declared.rows.Actor.{Actor}
use Rattle.sg_actions.specs.declared.rows.Row.{Row}
use Rattle.sg_actions.proofs.Calling.{LooksBy, LogsBy, same_any}
use Rattle.sg_actions.proofs.Chained.{later, running_change, running_later, running_begin, running_top, running_void, chain_act, chain_later}
use Rattle.sg_actions.proofs.Closing.{running_save, running_commit, running_done, running_undone, own_undone}
use Rattle.sg_actions.proofs.Led.{log_call, by_some}

no : {P : Type 0} (b : Bool) → b ≡ true → b ≡ false → P
no b t f = absurd cc

-- the same, of a log that is this, at a later tail
may_to : {base base' : ℕ} {rs rs' : Steps} {tail tail' : ℕ} {actor : Actor} → base' ≡ base → rs' ≡ rs → tail ≤ tail' → MayChange base rs tail actor → MayChange base' rs' tail' actor
may_to {base} {base'} {rs} {rs'} {tail} {tail'} {actor} e f le m =
    subst (λ (b : ℕ). MayChange b rs' tail' actor) (sym e) (subst (λ (xs : Steps). MayChange base xs tail' actor) (sym f) (record { running = running_later le m.running; at = m.at }))

-- and with a change
may_more : {base : ℕ} {rs : Steps} {tail : ℕ} {actor : Actor} (c : Changing) (lsn next : ℕ) → tail ≤ lsn → lsn < next → MayChange base rs tail actor → MayChange base (stepped rs lsn (Change actor.txn.0 actor.last c)) next (later actor lsn)
may_more c lsn next le less m = record { running = running_change c less m.at (running_later le m.running); at = refl }

-- BEHIND A LOOK
pub can_look : {T : Type 0} {recovers : Table → Recovering} {e e' : EngineSeen} {m m' : Table → State → Type 0} {r : Result T SpaceFault} (begun : Bool) (actor : Actor) → (e.Told → ∥ ((t : Table) × (from : State) × m t from) ∥₁) → ((t : Table) → LooksBy recovers t e e' m m' r)
    → CanChange e begun actor → CanChange e' begun actor
can_look {T} {recovers} {e} {e'} begun actor some h can opens told' =
    let rests = (h fresh_table).rests in
    let told = rests.counts.told told' in
    ∥∥₁_elim (can opens told) ∥∥₁_prop (λ k. ∣ may_to rests.counts.base (same_any some h told told').steps rests.counts.tail k ∣₁)

-- BEHIND A CHANGE, by one table of operations,
pub can_change_by : (recovers : Table → Recovering) (m m' : Table → State → Type 0) {t : Table} {e e' : EngineSeen} {x : Record} {r : Result ℕ SpaceFault} (begun : Bool) (actor new : Actor) (c : Changing) → (e.Told → AreBy m t) → LogsBy recovers t e e' m m' x r
    → step_of x ≡ Some (Change actor.txn.0 actor.last c) → IfOk r (λ lsn. new ≡ later actor lsn) → CanChange e begun actor → CanChange e' begun new
can_change_by recovers m m' {t} {e} {e'} {x} {r} begun actor new c stands h is same can opens told' =
    let told = h.grows.counts.told told' in
    ∥∥₁_elim (stands told) ∥∥₁_prop (λ f. ∥∥₁_elim (can opens told) ∥∥₁_prop (λ k.
    ∣ on f.0 told r h.grows.counts.failed (h.whole told') (log_call f.0 h.grows (h.logs f.0 f.1)).did same k ∣₁))
  where
    on : (from : State) → e.Told → (q : Result ℕ SpaceFault) → OnErr q (e'.failed ≡ true) → e'.failed ≡ false → IfOk q (HasLogged (led from e) (led from e') x) → IfOk q (λ lsn. new ≡ later actor lsn) → MayChange e.base e.steps e.tail actor → MayChange e'.base e'.steps e'.tail new
    on from told (Err f) bad whole good new_is k = no e'.failed bad whole
    on from told (Ok lsn) bad whole good new_is k =
        let a = good.logged told in
        subst (λ (n : Actor). MayChange e'.base e'.steps e'.tail n) (sym new_is) (may_to a.base (a.steps ∙ ap (with_step e.steps lsn) is) (omega arith) (may_more c lsn e'.tail a.number a.tail k))

-- and by any
pub can_change : (recovers : Table → Recovering) (m m' : Table → State → Type 0) {e e' : EngineSeen} {x : Record} {r : Result ℕ SpaceFault} (begun : Bool) (actor new : Actor) (c : Changing) → (e.Told → ∥ ((t : Table) × (from : State) × m t from) ∥₁) → ((t : Table) → LogsBy recovers t e e' m m' x r)
    → step_of x ≡ Some (Change actor.txn.0 actor.last c) → IfOk r (λ lsn. new ≡ later actor lsn) → CanChange e begun actor → CanChange e' begun new
can_change recovers m m' {e} {e'} {x} {r} begun actor new c some h is same can opens told' =
    by_some m (some ((h fresh_table).grows.counts.told told')) ∥∥₁_prop (λ t stands. can_change_by recovers m m' begun actor new c (λ told. stands) (h t) is same can opens told')

-- BEHIND A CALL THAT FAILED nothing is told
pub can_failed : (e : EngineSeen) (begun : Bool) (actor : Actor) → (e.Told → e.failed ≡ false) → e.failed ≡ true → CanChange e begun actor
can_failed e begun actor whole failed opens told = no e.failed failed (whole told)

-- where no action was begun nothing is asked
pub can_rest : (e : EngineSeen) (begun : Bool) (actor : Actor) → begun ≡ false → CanChange e begun actor
can_rest e begun actor quiet opens told = no begun opens quiet

pub can_rest_told : (e e' : EngineSeen) (begun : Bool) (actor : Actor) → (e'.Told → e.Told) → (e.Told → begun ≡ false) → CanChange e' begun actor
can_rest_told e e' begun actor back quiet opens told = no begun opens (quiet (back told))

-- what is chained may go on
pub may_of : {base : ℕ} {rs : Steps} {tail : ℕ} {rows : List Row} {actor : Actor} → IsChained base rs tail rows actor → MayChange base rs tail actor
may_of h = record { running = h.running; at = h.at }

pub can_of : (e : EngineSeen) (begun : Bool) (rows : List Row) (actor : Actor) → HasChain e rows actor → CanChange e begun actor
can_of e begun rows actor h opens told = ∥∥₁_elim (h told) ∥∥₁_prop (λ k. ∣ may_of k ∣₁)

-- so may who acts now
pub can_act_now : (e : EngineSeen) (begun : Bool) (unfreed : Maps) (rows : List Row) (actor new : Actor) → CanAct e unfreed rows actor new.txn.0 → new.txn.0 ≢ 0 → last_in rows new.txn.0 ≡ Some new.last → new.before ≡ new.last → HasChain e rows actor → CanChange e begun new
can_act_now e begun unfreed rows actor new can nonzero row both h opens told = ∥∥₁_elim (h told) ∥∥₁_prop (λ k.
    ∣ may_of (chain_act e.base e.steps e.tail rows actor new (can told).rest.idle (can told).rest.system ((can told).row nonzero).1 row both k) ∣₁)

-- the chain behind a look
pub chain_look : (e e' : EngineSeen) (rows rows' : List Row) (actor actor' : Actor) → (e'.Told → e.Told) → (e.Told → ∥ ((t : Table) × (from : State) × HasStayed (led from e) (led from e')) ∥₁) → rows' ≡ rows → actor' ≡ actor → HasChain e rows actor → HasChain e' rows' actor'
chain_look e e' rows rows' actor actor' back stays is_rows is_actor h told' =
    let told = back told' in
    ∥∥₁_elim (stays told) ∥∥₁_prop (λ f. ∥∥₁_elim (h told) ∥∥₁_prop (λ k.
    let s = f.2.stays told in
    ∣ subst (λ (n : Actor). IsChained e'.base e'.steps e'.tail rows' n) (sym is_actor) (subst (λ (xs : List Row). IsChained e'.base e'.steps e'.tail xs actor) (sym is_rows)
    (subst (λ (b : ℕ). IsChained b e'.steps e'.tail rows actor) (sym s.base) (subst (λ (xs : Steps). IsChained e.base xs e'.tail rows actor) (sym s.steps) (chain_later k s.tail)))) ∣₁))

-- THE LOG IS FORMED with a change of who acts,
pub formed_change : (e : EngineSeen) (begun : Bool) (actor : Actor) (c : Changing) → begun ≡ true → CanChange e begun actor → e.Told → ∥ IsFormedWith e (Change actor.txn.0 actor.last c) ∥₁
formed_change e begun actor c opens can told = ∥∥₁_elim (can opens told) ∥∥₁_prop (λ m. ∣ (λ lsn le number. (may_more c lsn (lsn + 1) le (omega arith) m).running.log) ∣₁)

-- with a begin,
pub formed_begin : (e : EngineSeen) (unfreed : Maps) (rows : List Row) (actor : Actor) (n : ℕ) → CanBegin e unfreed rows actor → n ≡ e.next SaysBegin → HasChain e rows actor → e.Told → ∥ IsFormedWith e (Begin n 0) ∥₁
formed_begin e unfreed rows actor n can is h told = ∥∥₁_elim (h told) ∥∥₁_prop (λ k. ∣ (λ lsn le number.
    subst (λ (u : ℕ). IsLog e.base (stepped e.steps lsn (Begin u 0))) (number ∙ sym is) (running_begin {tail = lsn} {next = lsn + 1} (omega arith) (can told).rest.system (running_later le k.running)).log) ∣₁)

-- with a mark, a commit and an end,
pub formed_save : (e : EngineSeen) (unfreed : Maps) (rows : List Row) (actor : Actor) (txn last mark : ℕ) → (e.Told → IsBetween e.steps unfreed rows actor txn) → last_in rows txn ≡ Some last → HasChain e rows actor → e.Told → ∥ IsFormedWith e (Save txn last mark) ∥₁
formed_save e unfreed rows actor txn last mark can row h told = ∥∥₁_elim (h told) ∥∥₁_prop (λ k. ∣ (λ lsn le number.
    (running_save e.base e.steps lsn (lsn + 1) txn last mark rows actor (omega arith) (can told).rest.idle (can told).rest.system row (can told).live (chain_later k le)).log) ∣₁)

pub formed_commit : (e : EngineSeen) (unfreed : Maps) (rows : List Row) (actor : Actor) (txn last : ℕ) → (e.Told → IsBetween e.steps unfreed rows actor txn) → last_in rows txn ≡ Some last → HasChain e rows actor → e.Told → ∥ IsFormedWith e (Commit txn last) ∥₁
formed_commit e unfreed rows actor txn last can row h told = ∥∥₁_elim (h told) ∥∥₁_prop (λ k. ∣ (λ lsn le number.
    (running_commit e.base e.steps lsn (lsn + 1) txn last rows actor (omega arith) (can told).rest.idle (can told).rest.system row (can told).live (chain_later k le)).log) ∣₁)

pub formed_done : (e : EngineSeen) (unfreed : Maps) (rows : List Row) (actor : Actor) (txn last : ℕ) → (e.Told → IsEndable e.steps unfreed rows actor txn) → last_in rows txn ≡ Some last → HasChain e rows actor → e.Told → ∥ IsFormedWith e (End txn last) ∥₁
formed_done e unfreed rows actor txn last can row h told = ∥∥₁_elim (h told) ∥∥₁_prop (λ k. ∣ (λ lsn le number.
    (running_done e.base e.steps lsn (lsn + 1) txn last rows actor (omega arith) (can told).rest.idle (can told).rest.system row (can told).some (chain_later k le)).log) ∣₁)

-- with the ends of an action and of an undo,
pub formed_top : (e : EngineSeen) (rows : List Row) (actor : Actor) (note : List ℕ) → HasChain e rows actor → e.Told → ∥ IsFormedWith e (TopEnd actor.txn.0 actor.last actor.before note) ∥₁
formed_top e rows actor note h told = ∥∥₁_elim (h told) ∥∥₁_prop (λ k. ∣ (λ lsn le number. (running_top {tail = lsn} {next = lsn + 1} note (omega arith) k.at (running_later le k.running)).log) ∣₁)

pub formed_undone : (e : EngineSeen) (rows : List Row) (actor : Actor) (txn after : ℕ) → CanEndUndo e actor txn after → HasChain e rows actor → e.Told → ∥ IsFormedWith e (CompEnd actor.txn.0 actor.last after) ∥₁
formed_undone e rows actor txn after can h told = ∥∥₁_elim (h told) ∥∥₁_prop (λ k. ∣ (λ lsn le number.
    (running_undone {tail = lsn} {next = lsn + 1} after (omega arith) k.at (own_undone e.steps actor txn after (can told)) (running_later le k.running)).log) ∣₁)

-- and of a take-off
pub formed_void : (e : EngineSeen) (actor : Actor) → (e.Told → ∥ IsAllOff e.base e.steps e.tail actor ∥₁) → e.Told → ∥ IsFormedWith e (TopVoid actor.txn.0 actor.last actor.before) ∥₁
formed_void e actor h told = ∥∥₁_elim (h told) ∥∥₁_prop (λ k. ∣ (λ lsn le number. (running_void {tail = lsn} {next = lsn + 1} (omega arith) k.none (running_later le k.running)).log) ∣₁)
