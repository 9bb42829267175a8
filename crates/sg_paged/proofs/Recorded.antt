-- A RECORD OF A TRANSACTION between actions, or one that ends an action.
use Rattle.std.proofs.Common.{◌≡◌, ◌≢◌, ℕ, ◌-◌, ◌≤◌, true, false, List, length, Some, Result, Ok, Err, sym, ap, subst, ◌∙◌, refl, arith, slice_set}
use Rattle.std.specs.Prelude.{OnOk, OnErr}
use Rattle.sg_base.specs.declared.numbers.TxnId.{TxnId}
use Rattle.sg_ops.specs.Laws.{IsLawful}
use Rattle.sg_ops.specs.Table.{Table}
use Rattle.sg_recovery.specs.Log.{tally, is_in, without}
use Rattle.sg_recovery.specs.Log.Record.{TopEnd, CompEnd, Commit, End}
use Rattle.sg_recovery.proofs.Showing.{without_not}
use Rattle.sg_space.specs.declared.space.SpaceFault.{SpaceFault}
use Rattle.sg_action.specs.States.{State}
use Rattle.sg_actions.specs.Calls.{ActionEnded}
use Rattle.sg_actions.specs.Ending.{Committed, Closed, UndoEnded, vacant}
use Rattle.sg_actions.specs.Engine.{EngineSeen, led}
use Rattle.sg_actions.specs.Rows.{last_in, placed}
use Rattle.sg_actions.specs.Steps.{Steps, repeated}
use Rattle.sg_actions.specs.TakingOff.{AreRows}
use Rattle.sg_actions.specs.View.{IsKept, HasFreedNone}
use Rattle.sg_actions.specs.declared.rows.Actor.{Actor}
use Rattle.sg_actions.specs.declared.rows.Row.{Row}
use Rattle.sg_actions.proofs.Chained.{no_zero, one_most}
use Rattle.sg_actions.proofs.Placing.{placed_self}
use Rattle.sg_store.specs.Engine.{Sizes}
use Rattle.sg_shown.specs.Room.{SameRoom}
use Rattle.sg_shown.specs.Shown.{Over, Keeping, Means}
use Rattle.sg_shown.specs.Spare.{HasSpare}
use Rattle.sg_shown.proofs.Calls.{RestsNow, means_next, room_settled}
use Rattle.sg_paged.proofs.Parts.{placed_twice}
use Rattle.sg_paged.proofs.Roomy.{spare_rows, spare_after, spare_ended, spare_left, rows_left}
use Rattle.sg_paged.proofs.Behind.{room_same, rests_now, kept_with, by_told}

-- what stays of a space in a call of a transaction outside of its actions
pub record Stays (m b : Over) : Type 1 where
  pub maps : b.maps ≡ m.maps
  pub unfreed : b.unfreed ≡ m.unfreed
  pub actor : b.actor ≡ m.actor
  pub begun : b.begun ≡ false
  pub limits : b.limits ≡ m.limits

abbrev pub room_stays : (m b : Over) → Stays m b → SameRoom m b
room_stays m b s = room_same m b s.maps s.unfreed

freed_stays : (m b : Over) → Stays m b → HasFreedNone m.unfreed → HasFreedNone b.unfreed
freed_stays m b s h = subst HasFreedNone (sym s.unfreed) h

-- A COMMIT, behind which the transaction leaves its place
pub record Leaves (one b : Over) (txn : TxnId) : Type 1 where
  pub engine : b.engine ≡ one.engine
  pub rows : (last : ℕ) → last_in one.rows txn.0 ≡ Some last → b.rows ≡ slice_set (placed one.rows txn.0 vacant) (length one.rows - 1) (record { txn = txn; last = last })

module _ (m one b : Over) (t : Table) (z : Sizes) (from : State) (txn : TxnId) (h : Means m t z from) (quiet : m.begun ≡ false) (s : Stays m b) (l : Leaves one b txn)
    (live : m.engine.Told → is_in txn.0 (tally m.engine.steps).live ≡ true)
    (c : Committed t (m.limits z.pages z.bands) (led from m.engine) (led from one.engine) m.maps m.rows one.rows m.actor txn) where
  abbrev row : Row
  row = record { txn = txn; last = c.lsn }

  module _ (told : m.engine.Told) where
    k : Keeping m t z from
    k = h.keeps told

    some : txn.0 ≢ 0
    some = no_zero m.engine.steps txn.0 k.kept.chain.running.system (live told)

    lives : (tally one.engine.steps).live ≡ without txn.0 (tally m.engine.steps).live
    lives = ap (λ (rs : Steps). (tally rs).live) (c.logged told).steps

    gone : is_in txn.0 (tally one.engine.steps).live ≡ false
    gone = ap (is_in txn.0) lives ∙ without_not txn.0 (tally m.engine.steps).live

    there : last_in one.rows txn.0 ≡ Some c.lsn
    there = ap (λ (xs : List Row). last_in xs txn.0) c.rows_are ∙ placed_self m.rows txn.0 c.last row c.was refl

    vacated : HasSpare one.engine.steps (placed one.rows txn.0 vacant)
    vacated = spare_rows (ap (λ (xs : List Row). placed xs txn.0 vacant) c.rows_are ∙ placed_twice m.rows txn.0 row vacant refl)
        (spare_ended txn.0 lives k.kept.chain.running.system k.kept.chain.rows_are.apart k.spare)

    was : IsKept t (m.limits z.pages z.bands) (led from one.engine) m.maps one.rows m.actor
    was = c.kept told k.kept

    low : 1 ≤ one.engine.tail
    low = (let n = one_most one.engine.steps in let u = was.chain.running.below in omega (arith, n, u))

    left : AreRows one.engine.steps one.engine.tail b.rows m.actor
    left = subst (λ (xs : List Row). AreRows one.engine.steps one.engine.tail xs m.actor) (sym (l.rows c.lsn there))
        (rows_left one.engine.steps one.rows txn c.lsn vacated one.engine.tail m.actor was.chain.rows_are (k.rest quiet).system low some there)

    spare_now : HasSpare one.engine.steps b.rows
    spare_now = spare_rows (l.rows c.lsn there) (spare_left one.engine.steps one.rows txn c.lsn vacated gone)

    kept_now : IsKept t (b.limits z.pages z.bands) (led from b.engine) b.maps b.rows b.actor
    kept_now = subst (λ (f : (pages bands : ℕ) → State → ℕ → ℕ). IsKept t (f z.pages z.bands) (led from b.engine) b.maps b.rows b.actor) (sym s.limits)
        (kept_with b.engine s.maps refl s.actor (subst (λ (y : EngineSeen). IsKept t (m.limits z.pages z.bands) (led from y) m.maps b.rows m.actor) (sym l.engine)
        (record { chain = record { running = was.chain.running; rows_are = left; closed = was.chain.closed; at = was.chain.at }; well = was.well })))

    commit_rests : RestsNow b t z from (repeated t from m.engine.steps)
    commit_rests = rests_now b t z from m.engine.steps c.lsn (Commit txn.0 c.last) kept_now (ap (λ (y : EngineSeen). y.steps) l.engine ∙ (c.logged told).steps) refl refl
        (ap (λ (x : Actor). x.txn.0) s.actor ∙ (k.rest quiet).system) (freed_stays m b s (k.rest quiet).freed) (subst (λ (y : EngineSeen). HasSpare y.steps b.rows) (sym l.engine) spare_now)

  pub commit_means : b.means t from → (b.engine.Told → m.engine.Told) → Means b t z from
  commit_means stands back = means_next m b t z from h (room_stays m b s) s.limits s.begun stands back (λ told. commit_rests (back told))

-- AN END
pub end_means : {T : Type 0} (m b : Over) (t : Table) (z : Sizes) (from : State) (txn : TxnId) (r : Result T SpaceFault) → Means m t z from
    → m.begun ≡ false → Stays m b → b.means t from → (b.engine.Told → m.engine.Told) → OnErr r (b.engine.Told → ⊥)
    → OnOk r (Closed t (m.limits z.pages z.bands) (led from m.engine) (led from b.engine) m.maps m.rows b.rows m.actor txn) → Means b t z from
end_means m b t z from txn r h quiet s stands back silent did = means_next m b t z from h (room_stays m b s) s.limits s.begun stands back (λ told'.
    let told = back told' in
    let k = h.keeps told in
    let c = by_told r silent told' did in
    rests_now b t z from m.engine.steps c.lsn (End txn.0 c.last)
    (subst (λ (l : (pages bands : ℕ) → State → ℕ → ℕ). IsKept t (l z.pages z.bands) (led from b.engine) b.maps b.rows b.actor) (sym s.limits) (kept_with b.engine s.maps refl s.actor (c.kept told k.kept)))
    (c.logged told).steps refl refl (ap (λ (x : Actor). x.txn.0) s.actor ∙ (k.rest quiet).system) (freed_stays m b s (k.rest quiet).freed)
    (spare_rows c.rows_are (spare_ended txn.0 (ap (λ (rs : Steps). (tally rs).live) (c.logged told).steps) k.kept.chain.running.system k.kept.chain.rows_are.apart k.spare)))

-- THE END OF AN ACTION
pub action_means : {T : Type 0} (m b : Over) (t : Table) (z : Sizes) (from : State) (note : List ℕ) (r : Result T SpaceFault) → IsLawful t
    → Means m t z from → b.limits ≡ m.limits → b.means t from → (b.engine.Told → m.engine.Told) → OnErr r (b.engine.failed ≡ true)
    → (b.engine.Told → b.engine.failed ≡ false)
    → OnOk r (b.begun ≡ false)
    → OnOk r (ActionEnded t (m.limits z.pages z.bands) (led from m.engine) (led from b.engine) m.maps b.maps m.unfreed b.unfreed m.rows b.rows m.actor b.actor note)
    → OnErr r (Means b t z from) → Means b t z from
action_means m b t z from note (Err f) law h l stands back failed whole begun did other = other
action_means m b t z from note (Ok x) law h l stands back failed whole begun did other = means_next m b t z from h (room_settled m b did.pages did.bands) l begun stands back (λ told'.
    let told = back told' in
    let k = h.keeps told in
    rests_now b t z from m.engine.steps did.lsn (TopEnd m.actor.txn.0 m.actor.last m.actor.before note)
    (subst (λ (f : (pages bands : ℕ) → State → ℕ → ℕ). IsKept t (f z.pages z.bands) (led from b.engine) b.maps b.rows b.actor) (sym l) (did.kept law told k.kept))
    (did.logged told).steps refl refl (ap (λ (y : Actor). y.txn.0) did.rest) (record { pages = did.pages.none; bands = did.bands.none })
    (spare_rows did.rows_are (spare_after m.actor.txn did.lsn (ap (λ (rs : Steps). (tally rs).live) (did.logged told).steps) k.spare)))

-- THE END OF AN UNDO
pub undo_means : {T : Type 0} (m b : Over) (t : Table) (z : Sizes) (from : State) (after : ℕ) (r : Result T SpaceFault) → IsLawful t → Means m t z from
    → b.limits ≡ m.limits → b.means t from → (b.engine.Told → m.engine.Told)
    → OnOk r (b.begun ≡ false)
    → OnOk r (UndoEnded t (m.limits z.pages z.bands) (led from m.engine) (led from b.engine) m.maps b.maps m.unfreed b.unfreed m.rows b.rows m.actor b.actor after)
    → OnErr r (Means b t z from) → Means b t z from
undo_means m b t z from after (Err f) law h l stands back begun did other = other
undo_means m b t z from after (Ok x) law h l stands back begun did other = means_next m b t z from h (room_settled m b did.pages did.bands) l begun stands back (λ told'.
    let told = back told' in
    let k = h.keeps told in
    rests_now b t z from m.engine.steps did.lsn (CompEnd m.actor.txn.0 m.actor.last after)
    (subst (λ (f : (pages bands : ℕ) → State → ℕ → ℕ). IsKept t (f z.pages z.bands) (led from b.engine) b.maps b.rows b.actor) (sym l) (did.kept law told k.kept))
    (did.logged told).steps refl refl (ap (λ (y : Actor). y.txn.0) did.rest) (record { pages = did.pages.none; bands = did.bands.none })
    (spare_rows did.rows_are (spare_after m.actor.txn did.lsn (ap (λ (rs : Steps). (tally rs).live) (did.logged told).steps) k.spare)))
