-- A TRANSACTION BEGINS.
use Rattle.std.proofs.Common.{◌≡◌, ℕ, ◌<◌, ◌≤◌, true, false, [], ◌∷◌, length, Result, Ok, Err, sym, ap, subst, ◌∙◌, refl, arith}
use Rattle.std.specs.Prelude.{OnOk, OnErr, IfOk}
use Rattle.sg_base.specs.declared.numbers.TxnId.{TxnId}
use Rattle.sg_ops.specs.Table.{Table}
use Rattle.sg_recovery.specs.Chains.{next_lsn}
use Rattle.sg_recovery.specs.Log.{tally}
use Rattle.sg_recovery.specs.Log.Record.{Begin}
use Rattle.sg_space.specs.declared.space.SpaceFault.{SpaceFault}
use Rattle.sg_action.specs.States.{State}
use Rattle.sg_actions.specs.Calls as calls
use Rattle.sg_actions.specs.Calls.{Begun}
use Rattle.sg_actions.specs.Engine.{EngineCounts, led}
use Rattle.sg_actions.specs.Steps.{Steps, stepped}
use Rattle.sg_actions.specs.View.{IsKept}
use Rattle.sg_actions.specs.declared.rows.Actor.{Actor}
use Rattle.sg_store.specs.Engine as store
use Rattle.sg_store.specs.Engine.{Sizes, Appends, Appended}
use Rattle.sg_ground.specs.Recovers.{Recovering}
use Rattle.sg_shown.specs.Room.{SameRoom}
use Rattle.sg_shown.specs.Shown.{basis, Over, Means, shown_of}
use Rattle.sg_shown.proofs.Calls.{means_next, appends_of, appended_of}
use Rattle.sg_shown.proofs.Holding.{Facts}
use Rattle.sg_shown.proofs.Spared.{spare_on}
use Rattle.sg_paged.proofs.Roomy.{spare_begun}
use Rattle.sg_paged.proofs.Behind.{rests_now, kept_with}
use Rattle.sg_paged.proofs.Recorded.{Stays, room_stays}

next_some : (rs : Steps) → 1 ≤ next_lsn rs
next_some [] = omega arith
next_some (r ∷ rs) = omega arith

-- who tells at the end has begun
begun_ok : {P : Type 0} (b : Over) (r : Result TxnId SpaceFault) (Q : TxnId → Type 0) → OnErr r (b.engine.failed ≡ true)
    → (b.engine.Told → b.engine.failed ≡ false) → b.engine.Told → IfOk r Q → ((u : TxnId) → Q u → P) → P
begun_ok b (Ok u) Q failed whole told h f = f u h
begun_ok b (Err e) Q failed whole told h f = absurd (let x : true ≡ false = sym failed ∙ whole told in cc)

pub begun_means : (m b : Over) (t : Table) (z : Sizes) (from : State) (r : Result TxnId SpaceFault) → Means m t z from → m.begun ≡ false → Stays m b
    → b.means t from → (m.engine.Told → length (tally m.engine.steps).live < 64) → EngineCounts m.engine b.engine r → (b.engine.Told → b.engine.failed ≡ false)
    → IfOk r (Begun t (m.limits z.pages z.bands) (led from m.engine) (led from b.engine) m.maps m.rows b.rows m.actor) → Means b t z from
begun_means m b t z from r h quiet s stands few counts whole did = means_next m b t z from h (room_stays m b s) s.limits s.begun stands counts.told (λ told'.
    begun_ok b r (Begun t (m.limits z.pages z.bands) (led from m.engine) (led from b.engine) m.maps m.rows b.rows m.actor) counts.failed whole told' did (λ u c.
    let told = counts.told told' in
    let k = h.keeps told in
    let formed = k.kept.chain.running.log.chained in
    let low = next_some m.engine.steps in
    let below = k.kept.chain.running.below in
    let above = c.above in
    rests_now b t z from m.engine.steps u.0 (Begin u.0 0)
    (subst (λ (l : (pages bands : ℕ) → State → ℕ → ℕ). IsKept t (l z.pages z.bands) (led from b.engine) b.maps b.rows b.actor) (sym s.limits) (kept_with b.engine s.maps refl s.actor (c.kept told k.kept)))
    (c.logged told).steps refl refl (ap (λ (x : Actor). x.txn.0) s.actor ∙ (k.rest quiet).system) (subst Rattle.sg_actions.specs.View.HasFreedNone (sym s.unfreed) (k.rest quiet).freed)
    (spare_on (ap (λ (rs : Steps). (tally rs).live) (c.logged told).steps) c.rows_are (spare_begun u k.kept.chain.rows_are.apart (few told) (k.kept.chain.rows_are.low u.0 above) k.spare))))

-- WHAT IS APPENDED
abbrev pub first_lsn : Steps → ℕ
first_lsn [] = 0
first_lsn (r ∷ more) = r.lsn

same_number : (rs : Steps) (n m : ℕ) → stepped rs n (Begin n 0) ≡ stepped rs m (Begin m 0) → n ≡ m
same_number rs n m e = ap first_lsn e

pub begun_begins : (recovers : Recovering) (a m b : Over) (t : Table) (z : Sizes) (from : State) (r : Result TxnId SpaceFault) → m.engine ≡ a.engine
    → SameRoom a b → b.begun ≡ false → m.engine.Told → EngineCounts m.engine b.engine r
    → calls.Appends (recovers t) t (led from m.engine) (led from b.engine) (Begin b.engine.tried 0)
    → IfOk r (Begun t (m.limits z.pages z.bands) (led from m.engine) (led from b.engine) m.maps m.rows b.rows m.actor) → Means b t z from
    → (b.engine.Told → Facts recovers b t from)
    → (n : ℕ) × Appends t (basis recovers z) (store.led t z from (shown_of recovers a)) (store.led t z from (shown_of recovers b)) (record { lsn = n; is = Begin n 0 })
    × IfOk r (λ u. (u.0 ≡ n) × Appended t (basis recovers z) (store.led t z from (shown_of recovers a)) (store.led t z from (shown_of recovers b)) (record { lsn = n; is = Begin n 0 }))
begun_begins recovers a m b t z from r e room begun told counts h did means facts = (
  b.engine.tried,
  appends_of recovers a b t z from b.engine.tried (Begin b.engine.tried 0) m.engine e means.size (record { above = h.above; formed = h.formed; moments = h.moments }),
  by r counts.tells counts.tail did,
)
  where
    by : (q : Result TxnId SpaceFault) → OnOk q (m.engine.Told → b.engine.Told) → m.engine.tail ≤ b.engine.tail → IfOk q (Begun t (m.limits z.pages z.bands) (led from m.engine) (led from b.engine) m.maps m.rows b.rows m.actor)
        → IfOk q (λ u. (u.0 ≡ b.engine.tried) × Appended t (basis recovers z) (store.led t z from (shown_of recovers a)) (store.led t z from (shown_of recovers b)) (record { lsn = b.engine.tried; is = Begin b.engine.tried 0 }))
    by (Err f) tells tail c = tt
    by (Ok u) tells tail c =
        let told' = tells told in
        let g = c.logged told in (
          same_number m.engine.steps u.0 b.engine.tried (sym g.steps ∙ h.gone told'),
          appended_of recovers a b t z from b.engine.tried (Begin b.engine.tried 0) m.engine e (record { base = g.base; steps = h.gone told'; tail = tail; durable = g.durable }) means told' (facts told') room begun,
        )
