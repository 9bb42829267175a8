-- A MARK IS SET.
use Rattle.std.proofs.Common.{◌≡◌, ℕ, ◌≤◌, false, Result, Ok, Err, sym, ap, subst, ◌∙◌, refl}
use Rattle.std.specs.Prelude.{OnOk, OnErr, IfOk}
use Rattle.sg_base.specs.declared.numbers.TxnId.{TxnId}
use Rattle.sg_ops.specs.Table.{Table}
use Rattle.sg_recovery.specs.Log.{tally}
use Rattle.sg_recovery.specs.Log.Record.{Save}
use Rattle.sg_space.specs.declared.space.SpaceFault.{SpaceFault}
use Rattle.sg_action.specs.States.{State}
use Rattle.sg_actions.specs.Counts.{MayAppend}
use Rattle.sg_actions.specs.Ending.{Marked}
use Rattle.sg_actions.specs.Engine.{led}
use Rattle.sg_actions.specs.Steps.{Steps}
use Rattle.sg_actions.specs.View.{IsKept, HasFreedNone}
use Rattle.sg_actions.specs.declared.rows.Actor.{Actor}
use Rattle.sg_store.specs.Engine as store
use Rattle.sg_store.specs.Engine.{Sizes, Appends, Appended}
use Rattle.sg_ground.specs.Recovers.{Recovering}
use Rattle.sg_shown.specs.Room.{SameRoom}
use Rattle.sg_shown.specs.Shown.{basis, Over, Means, shown_of}
use Rattle.sg_shown.proofs.Calls.{means_next, appends_of, appended_of}
use Rattle.sg_shown.proofs.Holding.{Facts}
use Rattle.sg_paged.proofs.Roomy.{spare_rows, spare_same}
use Rattle.sg_paged.proofs.Behind.{rests_now, kept_with}
use Rattle.sg_paged.proofs.Begun.{first_lsn}
use Rattle.sg_paged.proofs.Recorded.{Stays, room_stays}

-- who tells at the end has set it
marked_ok : {P Told : Type 0} (r : Result ℕ SpaceFault) (Q : ℕ → Type 0) → OnErr r (Told → ⊥) → Told → IfOk r Q → ((lsn : ℕ) → Q lsn → P) → P
marked_ok (Ok lsn) Q silent told h f = f lsn h
marked_ok (Err e) Q silent told h f = absurd (silent told)

module _ (m b : Over) (t : Table) (z : Sizes) (from : State) (txn : TxnId) (mark : ℕ) where
  -- it was set, in the middle
  abbrev Sets : ℕ → Type 0
  Sets lsn = Marked t (m.limits z.pages z.bands) (led from m.engine) (led from b.engine) m.maps m.rows b.rows m.actor txn mark lsn

  pub save_means : (r : Result ℕ SpaceFault) → Means m t z from → m.begun ≡ false → Stays m b → b.means t from → (b.engine.Told → m.engine.Told)
      → OnErr r (b.engine.Told → ⊥) → IfOk r Sets → Means b t z from
  save_means r h quiet s stands back silent did = means_next m b t z from h (room_stays m b s) s.limits s.begun stands back (λ told'. marked_ok r Sets silent told' did (λ lsn c.
      let told = back told' in
      let k = h.keeps told in
      rests_now b t z from m.engine.steps lsn (Save txn.0 c.last mark)
      (subst (λ (l : (pages bands : ℕ) → State → ℕ → ℕ). IsKept t (l z.pages z.bands) (led from b.engine) b.maps b.rows b.actor) (sym s.limits) (kept_with b.engine s.maps refl s.actor (c.kept told k.kept)))
      (c.logged told).steps refl refl (ap (λ (x : Actor). x.txn.0) s.actor ∙ (k.rest quiet).system) (subst HasFreedNone (sym s.unfreed) (k.rest quiet).freed)
      (spare_rows c.rows_are (spare_same txn.0 (record { txn = txn; last = lsn }) (ap (λ (rs : Steps). (tally rs).live) (c.logged told).steps) refl k.spare))))

  -- AND ITS RECORD appended
  pub save_appends : (recovers : Recovering) (a : Over) (r : Result ℕ SpaceFault) → m.engine ≡ a.engine → SameRoom a b → b.begun ≡ false → m.engine.Told
      → OnOk r (m.engine.Told → b.engine.Told) → m.engine.tail ≤ b.engine.tail
      → MayAppend (recovers t) t (led from m.engine) (led from b.engine) m.rows txn.0 (λ last. Save txn.0 last mark)
      → IfOk r Sets → Means b t z from → (b.engine.Told → Facts recovers b t from)
      → (lsn : ℕ) × (previous : ℕ) × Appends t (basis recovers z) (store.led t z from (shown_of recovers a)) (store.led t z from (shown_of recovers b)) (record { lsn = lsn; is = Save txn.0 previous mark })
      × IfOk r (λ number. (number ≡ lsn) × Appended t (basis recovers z) (store.led t z from (shown_of recovers a)) (store.led t z from (shown_of recovers b)) (record { lsn = lsn; is = Save txn.0 previous mark }))
  save_appends recovers a r e room begun told tells tail may did means facts = (
    may.lsn,
    may.last,
    appends_of recovers a b t z from may.lsn (Save txn.0 may.last mark) m.engine e means.size (record { above = may.above; formed = may.formed; moments = may.moments }),
    by r tells did,
  )
    where
      by : (q : Result ℕ SpaceFault) → OnOk q (m.engine.Told → b.engine.Told) → IfOk q Sets
          → IfOk q (λ number. (number ≡ may.lsn) × Appended t (basis recovers z) (store.led t z from (shown_of recovers a)) (store.led t z from (shown_of recovers b)) (record { lsn = may.lsn; is = Save txn.0 may.last mark }))
      by (Err f) tell c = tt
      by (Ok lsn) tell c =
          let told' = tell told in
          let g = c.logged told in (
            ap first_lsn (sym g.steps ∙ may.gone told'),
            appended_of recovers a b t z from may.lsn (Save txn.0 may.last mark) m.engine e (record { base = g.base; steps = may.gone told'; tail = tail; durable = g.durable }) means told' (facts told') room begun,
          )
