-- THE END OF A TRANSACTION WITHOUT A ROW: it goes on no more, and nothing was done.
use Rattle.std.proofs.Common.{◌≡◌, ◌≢◌, inl, inr, ℕ, Bool, true, false, [], IsSome, sym, subst, ◌∙◌, refl, arith}
use Rattle.std.proofs.lemmas.Bool.{cases_eq}
use Rattle.sg_disk.proofs.Moments.{started}
use Rattle.sg_ops.specs.Table.{Table}
use Rattle.sg_action.specs.States.{State}
use Rattle.sg_recovery.specs.Log.{tally, is_in}
use Rattle.sg_actions.proofs.Chained.{no_zero}
use Rattle.sg_actions.specs.Rows.{HasRow}
use Rattle.sg_ground.specs.Recovers.{Recovering}
use Rattle.sg_store.specs.Engine as store
use Rattle.sg_store.specs.Engine.{Sizes, IsEngine, IsImageOf, Rests, Rested}
use Rattle.sg_shown.specs.Shown.{basis, Over, Keeping, Means, shown_of}

-- one that goes on has a row, whoever acts
live_has : {a : Over} {t : Table} {z : Sizes} {from : State} (u : ℕ) → Keeping a t z from → is_in u (tally a.engine.steps).live ≡ true → HasRow a.rows u
live_has {a} u k live = elim (cases_eq u a.actor.txn.0) as (λ _. HasRow a.rows u) [
  | inl e ↦
      let some : a.actor.txn.0 ≢ 0 = λ z. no_zero a.engine.steps u k.kept.chain.running.system live (e ∙ z) in
      subst (λ (n : ℕ). HasRow a.rows n) (sym e) (k.kept.chain.rows_are.own some)
  | inr ne ↦ subst IsSome (sym (k.kept.chain.rows_are.others u ne live)) refl
]

not_in : (b : Bool) → (b ≡ true → ⊥) → b ≡ false
not_in true h = absurd (h refl)
not_in false h = refl

pub ended_none : (recovers : Recovering) (a : Over) (t : Table) (z : Sizes) (from : State) (u : ℕ) → Means a t z from → a.engine.Told
    → IsEngine t (basis recovers z) (store.led t z from (shown_of recovers a)) → (HasRow a.rows u → ⊥)
    → (is_in u (tally a.engine.steps).live ≡ false)
    × Rests t (basis recovers z) (store.led t z from (shown_of recovers a)) (store.led t z from (shown_of recovers a))
    × Rested t (basis recovers z) (store.led t z from (shown_of recovers a)) (store.led t z from (shown_of recovers a))
ended_none recovers a t z from u m told e none =
    let v = store.led t z from (shown_of recovers a) in (
      not_in (is_in u (tally a.engine.steps).live) (λ live. none (live_has {a = a} u (m.keeps told) live)),
      record { moments = started v.disk (IsImageOf t (basis recovers z) v v.log) e.images },
      record {
        goes_on = record { engine = e; base = refl; first = refl; tail = omega arith; durable = record { since = []; all = refl } };
        log = refl;
        action = refl;
        pages = refl;
        bands = refl;
      },
    )
