-- A checkpoint is no step.
use Rattle.std.proofs.Common.{◌≡◌, ℕ, true, false, List, Bool, Result, Ok, Err, sym, subst, ◌∙◌, refl}
use Rattle.std.specs.Prelude.{OnOk}
use Rattle.sg_ops.specs.Table.{Table}
use Rattle.sg_record.specs.Records.{Record}
use Rattle.sg_space.specs.declared.space.SpaceFault.{SpaceFault}
use Rattle.sg_action.specs.States.{State}
use Rattle.sg_actions.specs.Engine.{EngineSeen, EngineGrows, EngineLooks, now_of, led}
use Rattle.sg_actions.specs.Images.{Recovering}
use Rattle.sg_actions.specs.Led.{HasStayed}
use Rattle.sg_actions.specs.Taken.{AreSaid}
use Rattle.sg_actions.proofs.Led.{Same, same_prop, same_by}
use mathlib.Core.Logic.{∥∥₁_elim}

-- what it leaves, by the pages and bands that the steps lead from
pub mark_stays : {recovers : Recovering} {t : Table} (from : State) {a b : EngineSeen} {r : Record} (result : Result ℕ SpaceFault) → EngineGrows a b r result → EngineLooks recovers t (led from a) (led from b) result → OnOk result (HasStayed (led from a) (led from b))
mark_stays from (Err f) g l = tt
mark_stays from (Ok lsn) g l = record { told = g.counts.tells; stays = λ told. record { base = g.counts.base; first = refl; steps = (l.stays told).steps; tail = g.counts.tail; durable = (l.stays told).durable } }

-- and whatever its records mean
pub said_mark : {recovers : Table → Recovering} {e e' : EngineSeen} {m m' : Table → State → Type 0} {r : Record} (result : Result ℕ SpaceFault) (pages : List Bool) → (e.Told → ∥ ((t : Table) × (from : State) × m t from) ∥₁) → EngineGrows e e' r result
    → ((t : Table) (from : State) → m t from → m' t from) → ((t : Table) (from : State) → m t from → EngineLooks (recovers t) t (led from e) (led from e') result) → (e'.Told → e'.failed ≡ false)
    → ((t : Table) (from : State) → m t from → e.Told → e.now ≡ now_of t (led from e)) → ((t : Table) (from : State) → m' t from → e'.Told → e'.now ≡ now_of t (led from e')) → (e.Told → AreSaid pages e.now.pages) → e'.Told → AreSaid pages e'.now.pages
said_mark {recovers} {e} {e'} {m} {m'} (Err f) pages some g keeps looks whole now now' said told' = absurd (let b : true ≡ false = sym g.counts.failed ∙ whole told' in cc)
said_mark {recovers} {e} {e'} {m} {m'} (Ok lsn) pages some g keeps looks whole now now' said told' =
    let told = g.counts.told told' in
    let same : Same e e' = ∥∥₁_elim (some told) (same_prop e e') (λ x. same_by x.0 x.1 (now x.0 x.1 x.2 told) (now' x.0 x.1 (keeps x.0 x.1 x.2) told') (((looks x.0 x.1 x.2).stays told).steps)) in
    subst (λ (y : State). AreSaid pages y.pages) (sym same.now) (said told)
