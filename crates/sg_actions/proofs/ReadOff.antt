-- What a take-off reads of the last open change, and the record that takes it off.
use Rattle.std.proofs.Common.{◌≡◌, ℕ, List, Some, length, sym, ap, subst, ◌∙◌, refl}
use Rattle.std.specs.Prelude.{⊤}
use Rattle.std.proofs.Props.{props}
use Rattle.sg_ops.specs.Table.{Table}
use Rattle.sg_record.specs.Changes.{Change as Changing}
use Rattle.sg_record.specs.Records.{Record, Says}
use Rattle.sg_record.specs.Records.Says.{Begin as SaysBegin, Changed, TopEnd as SaysTopEnd, PhysComp as SaysPhysComp, TopVoid as SaysTopVoid, CompEnd as SaysCompEnd, Save as SaysSave, Commit as SaysCommit, End as SaysEnd, Checkpoint as SaysCheckpoint}
use Rattle.sg_recovery.specs.Log.{Open}
use Rattle.sg_recovery.specs.Log.Record.{Change, PhysComp}
use Rattle.sg_recovery.specs.Chains.{next_off}
use Rattle.sg_action.specs.States.{State, Kept}
use Rattle.sg_actions.specs.Changes.{comp_of, IsChangeOf}
use Rattle.sg_actions.specs.Engine.{EngineSeen, IsOn, AllOn, IsLoggable, KnowsOff, IsStepAt, led, now_of}
use Rattle.sg_actions.specs.Reads.{ReadsChange}
use Rattle.sg_actions.specs.Steps.{Steps, step_at, step_of, step_by}
use Rattle.sg_actions.specs.TakingOff.{IsGoing}
use Rattle.sg_actions.specs.declared.rows.Actor.{Actor}
use Rattle.sg_actions.specs.declared.rows.Row.{Row}
use Rattle.sg_actions.proofs.GoneOff.{off_formed}
use Rattle.sg_actions.proofs.Offing.{IsNext, IsRead, next_low, read_is, off_fits, off_known, known_off_prop, shown_is}
use Rattle.sg_actions.proofs.Ranged.{brief_off}
use Rattle.sg_actions.proofs.Untold.{comp_on, on_at, on_prop}

-- a record that is the step of a change makes that change
pub change_is : (what : Record) {u p : ℕ} {d : Changing} → step_of what ≡ Some (Change u p d) → IsChangeOf what d p
change_is what {u} {p} {d} e = let h = by what.says e in record { says = h.0; before_is = h.1 }
  where
    by : (s : Says) → step_by what.transaction what.previous s ≡ Some (Change u p d) → (s ≡ Changed d) × (what.previous ≡ p)
    by SaysBegin z = absurd cc
    by (Changed c) z = (cc, cc)
    by (SaysTopEnd w n) z = absurd cc
    by (SaysPhysComp w c) z = absurd cc
    by (SaysTopVoid w) z = absurd cc
    by (SaysCompEnd w) z = absurd cc
    by (SaysSave m) z = absurd cc
    by SaysCommit z = absurd cc
    by SaysEnd z = absurd cc
    by (SaysCheckpoint m live) z = absurd cc

-- WHAT STANDS AT THE LAST OPEN CHANGE is a record that makes it, and that has room for what takes it off
pub reads_next : (t : Table) (kept : Kept) (begin from : State) (e : EngineSeen) (rows : List Row) (actor : Actor) (at : ℕ) (bytes : List ℕ) → e.now ≡ now_of t (led from e) → (n : IsNext e.steps actor at) → IsGoing t kept begin (led from e) rows actor at → IsStepAt e.steps at bytes
    → ReadsChange bytes at n.d.change (next_off actor.before n.ds)
reads_next t kept begin from e rows actor at bytes now n h read =
    let next = next_off actor.before n.ds in
    let makes = change_is read.what (sym read.step ∙ n.step) in
    record {
      what = read.what;
      size = length bytes;
      is = read.is;
      makes = makes;
      lower = next_low t kept begin (led from e) rows actor at h n;
      brief = λ range. brief_off t e.now read.what n.d.change (comp_of n.d.change) next range makes refl
          (off_fits t kept begin (led from e) rows actor at next n.d.change (comp_of n.d.change) e.now now n (record { change = refl; before_is = refl }) refl h);
    }

-- and what was read of a record that makes a change is that change
pub read_next : (rs rs' : Steps) (at : ℕ) (bytes : List ℕ) (c : Changing) (prev next : ℕ) (d : Open Changing) → IsStepAt rs at bytes → rs' ≡ rs → ReadsChange bytes at c prev → step_at rs' at ≡ Some (Change d.transaction next d.change) → IsRead c prev d next
read_next rs rs' at bytes c prev next d read same h step =
    read_is rs' at read.what h.what c prev next d (ap (λ (xs : Steps). step_at xs at) same ∙ read.step) (shown_is _ _ _ _ _ (sym h.is) read.is) h.makes step

-- THE RECORD THAT TAKES IT OFF may be appended,
pub off_can : (t : Table) (kept : Kept) (begin from : State) (e : EngineSeen) (rows : List Row) (actor : Actor) (at prev : ℕ) (c comp : Changing) → AllOn e.extent e.steps → e.now ≡ now_of t (led from e) → (n : IsNext e.steps actor at) → IsRead c prev n.d (next_off actor.before n.ds)
    → comp ≡ comp_of c → IsGoing t kept begin (led from e) rows actor at → IsLoggable t ⊤ e (PhysComp actor.txn.0 actor.last prev comp)
off_can t kept begin from e rows actor at prev c comp all now n r is h = record {
  there = comp_on e.extent c comp is (subst (λ (d : Changing). IsOn e.extent d) (sym r.change) (on_at e.extent e.steps at _ all n.step));
  fits = off_fits t kept begin (led from e) rows actor at prev c comp e.now now n r is h;
  known = off_known t kept begin from e rows actor at prev c comp n r is h;
  formed = ∣ off_formed kept begin (led from e) rows actor at prev c comp h n r is ∣₁;
  means = λ u. tt;
}

-- which is no matter of the pages that the log's steps lead from
pub can_prop : (t : Table) (e : EngineSeen) (u p w : ℕ) (c : Changing) → IsProp (IsLoggable t ⊤ e (PhysComp u p w c))
can_prop t e u p w c =
    let there : IsProp (IsOn e.extent c) = on_prop e.extent c in
    let known : IsProp (KnowsOff e c) = known_off_prop e c in
    hlevel (props, there, known)
