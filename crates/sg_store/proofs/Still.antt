-- Calls that leave the stock alone.
use Rattle.std.proofs.Common.{◌≡◌, ℕ, List, Option, Some, None, refl, ap, ◌∙◌, subst}
use Rattle.std.specs.Prelude.{Result, Ok, Err, OnOk, OnErr, map}
use Rattle.sg_ops.specs.Table.{Table as Operations}
use Rattle.sg_model.specs.Verb.{Op}
use Rattle.sg_model.specs.declared.op.Reply as code_reply
use Rattle.sg_model.specs.declared.reason.Reason.{Reason}
use Rattle.sg_model.specs.declared.stop.Stop.{Stop}
use Rattle.sg_recovery.specs.Log.{Numbered, tally}
use Rattle.sg_recovery.specs.Log.Record.{Begin}
use Rattle.sg_recovery.specs.Stands.{made}
use Rattle.sg_run.specs.Run.{Run}
use Rattle.sg_store.specs.declared.fault.ObjFault.{ObjFault}
use Rattle.sg_store.specs.declared.fault.ObjFault.TheVariants as faults
use Rattle.sg_store.specs.declared.fault.Refused.{Refused}
use Rattle.sg_store.specs.declared.fault.Refused.TheVariants as refusals
use Rattle.sg_store.specs.Ground.{Ground, setting}
use Rattle.sg_store.specs.Engine.{View, Sizes, Shown, Rested, Appended}
use Rattle.sg_store.specs.Room.{step_of, ShowsStock}
use Rattle.sg_store.specs.Stock.{LeavesStock}
use Rattle.sg_store.specs.Store.{Core}
use Rattle.sg_store.specs.Verbs.{HasNeeds}
use Rattle.sg_store.specs.Calls.{Acts, SameRoom}
use Rattle.sg_store.specs.Causes.{ClosesFor}
use Rattle.sg_store.proofs.Holding.{rested_same}
use Rattle.sg_store.proofs.Stocked.{stock_moves}

module _ (t : Operations) (g : Ground) where
  -- a call that appends nothing
  pub left_rested : (v w : View g) → Rested t g v w → LeavesStock t g v w
  left_rested v w h r shown = stock_moves t g v w r h.log h.goes_on.first shown

  pub left_same : (v w : View g) → SameRoom t g v w → LeavesStock t g v w
  left_same v w h r shown = stock_moves t g v w r h.log h.first shown

  -- a begin, whose record changes no page and is no note
  pub left_begun : (v w : View g) (n : ℕ) → Appended t g v w (record { lsn = n; is = Begin n 0 }) → LeavesStock t g v w
  left_begun v w n d r shown = record {
    marks = λ o e. shown.marks o (subst (λ (ls : List (Numbered g.C g.N)). g.reading (made (setting t g) v.first ls) ≡ Some o) d.log
        (subst (λ q. g.reading (made (setting t g) q w.log) ≡ Some o) d.goes_on.first e));
    steps = ap (λ (ls : List (Numbered g.C g.N)). map (step_of g) (tally ls).notes) d.log ∙ shown.steps;
  }

  -- a refusal of an operation for its reason
  pub same_refused : (v w : View g) (o : g.O) (op : Op) (reason : Reason) (f : ObjFault) → f ≡ faults.Model reason → HasNeeds t g v w o op (Err f) → SameRoom t g v w
  same_refused v w o op reason f e h = rested_same t g v w (subst (λ z. HasNeeds t g v w o op (Err z)) e h).0

-- a store that has stopped isn't one that hasn't
pub not_halted : {P : Type 0} {s : Option Stop} {why : Stop} → s ≡ Some why → s ≡ None → P
not_halted e none = absurd (cc)

-- what holds of each refusal holds where a call is refused
pub on_refusal : {A E P : Type 0} (r : Result A E) → ((why : E) → r ≡ Err why → P) → OnErr r P
on_refusal (Ok done) h = tt
on_refusal (Err why) h = h why refl

-- an operation that fails stops the store
pub unacted : (t : Operations) (g : Ground) {P : Type 0} (v w : View g) (k m : Core) (x : Run) (u : ℕ) (op : Op) (into : List ℕ)
    → (why : Refused) → Acts t g v w k m x u op into (Err why) → m.stopped ≡ None → P
unacted t g v w k m x u op into refusals.NoTxn h none = absurd h
unacted t g v w k m x u op into refusals.TooManyLive h none = absurd h
unacted t g v w k m x u op into (refusals.Busy holder) h none = absurd h
unacted t g v w k m x u op into refusals.LocksFull h none = absurd h
unacted t g v w k m x u op into (refusals.Model reason) h none = absurd h
unacted t g v w k m x u op into (refusals.NoSpace free reserved need) h none = absurd h
unacted t g v w k m x u op into (refusals.NoBands free need) h none = absurd h
unacted t g v w k m x u op into refusals.LogEnd h none = not_halted (ap (λ (c : Core). c.stopped) h) none
unacted t g v w k m x u op into refusals.Memory h none = absurd h
unacted t g v w k m x u op into refusals.DiskFault h none = not_halted (ap (λ (c : Core). c.stopped) h.0) none
unacted t g v w k m x u op into refusals.Stopped h none = absurd h

-- a close that is done leaves a store that hasn't stopped
pub closed_well : {basis : Sizes → Ground} {P : Type 0} (old new : Shown basis) (k m : Core) (r : Result (Unit {0}) Refused) → ClosesFor old new k m r → (m.stopped ≡ None → P) → OnOk r P
closed_well old new k m (Ok done) h p = p (ap (λ (c : Core). c.stopped) h.1 ∙ h.0)
closed_well old new k m (Err why) h p = tt
