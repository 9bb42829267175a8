-- What a call of an engine does, whatever its records mean, and by the pages and bands that its steps lead from.
use mathlib.Core.Logic.{∥∥₁_elim, ∥∥₁_prop}
use Rattle.std.proofs.Common.{Bool, ◌≡◌, ℕ, ◌≤◌, true, false, Some, Result, Ok, Err, sym, ap, subst, ◌∙◌, refl, arith}
use Rattle.std.proofs.Props.{props}
use Rattle.std.specs.Prelude.{IfOk, OnOk}
use Rattle.sg_ops.specs.Table.{Table}
use Rattle.sg_record.specs.Changes.{Change as Changing}
use Rattle.sg_record.specs.Records.{Record}
use Rattle.sg_recovery.specs.Log.Record.{Change}
use Rattle.sg_space.specs.declared.space.SpaceFault.{SpaceFault}
use Rattle.sg_action.specs.States.{State}
use Rattle.sg_actions.specs.Engine.{EngineView, EngineSeen, EngineGrows, EngineRests, IsPlaced, Logged, Logs, Stays, EngineLooks, AreBy, now_of, led}
use Rattle.sg_actions.specs.Images.{Recovering}
use Rattle.sg_actions.specs.Later.{ActsAt, LaterBy}
use Rattle.sg_actions.specs.Led.{Appended, HasLogged, LogCall, Stayed, HasStayed, LookCall}
use Rattle.sg_actions.specs.Growing.{grows_then}
use Rattle.sg_actions.specs.Steps.{Step, Steps, step_of, with_step, stepped, redo, repeated}
use Rattle.sg_actions.proofs.Sets.{steps_set, state_set}

-- a call that appends a record
pub log_call : {recovers : Recovering} {t : Table} (from : State) {a b : EngineSeen} {r : Record} {result : Result ℕ SpaceFault} → EngineGrows a b r result → Logs recovers t (led from a) (led from b) r result → LogCall recovers t (led from a) (led from b) r result
log_call {recovers} {t} from {a} {b} {r} {result} g l = record { counts = g.counts; few = g.few; did = did result g.counts.base g.counts.tells g.placed l.did; above = l.above; moments = l.moments }
  where
    did : (q : Result ℕ SpaceFault) → b.base ≡ a.base → OnOk q (a.Told → b.Told) → IfOk q (IsPlaced a b) → IfOk q (λ lsn. a.Told → Logged (led from a) (led from b) r lsn) → IfOk q (HasLogged (led from a) (led from b) r)
    did (Err f) base tells placed logged = tt
    did (Ok lsn) base tells placed logged = record {
      told = tells;
      above = placed.above;
      below = placed.below;
      tried = placed.tried;
      logged = λ told. record { number = placed.above; base = base; first = refl; steps = (logged told).steps; tail = placed.below; durable = (logged told).durable };
    }

-- and one that appends none
pub look_call : {T : Type 0} {recovers : Recovering} {t : Table} (from : State) {a b : EngineSeen} {result : Result T SpaceFault} → EngineRests a b result → EngineLooks recovers t (led from a) (led from b) result → LookCall recovers t (led from a) (led from b) result
look_call {T} {recovers} {t} from {a} {b} {result} r l = record { counts = r.counts; only_disk = r.only_disk; records = r.records; stays = stays result r.counts.base r.counts.tells r.counts.tail l.stays; moments = l.moments }
  where
    stays : (q : Result T SpaceFault) → b.base ≡ a.base → OnOk q (a.Told → b.Told) → a.tail ≤ b.tail → OnOk q (a.Told → Stays (led from a) (led from b)) → OnOk q (HasStayed (led from a) (led from b))
    stays (Err f) base tells tail h = tt
    stays (Ok x) base tells tail h = record { told = tells; stays = λ told. record { base = base; first = refl; steps = (h told).steps; tail = tail; durable = (h told).durable } }

-- one that tells at its end has appended its record
pub call_gone : {recovers : Recovering} {t : Table} (e e' : EngineView) (r : Record) (x : Step) (result : Result ℕ SpaceFault) → step_of r ≡ Some x → LogCall recovers t e e' r result → (e'.Told → e'.failed ≡ false) → e'.Told → e'.steps ≡ stepped e.steps e'.tried x
call_gone {recovers} {t} e e' r x (Ok lsn) is l whole told = (l.did.logged (l.counts.told told)).steps ∙ (ap (with_step e.steps lsn) is ∙ ap (λ (n : ℕ). stepped e.steps n x) l.did.tried)
call_gone {recovers} {t} e e' r x (Err f) is l whole told = absurd (let b : true ≡ false = sym l.counts.failed ∙ whole told in cc)

-- WHAT THE ENGINE SHOWS behind a step that changes pages or bands
pub record Made (t : Table) (e e' : EngineSeen) (x : Step) (lsn : ℕ) : Type 0 where
  pub now : e'.now ≡ redo t x e.now
  pub steps : e'.steps ≡ stepped e.steps lsn x

pub made_prop : (t : Table) (e e' : EngineSeen) (x : Step) (lsn : ℕ) → IsProp (Made t e e' x lsn)
made_prop t e e' x lsn = hlevel (props, state_set, steps_set)

-- and behind a look
pub record Same (e e' : EngineSeen) : Type 0 where
  pub now : e'.now ≡ e.now
  pub steps : e'.steps ≡ e.steps

pub same_prop : (e e' : EngineSeen) → IsProp (Same e e')
same_prop e e' = hlevel (props, state_set, steps_set)

pub made_by : {t : Table} (from : State) {e e' : EngineSeen} {x : Step} {lsn : ℕ} → e.now ≡ now_of t (led from e) → e'.now ≡ now_of t (led from e') → e'.steps ≡ stepped e.steps lsn x → Made t e e' x lsn
made_by {t} from {e} {e'} {x} {lsn} now now' steps = record { now = now' ∙ (ap (repeated t from) steps ∙ sym (ap (redo t x) now)); steps = steps }

pub same_by : (t : Table) (from : State) {e e' : EngineSeen} → e.now ≡ now_of t (led from e) → e'.now ≡ now_of t (led from e') → e'.steps ≡ e.steps → Same e e'
same_by t from {e} {e'} now now' steps = record { now = now' ∙ (ap (repeated t from) steps ∙ sym now); steps = steps }

pub made_after : {t : Table} {a b c : EngineSeen} {x : Step} {lsn : ℕ} → Same a b → Made t b c x lsn → Made t a c x lsn
made_after {t} {a} {b} {c} {x} {lsn} s m = record { now = m.now ∙ ap (redo t x) s.now; steps = m.steps ∙ ap (λ (rs : Steps). stepped rs lsn x) s.steps }

-- the same of a change that is this one
pub made_as : {t : Table} {e e' : EngineSeen} {txn last lsn : ℕ} {d c : Changing} → d ≡ c → Made t e e' (Change txn last d) lsn → Made t e e' (Change txn last c) lsn
made_as {t} {e} {e'} {txn} {last} {lsn} is m = subst (λ (x : Changing). Made t e e' (Change txn last x) lsn) is m

-- one of the tables
pub by_some : {P : Type 0} (m : Table → State → Type 0) → ∥ ((t : Table) × (from : State) × m t from) ∥₁ → IsProp P → ((t : Table) → AreBy m t → P) → P
by_some m some prop f = ∥∥₁_elim some prop (λ x. f x.0 ∣ (x.1, x.2) ∣₁)

-- what a space's records mean, by the relation that passes through its calls
pub by_later : {strict : Bool} {recovers : Table → Recovering} {limits : State → ℕ → ℕ} {t : Table} {a b : ActsAt} → LaterBy strict recovers limits t a b
    → (a.engine.Told → ∥ ((from : State) × a.means t from) ∥₁) → b.engine.Told → ∥ ((from : State) × b.means t from) ∥₁
by_later l h told = ∥∥₁_elim (h (l.told told)) ∥∥₁_prop (λ x. ∣ (x.0, l.means x.0 x.1) ∣₁)

-- AN ENGINE WITH FIRST PAGES

pub now_stays : (t : Table) {a b : EngineView} → Stayed a b → now_of t b ≡ now_of t a
now_stays t {a} {b} s = λ j. repeated t (s.first j) (s.steps j)

-- what is appended behind a look
pub logged_after : {a b c : EngineView} {r : Record} {lsn : ℕ} → Stayed a b → Appended b c r lsn → Appended a c r lsn
logged_after {a} {b} {c} {r} {lsn} s g = record {
  number = omega (arith, g.number, s.tail);
  base = g.base ∙ s.base;
  first = g.first ∙ s.first;
  steps = g.steps ∙ (λ j. with_step (s.steps j) lsn (step_of r));
  tail = g.tail;
  durable = grows_then s.durable g.durable;
}
