-- What passes through any calls of the open action, whether they failed or not.
use Rattle.std.specs.Prelude.{◌≡◌, ℕ, ◌+◌, ◌*◌, ◌≤◌, Bool, true, false, List, [], ◌∷◌, ◌++◌, length, map}
use Rattle.sg_alloc.specs.declared.maps.Maps.{Maps}
use Rattle.sg_ops.specs.Table.{Table}
use Rattle.sg_record.specs.Changes.{Change as Changing}
use Rattle.sg_recovery.specs.Chains.{next_lsn}
use Rattle.sg_recovery.specs.Formed.{IsLog}
use Rattle.sg_recovery.specs.Log.{tally, changes_of}
use Rattle.sg_recovery.specs.Log.Record.{Change}
use Rattle.sg_action.specs.Opened.{TakesTo}
use Rattle.sg_action.specs.States.{State, Kept, Change as Changed}
use Rattle.sg_before.specs.Befores.{AreFilled, IsTakenBy, written_on}
use Rattle.sg_actions.specs.Accounted.{HasAccounted}
use Rattle.sg_actions.specs.Changes.{meaning}
use Rattle.sg_actions.specs.Engine.{EngineView, EngineSeen, Moments, led}
use Rattle.sg_actions.specs.Images.{Grows, Recovering}
use Rattle.sg_actions.specs.Offed.{kept_in}
use Rattle.sg_actions.specs.Steps.{Steps, begin_of, opened, repeated}
use Rattle.sg_actions.specs.Taken.{is_set, takes_band}
use Rattle.sg_actions.specs.View.{IsKept, Since}
use Rattle.sg_actions.specs.declared.rows.Actor.{Actor}
use Rattle.sg_actions.specs.declared.rows.Row.{Row}

-- a space over an engine at one moment, with the pages and bands that its steps lead from
pub record At : Type 1 where
  pub engine : EngineView
  pub maps : Maps
  pub rows : List Row
  pub actor : Actor
  -- an action was begun: only then a change is logged
  pub begun : Bool

abbrev pub at_kept : Table → (State → ℕ → ℕ) → At → Type 0
at_kept t limits a = IsKept t limits a.engine a.maps a.rows a.actor

-- what was taken at the begin of its open action, and the pages and bands then
abbrev pub kept_at : Table → (State → ℕ → ℕ) → At → Kept
kept_at t limits a = kept_in limits t a.engine a.maps

abbrev pub begin_at : Table → At → State
begin_at t a = begin_of t a.engine.first a.engine.steps

-- EACH of these steps IS A CHANGE of the transaction, behind those before it, and with it the open action can be taken off to what was there at
-- its begin
abbrev pub AreChanges : (t : Table) → Kept → (begin first : State) → (txn : ℕ) → (made log : Steps) → Type 0
AreChanges t kept begin first txn [] log = Unit {0}
AreChanges t kept begin first txn (r ∷ made) log =
    ((previous : ℕ) × (change : Changing) × (r.is ≡ Change txn previous change))
    × (next_lsn (made ++ log) ≤ r.lsn)
    × TakesTo t kept begin (map meaning (changes_of (tally (r ∷ (made ++ log))).opened)) (repeated t first (r ∷ (made ++ log)))
    × AreChanges t kept begin first txn made log

-- the space that hasn't failed has logged these, and the open action goes on
pub record HasGone (t : Table) (limits : State → ℕ → ℕ) (a b : At) (made : Steps) : Type 0 where
  pub told : b.engine.Told
  pub kept : at_kept t limits b
  pub base : b.engine.base ≡ a.engine.base
  pub first : b.engine.first ≡ a.engine.first
  pub steps : b.engine.steps ≡ made ++ a.engine.steps
  pub durable : Grows a.engine.durable b.engine.durable
  pub txn : b.actor.txn ≡ a.actor.txn
  pub before : b.actor.before ≡ a.actor.before
  pub rows : b.rows ≡ a.rows
  -- the action is the one that was open, with what was taken at its begin
  pub same : kept_at t limits b ≡ kept_at t limits a
  pub begin : begin_at t b ≡ begin_at t a

-- WHAT HAS GONE ON from one moment to a later one: these changes were logged, or one of them was to be by the call that failed; and each image of each
-- moment has a front of the log with them, with all that was durable at first
pub record Went (recovers : Recovering) (t : Table) (limits : State → ℕ → ℕ) (a b : At) : Type 0 where
  pub made : Steps
  pub rests : a.begun ≡ false → made ≡ []
  pub are : AreChanges t (kept_at t limits a) (begin_at t a) a.engine.first a.actor.txn.0 made a.engine.steps
  pub formed : IsLog a.engine.base (made ++ a.engine.steps)
  pub moments : Moments recovers t a.engine b.engine (made ++ a.engine.steps)
  pub gone : b.engine.failed ≡ false → HasGone t limits a b made

-- what a space over an engine shows at one moment
pub record ActsAt : Type 1 where
  pub engine : EngineSeen
  -- the operations that its records are of, and the pages and bands that its steps lead from
  pub means : Table → State → Type 0
  pub maps : Maps
  pub rows : List Row
  pub actor : Actor
  pub begun : Bool

-- The same of an engine that means this, and that held `begin` when the open action began
abbrev pub acts_at : EngineSeen → (means : Table → State → Type 0) → (begin : State) → Maps → List Row → Actor → (begun : Bool) → ActsAt
acts_at e means begin maps rows actor begun = record { engine = e; means = Since means e begun begin; maps = maps; rows = rows; actor = actor; begun = begun }

abbrev pub led_at : State → ActsAt → At
led_at from a = record { engine = led from a.engine; maps = a.maps; rows = a.rows; actor = a.actor; begun = a.begun }

-- THE BANDS OF AN OPEN ACTION, by those that were taken when it began, its changes and those that are taken now: what it took it filled with
-- zeros, all of it, and before it wrote there; and it wrote on no other band than one that was taken when it began
pub record KeepsBands (t : Table) (kept : Kept) (ds : List Changed) (bands : List Bool) : Type 0 where
  pub filled : AreFilled t kept ds
  pub whole : (b : ℕ) → takes_band ds b ≡ true → IsTakenBy ds b
  pub used : (b : ℕ) → takes_band ds b ≡ true → is_set bands b ≡ true
  pub written : (b : ℕ) → written_on ds b ≡ true → is_set bands b ≡ true

abbrev pub at_bands : Table → (State → ℕ → ℕ) → At → Type 0
at_bands t limits a = KeepsBands t (kept_at t limits a) (opened a.engine.steps) a.maps.bands

-- THE RELATION that a space over an engine hands through every call with operations that mean this, wherever its steps lead from. A strict one
-- also says that the bands of the open action are kept: the bytes that an undo puts back it writes wherever they stood
pub record LaterBy (strict : Bool) (recovers : Table → Recovering) (limits : State → ℕ → ℕ) (t : Table) (a b : ActsAt) : Type 0 where
  pub told : b.engine.Told → a.engine.Told
  pub tail : a.engine.tail ≤ b.engine.tail
  pub faults : a.engine.faults ≤ b.engine.faults
  -- the log has grown by at most 16,417 bytes for each record that was counted, and the 5 of a frame's head
  pub grown : b.engine.tail + 16422 * a.engine.records ≤ a.engine.tail + 16422 * b.engine.records
  pub begun : b.begun ≡ a.begun
  pub pages : length b.maps.pages ≡ length a.maps.pages
  pub bands : length b.maps.bands ≡ length a.maps.bands
  pub accounts : HasAccounted a.engine b.engine
  -- where no action was begun no change is logged, which could pass the log's end
  pub still : a.begun ≡ false → b.engine.full ≡ a.engine.full
  -- one that has failed calls the disk no more
  pub stops : a.engine.failed ≡ true → (b.engine.failed ≡ true) × (b.engine.disk ≡ a.engine.disk)
  pub means : (from : State) → a.means t from → b.means t from
  pub goes : (from : State) → a.means t from → a.engine.Told → at_kept t limits (led_at from a) → Went (recovers t) t limits (led_at from a) (led_at from b)
  pub holds : strict ≡ true → (from : State) → a.means t from → a.engine.Told → at_kept t limits (led_at from a) → b.engine.failed ≡ false → at_bands t limits (led_at from a) → at_bands t limits (led_at from b)

abbrev pub Later : (recovers : Table → Recovering) (limits : State → ℕ → ℕ) (t : Table) (a b : ActsAt) → Type 0
Later = LaterBy false
