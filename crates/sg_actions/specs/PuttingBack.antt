-- The undo of a note: the bytes that stood where its changes wrote into bands come back, as changes of who acts.
use Rattle.std.specs.Prelude.{◌≡◌, ◌≢◌, ℕ, ◌<◌, ◌≤◌, false, List, ◌++◌, Option, Some, None, option_map}
use Rattle.sg_alloc.specs.declared.maps.Maps.{Maps}
use Rattle.sg_ops.specs.Table.{Table}
use Rattle.sg_action.specs.States.{State}
use Rattle.sg_record.specs.Changes.{Change as Changing}
use Rattle.sg_record.specs.Shown.{shown_change}
use Rattle.sg_record.specs.declared.record.BandBytes.{BandBytes as CodeBytes}
use Rattle.sg_record.specs.declared.record.Change.{Change as CodeChange}
use Rattle.sg_recovery.specs.Formed.{IsLog}
use Rattle.sg_recovery.specs.Laws.{Each}
use Rattle.sg_recovery.specs.Log.{tally, changes_of}
use Rattle.sg_recovery.specs.Log.Record.{Change}
use Rattle.sg_actions.specs.Acting.{IsChained}
use Rattle.sg_actions.specs.Counts.{Note}
use Rattle.sg_actions.specs.Engine.{EngineView, EngineSeen, Moments, now_of}
use Rattle.sg_actions.specs.Led.{HasStayed}
use Rattle.sg_actions.specs.Images.{Grows, Recovering}
use Rattle.sg_actions.specs.Later.{AreChanges}
use Rattle.sg_actions.specs.Offed.{kept_in}
use Rattle.sg_actions.specs.Steps.{Steps, step_at, begin_of}
use Rattle.sg_actions.specs.Undoing.{Hop, Stood, hop_in, hopped, Leads, with_stood, given_by, all_given_back, put_by, next_note, is_of_bytes}
use Rattle.sg_actions.specs.View.{IsKept}
use Rattle.sg_actions.specs.declared.rows.Actor.{Actor}
use Rattle.sg_actions.specs.declared.rows.Row.{Row}

-- a hop, and a part of a band, as the code hands them out
abbrev pub shown_hop : Option CodeChange × ℕ → Hop
shown_hop p = (option_map shown_change p.0, p.1)

abbrev pub shown_stood : CodeBytes → Stood
shown_stood c = (c.band.0, (c.at, c.after.now))

-- changes of the transaction alone, the last one first
abbrev pub AreOf : (txn : ℕ) → Steps → Type 0
AreOf txn made = Each (λ r. (p : ℕ) × (c : Changing) × (r.is ≡ Change txn p c)) made

-- some changes of who acts are appended, and they make this
pub record HasPutBack (t : Table) (e e' : EngineView) (txn : ℕ) (x : State) : Type 0 where
  pub first : e'.first ≡ e.first
  pub made : Steps
  pub steps : e'.steps ≡ made ++ e.steps
  pub are : AreOf txn made
  pub now : now_of t e' ≡ x

-- AN UNDO OF A NOTE HAS BEGUN: the note, where undoing goes on behind it, and the bytes of its changes back; the transaction acts
pub record UndoBegun (outside : ℕ) (t : Table) (e e' : EngineView) (rows : List Row) (actor' : Actor) (txn stop : ℕ) (note : List ℕ) (next : ℕ) : Type 0 where
  pub n : Note
  pub is_next : next_note txn stop e.steps ≡ Some n
  pub note_is : n.note ≡ note
  pub goes_on : n.undo_next ≡ next
  pub acts : actor'.txn.0 ≡ txn
  pub puts : HasPutBack t e e' txn (put_by outside note n.changes (now_of t e))
  -- where the note is none of bytes nothing was logged
  pub still : is_of_bytes note ≡ false → e'.steps ≡ e.steps
  pub notes : (tally e'.steps).notes ≡ (tally e.steps).notes
  pub chain : IsChained e'.base e'.steps e'.tail rows actor'

-- nothing of the transaction is left to undo: nobody acts, and nothing is appended
pub record NoneLeft (e e' : EngineView) (actor actor' : Actor) (txn stop : ℕ) : Type 0 where
  pub none : e.Told → next_note txn stop e.steps ≡ None
  pub stays : HasStayed e e'
  pub actor_is : actor' ≡ actor

abbrev pub UndoStepped : (outside : ℕ) → Table → (e e' : EngineView) → List Row → (actor actor' : Actor) → (txn stop : ℕ) → (note : List ℕ) → Option ℕ → Type 0
UndoStepped outside t e e' rows actor actor' txn stop note None = NoneLeft e e' actor actor' txn stop
UndoStepped outside t e e' rows actor actor' txn stop note (Some next) = e'.Told → UndoBegun outside t e e' rows actor' txn stop note next

-- the changes are logged, in an action with what was taken when it began
pub record HasUndone (t : Table) (limits : State → ℕ → ℕ) (e e' : EngineView) (maps : Maps) (rows : List Row) (actor' : Actor) (made : Steps) : Type 0 where
  pub steps : e'.steps ≡ made ++ e.steps
  pub base : e'.base ≡ e.base
  pub durable : Grows e.durable e'.durable
  pub kept : IsKept t limits e' maps rows actor'
  pub same : kept_in limits t e' maps ≡ kept_in limits t e maps
  pub begin : begin_of t e'.first e'.steps ≡ begin_of t e.first e.steps

-- WHAT AN UNDO HAS LOGGED so far, also where the call fails: changes of the transaction, in an action that begins with them, and each image of
-- each moment has a front of the log with them, with all that was durable at first
pub record MayUndo (recovers : Recovering) (t : Table) (limits : State → ℕ → ℕ) (e e' : EngineView) (maps : Maps) (rows : List Row) (actor' : Actor) (txn : ℕ) : Type 0 where
  pub made : Steps
  pub are : AreChanges t (kept_in limits t e maps) (now_of t e) e.first txn made e.steps
  pub formed : IsLog e.base (made ++ e.steps)
  pub moments : Moments recovers t e e' (made ++ e.steps)
  -- they are, where the engine still tells
  pub gone : e'.Told → HasUndone t limits e e' maps rows actor' made

-- a record of an action stands there, and the way back goes on lower
abbrev pub IsHopAt : (at : ℕ) → Option Hop → Type 0
IsHopAt at None = ⊥
IsHopAt at (Some h) = h.1 < at

abbrev pub HasHop : Steps → ℕ → Type 0
HasHop rs at = IsHopAt at (hop_in (step_at rs at))

-- WHO ACTS GOES ON with changes of its own
pub record GoesOn (e e' : EngineView) (rows : List Row) (actor actor' : Actor) : Type 0 where
  pub told : e.Told → e'.Told
  pub back : e'.Told → e.Told
  pub who : actor'.txn ≡ actor.txn
  pub chain : e.Told → IsChained e.base e.steps e.tail rows actor → IsChained e'.base e'.steps e'.tail rows actor'

-- BYTES ARE WRITTEN into a part of a band
pub record PutBytes (t : Table) (e e' : EngineView) (rows : List Row) (actor actor' : Actor) (s : Stood) : Type 0 where
  pub goes : GoesOn e e' rows actor actor'
  pub put : e.Told → HasPutBack t e e' actor.txn.0 (with_stood (Some s) (now_of t e))

-- ONE CHANGE IS PUT BACK, and the way back goes on at another record
pub record PutOne (outside : ℕ) (t : Table) (e e' : EngineView) (rows : List Row) (actor actor' : Actor) (at next : ℕ) : Type 0 where
  pub low : next < at
  pub goes : GoesOn e e' rows actor actor'
  pub hop : e.Told → (h : Hop) → hop_in (step_at e.steps at) ≡ Some h → (next ≡ h.1) × HasPutBack t e e' actor.txn.0 (given_by outside h.0 (now_of t e))

-- a way back leads there
pub record HasWay (rs : Steps) (to from : ℕ) : Type 0 where
  pub hops : List Hop
  pub leads : Leads rs to from hops

pub record CanPutBack (e : EngineSeen) (rows : List Row) (actor : Actor) (to from : ℕ) : Type 0 where
  pub chain : IsChained e.base e.steps e.tail rows actor
  pub way : HasWay e.steps to from

-- who acts is a transaction, and the way back ends no earlier than its begin
abbrev pub IsOwnWay : Actor → (to : ℕ) → Type 0
IsOwnWay actor to = (actor.txn.0 ≢ 0) × (actor.txn.0 ≤ to)

-- ALL CHANGES on a way back ARE PUT BACK
pub record PutAll (outside : ℕ) (t : Table) (e e' : EngineView) (rows : List Row) (actor actor' : Actor) (to from : ℕ) : Type 0 where
  pub goes : GoesOn e e' rows actor actor'
  pub all : e.Told → IsChained e.base e.steps e.tail rows actor → (hs : List Hop) → Leads e.steps to from hs → HasPutBack t e e' actor.txn.0 (all_given_back outside (changes_of (hopped actor.txn.0 from hs)) (now_of t e))
