-- The records of a transaction that are outside of its actions, and the end of an action that undid a note.
use Rattle.std.specs.Prelude.{◌≡◌, ◌≢◌, ℕ, ◌≤◌, true, List, ◌∷◌, Some}
use Rattle.sg_alloc.specs.declared.maps.Maps.{Maps}
use Rattle.sg_base.specs.declared.numbers.TxnId.{TxnId}
use Rattle.sg_ops.specs.Laws.{IsLawful}
use Rattle.sg_ops.specs.Table.{Table}
use Rattle.sg_record.specs.Records.Says.{CompEnd, Save, Commit, End}
use Rattle.sg_record.specs.Shown.{by}
use Rattle.sg_action.specs.States.{State}
use Rattle.sg_recovery.specs.Log.{tally, is_in, notes_of}
use Rattle.sg_actions.specs.Calls.{IsAtRest, AreSettled}
use Rattle.sg_actions.specs.Counts.{Note}
use Rattle.sg_actions.specs.Engine.{EngineView, EngineSeen}
use Rattle.sg_actions.specs.Led.{Appended}
use Rattle.sg_actions.specs.Rows.{last_in, HasRow, placed, rows_after, at_rest}
use Rattle.sg_actions.specs.Steps.{Steps}
use Rattle.sg_actions.specs.View.{IsKept}
use Rattle.sg_actions.specs.declared.rows.Actor.{Actor}
use Rattle.sg_actions.specs.declared.rows.Row.{Row}

-- who acts undoes its last note, behind which undoing goes on there
pub record IsUndone (rs : Steps) (actor : Actor) (txn after : ℕ) : Type 0 where
  pub acts : actor.txn.0 ≡ txn
  pub n : Note
  pub rest : List Note
  pub notes : notes_of txn (tally rs).notes ≡ n ∷ rest
  pub goes_on : n.undo_next ≡ after

abbrev pub CanEndUndo : EngineSeen → Actor → (txn after : ℕ) → Type 0
CanEndUndo e actor txn after = e.Told → IsUndone e.steps actor txn after

-- AN UNDO HAS ENDED: its end is appended, with where undoing goes on; no action is open, what it freed is no longer taken, and the space shows
-- what it showed
pub record UndoEnded (t : Table) (limits : State → ℕ → ℕ) (e e' : EngineView) (maps maps' unfreed unfreed' : Maps) (rows rows' : List Row) (actor actor' : Actor) (after : ℕ) : Type 0 where
  pub lsn : ℕ
  pub told : e.Told → e'.Told
  pub logged : e.Told → Appended e e' (by actor.txn.0 actor.last (CompEnd after)) lsn
  pub rest : actor' ≡ at_rest
  pub rows_are : rows' ≡ rows_after rows actor.txn lsn
  pub pages : AreSettled maps.pages unfreed.pages maps'.pages unfreed'.pages
  pub bands : AreSettled maps.bands unfreed.bands maps'.bands unfreed'.bands
  pub kept : IsLawful t → e.Told → IsKept t limits e maps rows actor → IsKept t limits e' maps' rows' actor'

-- no action is open, and the transaction goes on
pub record IsBetween (rs : Steps) (unfreed : Maps) (rows : List Row) (actor : Actor) (txn : ℕ) : Type 0 where
  pub rest : IsAtRest rs unfreed actor
  pub row : HasRow rows txn
  pub live : is_in txn (tally rs).live ≡ true

abbrev pub CanMark : EngineSeen → Maps → List Row → Actor → ℕ → Type 0
CanMark e unfreed rows actor txn = e.Told → IsBetween e.steps unfreed rows actor txn

-- a mark
pub record IsMark (mark : ℕ) : Type 0 where
  pub some : 1 ≤ mark
  pub most : mark ≤ 16

-- A MARK IS SET, and the transaction's last record is that of the mark
pub record Marked (t : Table) (limits : State → ℕ → ℕ) (e e' : EngineView) (maps : Maps) (rows rows' : List Row) (actor : Actor) (txn : TxnId) (mark lsn : ℕ) : Type 0 where
  pub last : ℕ
  pub was : last_in rows txn.0 ≡ Some last
  pub told : e.Told → e'.Told
  pub logged : e.Told → Appended e e' (by txn.0 last (Save mark)) lsn
  pub rows_are : rows' ≡ placed rows txn.0 (record { txn = txn; last = lsn })
  pub kept : e.Told → IsKept t limits e maps rows actor → IsKept t limits e' maps rows' actor

-- A TRANSACTION HAS COMMITTED: its commit is appended, and all records are durable. It goes on no more, and its row stays
pub record Committed (t : Table) (limits : State → ℕ → ℕ) (e e' : EngineView) (maps : Maps) (rows rows' : List Row) (actor : Actor) (txn : TxnId) : Type 0 where
  pub last : ℕ
  pub lsn : ℕ
  pub was : last_in rows txn.0 ≡ Some last
  pub told : e.Told → e'.Told
  pub logged : e.Told → Appended e e' (by txn.0 last Commit) lsn
  pub durable : e'.Told → e'.durable ≡ e'.steps
  pub rows_are : rows' ≡ placed rows txn.0 (record { txn = txn; last = lsn })
  pub kept : e.Told → IsKept t limits e maps rows actor → IsKept t limits e' maps rows' actor

-- no action is open, and the transaction has a row: it goes on, or has committed
pub record IsEndable (rs : Steps) (unfreed : Maps) (rows : List Row) (actor : Actor) (txn : ℕ) : Type 0 where
  pub rest : IsAtRest rs unfreed actor
  pub row : HasRow rows txn
  pub some : txn ≢ 0

abbrev pub CanClose : EngineSeen → Maps → List Row → Actor → ℕ → Type 0
CanClose e unfreed rows actor txn = e.Told → IsEndable e.steps unfreed rows actor txn

-- a vacant row
abbrev pub vacant : Row
vacant = record { txn = record { 0 = 0 }; last = 0 }

-- A TRANSACTION HAS ENDED: its end is appended, and its row is vacant
pub record Closed (t : Table) (limits : State → ℕ → ℕ) (e e' : EngineView) (maps : Maps) (rows rows' : List Row) (actor : Actor) (txn : TxnId) : Type 0 where
  pub last : ℕ
  pub lsn : ℕ
  pub was : last_in rows txn.0 ≡ Some last
  pub told : e.Told → e'.Told
  pub logged : e.Told → Appended e e' (by txn.0 last End) lsn
  pub rows_are : rows' ≡ placed rows txn.0 vacant
  pub room : HasRow rows' 0
  pub kept : e.Told → IsKept t limits e maps rows actor → IsKept t limits e' maps rows' actor
