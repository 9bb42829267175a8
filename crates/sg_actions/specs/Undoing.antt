-- The undo of a transaction: the walk back over its records to the last note that isn't undone.
use Rattle.std.specs.Prelude.{⊤, ◌≡◌, ℕ, ◌<◌, ◌≤◌, nat_lt, ◌==◌, if◌then◌else◌, Bool, true, slice_index_or, List, [], ◌∷◌, Option, Some, None, option_map}
use Rattle.sg_alloc.specs.declared.maps.Maps.{Maps}
use Rattle.sg_base.specs.Overwritten.{overwritten}
use Rattle.sg_action.specs.States.{State, with_one}
use Rattle.sg_record.specs.Changes.{Change as Changing}
use Rattle.sg_record.specs.Changes.Change.{Page, SegWrite, SegOp}
use Rattle.sg_recovery.specs.Log.{Open, tally, is_in, notes_of, changes_of}
use Rattle.sg_recovery.specs.Log.Record.{Begin, Change, TopEnd, PhysComp, TopVoid, CompEnd, Save, Commit, End}
use Rattle.sg_actions.specs.Acting.{IsChained}
use Rattle.sg_actions.specs.Calls.{IsAtRest}
use Rattle.sg_actions.specs.Counts.{Note}
use Rattle.sg_actions.specs.Engine.{EngineSeen}
use Rattle.sg_actions.specs.Steps.{Step, Steps, step_at}
use Rattle.sg_actions.specs.declared.rows.Actor.{Actor}
use Rattle.sg_actions.specs.declared.rows.Row.{Row}
use Rattle.sg_actions.specs.declared.undo.Found.{Found}
use Rattle.sg_actions.specs.declared.undo.Seen.{Seen}
use Rattle.sg_actions.specs.declared.undo.Seen.TheVariants as seen

-- the first of some notes, where it is behind the record at which to stop
abbrev pub first_behind : (stop : ℕ) → List Note → Option Note
first_behind stop [] = None
first_behind stop (n ∷ ns) = if nat_lt stop n.lsn then Some n else None

-- THE NOTE THAT IS UNDONE NEXT: the transaction's last one that stands, where it is behind the record at which to stop
abbrev pub next_note : (txn stop : ℕ) → Steps → Option Note
next_note txn stop rs = first_behind stop (notes_of txn (tally rs).notes)

-- where an undo goes on behind a record without a note; there is nowhere behind a begin
abbrev pub goes_to : Step → Option ℕ
goes_to (Begin t p) = None
goes_to (Change t p c) = Some p
goes_to (TopEnd t p u n) = None
goes_to (PhysComp t p u c) = Some p
goes_to (TopVoid t p u) = Some u
goes_to (CompEnd t p u) = Some u
goes_to (Save t p m) = Some p
goes_to (Commit t p) = Some p
goes_to (End t p) = Some p

-- what an undo sees at a record, with the bytes of its note
abbrev pub Sees : Step → Seen → (note : List ℕ) → Type 0
Sees x (seen.Note prev undo_next) note = (t : ℕ) × (x ≡ TopEnd t prev undo_next note)
Sees x (seen.On next) note = goes_to x ≡ Some next
Sees x seen.Begin note = (t : ℕ) × (p : ℕ) × (x ≡ Begin t p)

-- at a record that is a step it sees something
abbrev pub SeesBy : Option Step → (note : List ℕ) → Option Seen → Type 0
SeesBy None note s = ⊤
SeesBy (Some x) note None = ⊥
SeesBy (Some x) note (Some s) = Sees x s note

-- the record with this number is there, and an undo sees this at it
pub record SeesAt (rs : Steps) (at : ℕ) (note : List ℕ) (s : Seen) : Type 0 where
  pub step : Step
  pub there : step_at rs at ≡ Some step
  pub sees : Sees step s note

-- a record of an action on the way back: the change that it makes, if it doesn't take one off, and where the way goes on
abbrev pub Hop : Type 0
Hop = Option Changing × ℕ

abbrev pub hop_of : Step → Option Hop
hop_of (Begin t p) = None
hop_of (Change t p c) = Some (Some c, p)
hop_of (TopEnd t p u n) = None
hop_of (PhysComp t p u c) = Some (None, u)
hop_of (TopVoid t p u) = None
hop_of (CompEnd t p u) = None
hop_of (Save t p m) = None
hop_of (Commit t p) = None
hop_of (End t p) = None

abbrev pub hop_in : Option Step → Option Hop
hop_in None = None
hop_in (Some x) = hop_of x

-- from a record on the way back goes by these hops to the record before the action, each lower than the last
abbrev pub Leads : Steps → (border at : ℕ) → List Hop → Type 0
Leads rs border at [] = at ≡ border
Leads rs border at (h ∷ hs) = (hop_in (step_at rs at) ≡ Some h) × (border < at) × (h.1 < at) × Leads rs border h.1 hs

-- the changes that the hops pass, the last one first, each with its record's number
abbrev pub with_hop : (txn at : ℕ) → Option Changing → List (Open Changing) → List (Open Changing)
with_hop txn at None ds = ds
with_hop txn at (Some c) ds = record { lsn = at; transaction = txn; change = c } ∷ ds

abbrev pub hopped : (txn at : ℕ) → List Hop → List (Open Changing)
hopped txn at [] = []
hopped txn at (h ∷ hs) = with_hop txn at h.0 (hopped txn h.1 hs)

-- what the walk finds: the number of the note's record, the record before it, and where undoing goes on behind it. From the record before it
-- the way back passes the note's changes
pub record HasFound (rs : Steps) (txn stop : ℕ) (note : List ℕ) (f : Found) : Type 0 where
  pub n : Note
  pub next : next_note txn stop rs ≡ Some n
  pub lsn : n.lsn ≡ f.at
  pub undo_next : n.undo_next ≡ f.undo_next
  pub note_is : n.note ≡ note
  pub hops : List Hop
  pub leads : Leads rs f.undo_next f.prev hops
  pub changes : changes_of (hopped txn f.prev hops) ≡ n.changes

abbrev pub FindsNote : Steps → (txn stop : ℕ) → (note : List ℕ) → Option Found → Type 0
FindsNote rs txn stop note None = next_note txn stop rs ≡ None
FindsNote rs txn stop note (Some f) = HasFound rs txn stop note f

-- the note says that bytes of bands come back
abbrev pub is_of_bytes : (note : List ℕ) → Bool
is_of_bytes note = slice_index_or note 0 0 == 9

-- A part of a band, with the bytes that stood there, where there are some. Those of the allocation map, which are the bands before `outside`, have
-- none: what was taken and freed there is no matter of one transaction.
abbrev pub Stood : Type 0
Stood = ℕ × (ℕ × List ℕ)

abbrev pub stood_of : (outside band at : ℕ) → List ℕ → Option Stood
stood_of outside band at [] = None
stood_of outside band at (y ∷ ys) = if nat_lt band outside then None else Some (band, (at, y ∷ ys))

abbrev pub stood_in : (outside : ℕ) → Changing → Option Stood
stood_in outside (Page c) = None
stood_in outside (SegWrite c) = stood_of outside c.band c.at c.before
stood_in outside (SegOp c) = stood_of outside c.band c.at c.before

abbrev pub stood_by : (outside : ℕ) → Option Changing → Option Stood
stood_by outside None = None
stood_by outside (Some c) = stood_in outside c

-- and they are there again
abbrev pub with_stood : Option Stood → State → State
with_stood None x = x
with_stood (Some s) x = record x { bands = with_one x.bands s.0 (overwritten (x.bands s.0) s.1.0 s.1.1) }

abbrev pub given_back : (outside : ℕ) → Changing → State → State
given_back outside c x = with_stood (stood_in outside c) x

abbrev pub given_by : (outside : ℕ) → Option Changing → State → State
given_by outside c x = with_stood (stood_by outside c) x

-- THE BYTES COME BACK that stood where these changes wrote, those of the last one first. A band that was taken keeps its zeros
abbrev pub all_given_back : (outside : ℕ) → List Changing → State → State
all_given_back outside [] x = x
all_given_back outside (c ∷ cs) x = all_given_back outside cs (given_back outside c x)

-- what undoing a note does to the pages and bands before its verb is reversed
abbrev pub put_by : (outside : ℕ) → (note : List ℕ) → List Changing → State → State
put_by outside note cs x = if is_of_bytes note then all_given_back outside cs x else x

-- no action is open, the transaction goes on, and the record at which to stop isn't before its begin
pub record IsUndoable (base : ℕ) (rs : Steps) (tail : ℕ) (unfreed : Maps) (rows : List Row) (actor : Actor) (txn stop : ℕ) : Type 0 where
  pub chain : IsChained base rs tail rows actor
  pub rest : IsAtRest rs unfreed actor
  pub live : is_in txn (tally rs).live ≡ true
  pub within : txn ≤ stop

abbrev pub CanUndo : EngineSeen → Maps → List Row → Actor → (txn stop : ℕ) → Type 0
CanUndo e unfreed rows actor txn stop = e.Told → IsUndoable e.base e.steps e.tail unfreed rows actor txn stop

-- THE NUMBER OF THE NOTE that is undone next
abbrev pub IsNextUndo : EngineSeen → (txn stop : ℕ) → Option ℕ → Type 0
IsNextUndo e txn stop answer = e.Told → answer ≡ option_map (λ n. n.lsn) (next_note txn stop e.steps)
