-- How a call of a store goes.
use Rattle.std.specs.Prelude.{◌≡◌, ◌⊎◌, [], ◌∷◌, Bool, sum_by, ◌+◌, ◌<◌, ◌≤◌, ℕ, true, false, IsTrue, IsOk, nat_lt, List, Vec, Option, Some, None, Result, Ok, Err}
use Rattle.sg_base.specs.declared.numbers.TxnId.{TxnId}
use Rattle.sg_base.specs.Ends.{HasRisen}
use Rattle.sg_disk.specs.Disk.{LeavesOnly}
use Rattle.sg_ops.specs.Table.{Table as Operations}
use Rattle.sg_serial.specs.Locks.{first_holder}
use Rattle.sg_serial.specs.Runs.{is_live}
use Rattle.sg_model.specs.declared.stop.Stop.TheVariants as stops
use Rattle.sg_model.specs.Verb.{Op}
use Rattle.sg_model.specs.Step.{step, is_changing}
use Rattle.sg_model.specs.Touches.{touches, conflict}
use Rattle.sg_run.specs.Numbers as numbers
use Rattle.sg_run.specs.Numbers.{NEW_WORK_END, IsGranted}
use Rattle.sg_store.specs.Refusals.{said_number, said_done, said_save, said_back, said_outcome, said_words}
use Rattle.sg_run.specs.Run.{Run, MOST_HELD, committed, did, with_locks, held_with, live_objects, committed_objects}
use Rattle.sg_store.specs.declared.fault.MarkRefused.{MarkRefused}
use Rattle.sg_store.specs.declared.fault.Refused.{Refused}
use Rattle.sg_store.specs.declared.fault.Refused.TheVariants as refusals
use Rattle.sg_store.specs.declared.fault.Needed.{Needed}
use Rattle.sg_model.specs.declared.op.Reply as code_reply
use Rattle.sg_model.specs.SaidReplies.{said_reply}
use Rattle.sg_core.specs.Live.{Txn}
use Rattle.sg_core.specs.Live as core
use Rattle.sg_store.specs.Verbs.{Reads, HasNeed}
use Rattle.sg_store.specs.Ground.{Ground, setting}
use Rattle.sg_store.specs.Engine.{View, Sizes, Shown, KeepsBy, AsMeantBy, NoneBehind, pages_of}
use Rattle.sg_store.specs.Room.{ArePagesLeft, AreBandsLeft, LeadsStock, BacksStock, FreesStock, is_of, is_behind}
use Rattle.sg_store.specs.Accounting.{Unfailed}
use Rattle.sg_store.specs.Stands.{StandsFor, StandsForFirst}
use Rattle.sg_store.specs.Store.{Core, AreReserved, IsKept, IsUndoing, IsLeaving, HasNone, Shows}
use Rattle.sg_recovery.specs.Log.{Top, tally, notes_of}
use Rattle.sg_space.specs.declared.space.SpaceFault.{SpaceFault}

-- A store that shows x goes on to a run that is related so, and shows that. In the call and after it a crash leaves what stands
-- for the commits from before it, or with its own
pub record Goes (t : Operations) (g : Ground) (v : View g) (x : Run) (Line : Run → Type 0) (w : View g) (m : Core) : Type 0 where
  pub after : Run
  pub goes : Line after
  pub shows : Shows t g w m after
  pub moments : LeavesOnly v.disk w.disk (StandsForFirst t g x.so_far.answered after)

-- What each call is answered, and the run after it

abbrev pub Begins : (tail before now : ℕ) → (name : List ℕ) → Run → Result TxnId Refused → Run → Type 0
Begins tail before now name x r y = numbers.Begins tail before now name x (said_number r) y

abbrev pub Commits : (tail before now : ℕ) → (u : ℕ) → Run → Result (Unit {0}) Refused → Run → Type 0
Commits tail before now u x r y = numbers.Commits tail before now u x (said_done r) y

abbrev pub Aborts : (tail before now : ℕ) → (u : ℕ) → Run → Result (Unit {0}) Refused → Run → Type 0
Aborts tail before now u x r y = numbers.Aborts tail before now u x (said_done r) y

abbrev pub Saves : (tail before now : ℕ) → (u : ℕ) → Run → Result ℕ MarkRefused → Run → Type 0
Saves tail before now u x r y = numbers.Saves tail before now u x (said_save r) y

abbrev pub RollsBack : (tail before now : ℕ) → (u mark : ℕ) → Run → Result (Unit {0}) MarkRefused → Run → Type 0
RollsBack tail before now u mark x r y = numbers.RollsBack tail before now u mark x (said_back r) y

abbrev pub Flushes : (before now : ℕ) → Run → Result (Unit {0}) Refused → Run → Type 0
Flushes before now x r y = numbers.Flushes before now x (said_done r) y

abbrev pub Checkpoints : (tail before now : ℕ) → Run → Result (Unit {0}) Refused → Run → Type 0
Checkpoints tail before now x r y = numbers.Checkpoints tail before now x (said_done r) y

abbrev pub Does : (t : Operations) → (begin tail before now : ℕ) → (u : ℕ) → Op → Run → (into : List ℕ) → Result code_reply.Reply Refused → Run → Type 0
Does t begin tail before now u op x into r y = numbers.Does t begin tail before now u op x (said_outcome into r) y

-- a list of keys or names
abbrev pub Lists : {A : Type 0} → (t : Operations) → (begin tail before now : ℕ) → (u : ℕ) → Op → Run → Result (Vec (List ℕ) A) Refused → Run → Type 0
Lists t begin tail before now u op x r y = numbers.Does t begin tail before now u op x (said_words r) y

-- A part of a call: in it and after it each image stands for the committed objects
abbrev pub Stays : (t : Operations) (g : Ground) → (v w : View g) → Run → Type 0
Stays t g v w x = LeavesOnly v.disk w.disk (λ c. StandsFor t g c (committed_objects t x))

-- the store has stopped for a fault of the disk, and nothing else of it has changed
abbrev pub Broke : {g : Ground} → (v w : View g) → (k m : Core) → Type 0
Broke v w k m = (m ≡ record k { stopped = Some stops.Disk }) × HasRisen v.faults w.faults

-- an operation was granted what it touches, or not
abbrev pub Holds : (t : Operations) (g : Ground) → (v w : View g) → (k m : Core) → Run → ℕ → Op → Result (Unit {0}) Refused → Type 0
Holds t g v w k m x u op (Ok done) = IsKept t g w k.live x × IsGranted t x u op
    × (m ≡ record k { held = (with_locks t x u op).so_far.held })
Holds t g v w k m x u op (Err (refusals.Busy holder)) = IsKept t g w k.live x
    × (first_holder conflict u (touches (live_objects t x) op) x.so_far.held ≡ Some holder.0) × (m ≡ k)
Holds t g v w k m x u op (Err refusals.LocksFull) = IsKept t g w k.live x
    × (first_holder conflict u (touches (live_objects t x) op) x.so_far.held ≡ None)
    × (nat_lt MOST_HELD (held_with t x u op) ≡ true) × (m ≡ k)
Holds t g v w k m x u op (Err refusals.DiskFault) = Broke v w k m
Holds t g v w k m x u op (Err other) = ⊥

-- there is room for an operation: it gets a reply here, and what it needs is free beside what is reserved
pub record HasRoom (t : Operations) (g : Ground) (w : View g) (txns : List Txn) (x : Run) (op : Op) (needs : Needed) : Type 0 where
  pub is_kept : IsKept t g w txns x
  pub reading : g.O
  pub reads : Reads t g w reading
  pub need : HasNeed t g reading op needs
  pub pages : (needs.pages ≡ 0) ⊎ (sum_by (λ k. k.reserved) txns + needs.pages ≤ w.free_pages)
  pub bands : needs.bands ≤ w.free_bands

-- The numbers of a refusal for want of room: what is free, which is what the objects leave; what the live transactions have reserved; and what the
-- operation needs here
pub record ArePages (t : Operations) (g : Ground) (v : View g) (txns : List Txn) (op : Op) (free reserved need : ℕ) : Type 0 where
  pub is_free : free ≡ v.free_pages
  pub is_left : ArePagesLeft t g v free
  pub are_reserved : reserved ≡ sum_by (λ k. k.reserved) txns
  pub is_needed : (o : g.O) → g.reading (pages_of t g v) ≡ Some o → need ≡ (g.needs t o op).pages

pub record AreBands (t : Operations) (g : Ground) (v : View g) (op : Op) (free need : ℕ) : Type 0 where
  pub is_free : free ≡ v.free_bands
  pub is_left : AreBandsLeft t g v free
  pub is_needed : (o : g.O) → g.reading (pages_of t g v) ≡ Some o → need ≡ (g.needs t o op).bands

-- from one call of the engine to the next the log and the pages are the same, and as much is free
pub record SameRoom (t : Operations) (g : Ground) (v w : View g) : Type 0 where
  pub reads : (o : g.O) → g.reading (pages_of t g v) ≡ Some o → g.reading (pages_of t g w) ≡ Some o
  pub first : w.first ≡ v.first
  pub log : w.log ≡ v.log
  pub pages : w.free_pages ≡ v.free_pages
  pub bands : w.free_bands ≡ v.free_bands

-- enough pages were free for an operation, beside what is reserved, and enough bands
abbrev pub HadPages : (t : Operations) (g : Ground) → (v : View g) → List Txn → Op → Type 0
HadPages t g v txns op = (o : g.O) → g.reading (pages_of t g v) ≡ Some o → ((g.needs t o op).pages ≡ 0)
    ⊎ (sum_by (λ k. k.reserved) txns + (g.needs t o op).pages ≤ v.free_pages)

pub record HadRoom (t : Operations) (g : Ground) (v : View g) (txns : List Txn) (op : Op) : Type 0 where
  pub pages : HadPages t g v txns op
  pub bands : (o : g.O) → g.reading (pages_of t g v) ≡ Some o → (g.needs t o op).bands ≤ v.free_bands

-- THE ROOM AT A CALL'S BEGIN: a reply, and a refusal for the log's end, say that there was enough, and a refusal for want of it how much
abbrev pub Numbers : (t : Operations) (g : Ground) → View g → List Txn → Op → Result code_reply.Reply Refused → Type 0
Numbers t g v txns op (Ok reply) = HadRoom t g v txns op
Numbers t g v txns op (Err (refusals.NoSpace free reserved need)) = ArePages t g v txns op free reserved need
Numbers t g v txns op (Err (refusals.NoBands free need)) = HadPages t g v txns op × AreBands t g v op free need
Numbers t g v txns op (Err refusals.LogEnd) = HadRoom t g v txns op
Numbers t g v txns op (Err other) = Unit {0}

-- there is, or the operation is refused
abbrev pub Rooms : (t : Operations) (g : Ground) → (v w : View g) → (k m : Core) → Run → Op → Result Needed Refused → Type 0
Rooms t g v w k m x op (Ok needs) = HasRoom t g w k.live x op needs × (m ≡ k)
Rooms t g v w k m x op (Err (refusals.Model reason)) = IsKept t g w k.live x × ((step t (live_objects t x) op).0 ≡ Err reason) × (m ≡ k)
Rooms t g v w k m x op (Err (refusals.NoSpace free reserved need)) = IsKept t g w k.live x × IsOk (step t (live_objects t x) op).0
    × (0 < need) × (free < reserved + need) × (m ≡ k) × ArePages t g v k.live op free reserved need
Rooms t g v w k m x op (Err (refusals.NoBands free need)) = IsKept t g w k.live x × IsOk (step t (live_objects t x) op).0
    × (free < need) × (m ≡ k) × (HadPages t g v k.live op × AreBands t g v op free need)
Rooms t g v w k m x op (Err refusals.LogEnd) = IsKept t g w k.live x × IsOk (step t (live_objects t x) op).0
    × IsTrue (is_changing op) × (NEW_WORK_END < w.tail) × (m ≡ k) × HadRoom t g v k.live op
Rooms t g v w k m x op (Err refusals.DiskFault) = Broke v w k m
Rooms t g v w k m x op (Err other) = ⊥

-- an operation for which there is room was done
abbrev pub Acts : (t : Operations) (g : Ground) → (v w : View g) → (k m : Core) → Run → ℕ → Op → (into : List ℕ)
    → Result code_reply.Reply Refused → Type 0
Acts t g v w k m x u op into (Ok reply) = IsKept t g w m.live (did t x u op)
    × ((step t (live_objects t x) op).0 ≡ Ok (said_reply into reply)) × (m ≡ record k { live = m.live })
    × LeadsStock t g v w (live_objects t x) u op
Acts t g v w k m x u op into (Err refusals.DiskFault) = Broke v w k m
Acts t g v w k m x u op into (Err refusals.LogEnd) = m ≡ record k { stopped = Some stops.LogEnd }
Acts t g v w k m x u op into (Err other) = ⊥

-- the last action of a transaction that stood was undone, or none stood
abbrev pub Undid : (t : Operations) (g : Ground) → (v w : View g) → List Txn → Run → (u at : ℕ) → Result (Option ℕ) SpaceFault → Type 0
Undid t g v w txns x u at (Ok None) = IsUndoing t g w txns x u 0 at × (notes_of u (tally w.log).notes ≡ []) × BacksStock t g v w (is_of u)
Undid t g v w txns x u at (Ok (Some after)) = IsUndoing t g w txns x u 0 after × BacksStock t g v w (is_of u)
Undid t g v w txns x u at (Err fault) = Unit {0}

-- A NOTE WAS UNDONE, the last of its transaction's that stood: the others' stand, and those below it
pub record TookNote (t : Operations) (g : Ground) (v w : View g) (u : ℕ) (note : List ℕ) : Type 0 where
  pub last : Top g.C g.N
  pub own : List (Top g.C g.N)
  pub was : notes_of u (tally v.log).notes ≡ last ∷ own
  pub said : g.note note ≡ last.note
  pub left : notes_of u (tally w.log).notes ≡ own
  pub others : (n : ℕ) → (n ≡ u → ⊥) → notes_of n (tally w.log).notes ≡ notes_of n (tally v.log).notes

-- nothing that a transaction did stands any more
pub record IsUndone (t : Operations) (g : Ground) (w : View g) (txns : List Txn) (x : Run) (u : ℕ) : Type 0 where
  pub at : ℕ
  pub undoing : IsUndoing t g w txns x u 0 at
  pub none : notes_of u (tally w.log).notes ≡ []

-- the last action of a transaction behind the record with a number was undone, or none stood there
abbrev pub UndidTo : (t : Operations) (g : Ground) → (v w : View g) → List Txn → Run → (u stop at : ℕ) → (note : List ℕ) → Result (Option ℕ) SpaceFault → Type 0
UndidTo t g v w txns x u stop at note (Ok None) = IsUndoing t g w txns x u (stop + 1) at × NoneBehind stop (notes_of u (tally w.log).notes)
    × ((tally w.log).notes ≡ (tally v.log).notes) × BacksStock t g v w (is_behind u stop)
UndidTo t g v w txns x u stop at note (Ok (Some after)) = IsUndoing t g w txns x u (stop + 1) after × TookNote t g v w u note × BacksStock t g v w (is_behind u stop)
UndidTo t g v w txns x u stop at note (Err fault) = Unit {0}

-- nothing that a transaction did behind the record with a number stands any more, and each has reserved what its notes want
pub record IsBack (t : Operations) (g : Ground) (w : View g) (txns : List Txn) (x : Run) (u stop : ℕ) : Type 0 where
  pub at : ℕ
  pub undoing : IsUndoing t g w txns x u (stop + 1) at
  pub reserved : AreReserved (setting t g) txns (tally w.log).notes
  pub none : NoneBehind stop (notes_of u (tally w.log).notes)

-- A GOING BACK SO FAR, from an engine and some live transactions on, of which this one has given back what it had reserved for what was undone
pub record IsBackSince (t : Operations) (g : Ground) (lawful : Type 0) (v w : View g) (before now : List Txn) (u stop at : ℕ) : Type 0 where
  pub stays : (x : Run) → lawful → IsKept t g v before x → is_live x.so_far.live u ≡ true → Stays t g v w x
  pub undoing : (x : Run) → lawful → IsKept t g v before x → is_live x.so_far.live u ≡ true → IsUndoing t g w now x u (stop + 1) at
  pub reserved : (x : Run) → lawful → IsKept t g v before x → is_live x.so_far.live u ≡ true → AreReserved (setting t g) now (tally w.log).notes
  pub stock : (x : Run) → lawful → IsKept t g v before x → is_live x.so_far.live u ≡ true → BacksStock t g v w (is_behind u stop)

-- an undoing so far, from an engine and some live transactions on
pub record IsUndoingSince (t : Operations) (g : Ground) (lawful : Type 0) (v w : View g) (before now : Core) (u at : ℕ) : Type 0 where
  pub stays : (x : Run) → lawful → IsKept t g v before.live x → is_live x.so_far.live u ≡ true → Stays t g v w x
  pub undoing : (x : Run) → lawful → IsKept t g v before.live x → is_live x.so_far.live u ≡ true → IsUndoing t g w before.live x u 0 at
  pub stock : (x : Run) → lawful → IsKept t g v before.live x → is_live x.so_far.live u ≡ true → BacksStock t g v w (is_of u)
  pub later : v.faults ≤ w.faults
  pub tail : v.tail ≤ w.tail
  pub same : now ≡ before

-- something that a transaction dropped which has committed was freed, and the log grew; or nothing was left
abbrev pub Frees : (t : Operations) (g : Ground) → (v w : View g) → List Txn → Run → ℕ → Bool → Type 0
Frees t g v w txns x u true = IsLeaving t g w txns x u × (v.tail < w.tail) × FreesStock t g v w u
Frees t g v w txns x u false = IsLeaving t g w txns x u × HasNone t g w u × FreesStock t g v w u

-- the greatest number of 64 bits
abbrev pub MOST : ℕ
MOST = 18446744073709551615

-- some of it was freed, from an engine and some live transactions on; so many bytes more can have a number
pub record IsLeavingSince (t : Operations) (g : Ground) (lawful : Type 0) (v w : View g) (before now : Core) (u left : ℕ) : Type 0 where
  pub stays : (x : Run) → lawful → IsLeaving t g v before.live x u → Stays t g v w (committed x u)
  pub leaving : (x : Run) → lawful → IsLeaving t g v before.live x u → IsLeaving t g w before.live x u
  pub stock : (x : Run) → lawful → IsLeaving t g v before.live x u → FreesStock t g v w u
  pub later : v.faults ≤ w.faults
  pub tail : v.tail ≤ w.tail
  pub sum : left + w.tail ≡ MOST
  pub same : now ≡ before

-- A LOOP SO FAR, from an engine and a store without one on: what each pass keeps, and what has been done
pub record Since {basis : Sizes → Ground} (t : Operations) (old now : Shown basis) (before after : Core) (P : (g : Ground) → (v w : View g) → Type 0) : Type 0 where
  pub means : KeepsBy t old now
  pub told : now.Told → old.Told
  pub tells : old.Told → now.Told
  pub later : old.faults ≤ now.faults
  pub quiet : now.faults ≡ old.faults
  pub tail : old.tail ≤ now.tail
  pub accounts : Unfailed old now
  pub same : after ≡ before
  pub done : AsMeantBy t old now P

-- and one in which a live transaction gives back what it has reserved
pub record GivesSince {basis : Sizes → Ground} (t : Operations) (old now : Shown basis) (before after : Core) (u : ℕ) (P : (g : Ground) → (v w : View g) → Type 0) : Type 0 where
  pub means : KeepsBy t old now
  pub told : now.Told → old.Told
  pub tells : old.Told → now.Told
  pub later : old.faults ≤ now.faults
  pub quiet : now.faults ≡ old.faults
  pub tail : old.tail ≤ now.tail
  pub accounts : Unfailed old now
  pub same : after ≡ record before { live = after.live }
  pub live : core.is_live after.live u ≡ true
  pub done : AsMeantBy t old now P
