-- What is known of a page engine, and what its calls do.
use Rattle.std.specs.Prelude.{◌≡◌, ◌≢◌, ◌⊎◌, ℕ, ◌+◌, ◌≤◌, ◌<◌, ◌^◌, ◌==◌, ◌||◌, ◌&&◌, not, Bool, true, false, IsTrue, List, [], ◌∷◌, ◌++◌, length, drop, Option, Some, None, Result, OnOk, IfErr}
use Rattle.sg_base.specs.Ends.{HasRisen}
use Rattle.sg_base.specs.declared.numbers.TxnId.{TxnId}
use Rattle.sg_disk.specs.Accounts.{Accounts}
use Rattle.sg_disk.specs.Disk as disk
use Rattle.sg_disk.specs.Disk.{Image, Leaves, LeavesOnly}
use Rattle.sg_ops.specs.Table.{Table as Operations}
use Rattle.sg_recovery.specs.Log.{Record, Numbered, tally, is_in, open_not_of, notes_of, Top}
use Rattle.sg_recovery.specs.Log.Record.{Begin, Change, TopEnd, PhysComp, TopVoid, CompEnd, Save, Commit, End}
use Rattle.sg_recovery.specs.Stands.{made}
use Rattle.sg_recovery.specs.Chains.{next_lsn}
use Rattle.sg_recovery.specs.Formed.{IsLog}
use Rattle.sg_recovery.specs.Alike.{TakesTo}
use Rattle.sg_join.specs.Join.{Grows, IsFront}
use Rattle.sg_space.specs.declared.space.ListFault.{ListFault}
use Rattle.sg_space.specs.declared.space.ListFault.TheVariants as lists
use Rattle.sg_space.specs.declared.space.SpaceFault.{SpaceFault}
use Rattle.sg_space.specs.declared.space.SpaceFault.TheVariants.{Disk, LogEnd}
use Rattle.sg_store.specs.declared.fault.ObjFault.{ObjFault}
use Rattle.sg_store.specs.declared.fault.ObjFault.TheVariants.{Model, Space}
use Rattle.sg_store.specs.Ground.{Ground, setting}

-- the action that was begun last: whose records it logs, and the pages at its begin
pub record Action (g : Ground) : Type 0 where
  pub transaction : ℕ
  pub pages : g.X

-- All that is known of an engine where it is known what its records mean and from which pages they lead: its disk; the number of
-- its log's first byte; the pages before the first record; the records that it appended and found, the newest first, and those of
-- them that are durable whatever comes; the number of the log's next byte; the action that was begun last; how many pages and
-- bands are free; and its count of faults
pub record View (g : Ground) : Type 0 where
  pub disk : disk.View
  pub base : ℕ
  pub first : g.X
  pub log : List (Numbered g.C g.N)
  pub durable : List (Numbered g.C g.N)
  pub tail : ℕ
  pub action : Option (Action g)
  pub free_pages : ℕ
  pub free_bands : ℕ
  pub faults : ℕ

-- how many pages and bands a store has
pub record Sizes : Type 0 where
  pub pages : ℕ
  pub bands : ℕ

-- The log of an engine on some ground, the newest record first; those of its records that are durable whatever comes; and the
-- transaction whose action was begun last, if no other call has ended it
pub record Records (g : Ground) : Type 0 where
  pub log : List (Numbered g.C g.N)
  pub durable : List (Numbered g.C g.N)
  pub acting : Option ℕ

-- WHAT AN ENGINE SHOWS, a function of its value
pub record Shown (basis : Sizes → Ground) : Type 1 where
  -- its disk tells what it holds and no call has failed, so that its log and its contents are known
  pub Told : Type 0
  pub disk : disk.View
  -- the number of the log's first byte, of its next one, and of the one where what is durable of it ends
  pub base : ℕ
  pub tail : ℕ
  pub gate : ℕ
  -- the number of the first byte that the log still has, of which a cut takes away
  pub start : ℕ
  pub free_pages : ℕ
  pub free_bands : ℕ
  pub faults : ℕ
  -- its log, as a store of these sizes
  pub records : (z : Sizes) → Records (basis z)
  -- its records are of these operations, it has these sizes, and its records lead from these pages
  pub means : Operations → (z : Sizes) → (basis z).X → Type 0

-- the log before the changes of its open action, which are its newest records
abbrev pub before_open : {C N : Type 0} → List (Numbered C N) → List (Numbered C N)
before_open log = drop (length (tally log).opened) log

abbrev pub action_of : (t : Operations) (g : Ground) → g.X → List (Numbered g.C g.N) → Option ℕ → Option (Action g)
action_of t g from log None = None
action_of t g from log (Some u) = Some (record { transaction = u; pages = made (setting t g) from (before_open log) })

-- what an engine shows whose records are of these operations and lead from these pages, as a store of these sizes
abbrev pub led : {basis : Sizes → Ground} → (t : Operations) (z : Sizes) → (basis z).X → Shown basis → View (basis z)
led {basis = basis} t z from e = record {
  disk = e.disk;
  base = e.base;
  first = from;
  log = (e.records z).log;
  durable = (e.records z).durable;
  tail = e.tail;
  action = action_of t (basis z) from (e.records z).log (e.records z).acting;
  free_pages = e.free_pages;
  free_bands = e.free_bands;
  faults = e.faults;
}

-- WHAT A CALL KEEPS: what an engine's records mean, its sizes, and from which pages its records lead
abbrev pub Keeps : {basis : Sizes → Ground} → (old new : Shown basis) → Type 0
Keeps {basis = basis} old new = (t : Operations) (z : Sizes) (from : (basis z).X) → old.means t z from → new.means t z from

-- WHAT HOLDS OF AN ENGINE that tells, whatever its records mean
abbrev pub IfMeant : {basis : Sizes → Ground} → Shown basis → ((t : Operations) (g : Ground) → View g → Type 0) → Type 0
IfMeant {basis = basis} e P = (t : Operations) (z : Sizes) (from : (basis z).X) → e.means t z from → e.Told → P t (basis z) (led t z from e)

-- A call that is given operations keeps that its records are of these
abbrev pub KeepsBy : {basis : Sizes → Ground} → Operations → (old new : Shown basis) → Type 0
KeepsBy {basis = basis} t old new = (z : Sizes) (from : (basis z).X) → old.means t z from → new.means t z from

-- WHAT A CALL DOES to an engine that tells, of whatever its records mean: this holds of what it showed and shows
abbrev pub AsMeant : {basis : Sizes → Ground} → (old new : Shown basis) → ((t : Operations) (g : Ground) → (v w : View g) → Type 0) → Type 0
AsMeant {basis = basis} old new P = (t : Operations) (z : Sizes) (from : (basis z).X) → old.means t z from → old.Told → P t (basis z) (led t z from old) (led t z from new)

-- where its records are of these operations
abbrev pub AsMeantBy : {basis : Sizes → Ground} → Operations → (old new : Shown basis) → ((g : Ground) → (v w : View g) → Type 0) → Type 0
AsMeantBy {basis = basis} t old new P = (z : Sizes) (from : (basis z).X) → old.means t z from → old.Told → P (basis z) (led t z from old) (led t z from new)

-- WHAT IS ASKED OF A CALLER: where the engine tells, its records mean something, and this holds of what it shows. From which pages
-- they lead need be known only there
pub record Asked {basis : Sizes → Ground} (e : Shown basis) (P : (t : Operations) (g : Ground) → View g → Type 0) : Type 0 where
  pub by : Operations
  pub sizes : Sizes
  pub from : e.Told → (basis sizes).X
  pub means : (told : e.Told) → e.means by sizes (from told)
  pub can : (told : e.Told) → P by (basis sizes) (led by sizes (from told) e)

-- the same where the call is given the operations: there, its records are of these
pub record AskedBy {basis : Sizes → Ground} (t : Operations) (e : Shown basis) (P : (g : Ground) → View g → Type 0) : Type 0 where
  pub sizes : Sizes
  pub from : e.Told → (basis sizes).X
  pub means : (told : e.Told) → e.means t sizes (from told)
  pub can : (told : e.Told) → P (basis sizes) (led t sizes (from told) e)

-- what its pages and bands hold: what its records make of what it found
abbrev pub pages_of : (t : Operations) (g : Ground) → View g → g.X
pages_of t g v = made (setting t g) v.first v.log

-- An image has a front of this log with all that was durable, or what is left of it once its own front is cut off: that says what
-- all of it says. And it comes to what all of these records make
pub record IsImageOf (t : Operations) (g : Ground) (v : View g) (log : List (Numbered g.C g.N)) (c : Image) : Type 0 where
  pub front : List (Numbered g.C g.N)
  pub is_front : IsFront v.durable log front
  pub left : List (Numbered g.C g.N)
  pub says : tally left ≡ tally front
  pub recovers : g.Recovers t c left (made (setting t g) v.first front)

-- The open changes are those of the action, which is taken off to pages that can't be told from those at its begin
abbrev pub IsActing : (t : Operations) (g : Ground) → View g → Option (Action g) → Type 0
IsActing t g v None = (tally v.log).opened ≡ []
IsActing t g v (Some a) = (open_not_of a.transaction (tally v.log).opened ≡ [])
    × TakesTo (setting t g) g.Alike a.pages (tally v.log).opened (pages_of t g v)

-- BETWEEN CALLS. The log is formed and ends below the tail; each image that a crash now leaves has a front of it
pub record IsEngine (t : Operations) (g : Ground) (v : View g) : Type 0 where
  pub formed : IsLog v.base v.log
  pub below : next_lsn v.log ≤ v.tail
  pub durable : Grows v.durable v.log
  pub acting : IsActing t g v v.action
  pub images : (c : Image) → Leaves v.disk.now c → IsImageOf t g v v.log c

-- no action has changes that wait for its end
abbrev pub IsIdle : {g : Ground} → View g → Type 0
IsIdle v = (tally v.log).opened ≡ []

-- an engine goes on from one call to the next
pub record GoesOn (t : Operations) (g : Ground) (old new : View g) : Type 0 where
  pub engine : IsEngine t g new
  pub base : new.base ≡ old.base
  pub first : new.first ≡ old.first
  pub tail : old.tail ≤ new.tail
  pub durable : Grows old.durable new.durable

-- A record may be appended, and in the call and after it each image has a front of the log with it, or without
pub record Appends (t : Operations) (g : Ground) (old new : View g) (r : Numbered g.C g.N) : Type 0 where
  pub above : old.tail ≤ r.lsn
  pub formed : IsLog old.base (r ∷ old.log)
  pub moments : LeavesOnly old.disk new.disk (IsImageOf t g old (r ∷ old.log))

-- and it was. No page and no band was taken or freed
pub record Appended (t : Operations) (g : Ground) (old new : View g) (r : Numbered g.C g.N) : Type 0 where
  pub goes_on : GoesOn t g old new
  pub log : new.log ≡ r ∷ old.log
  pub tail : r.lsn < new.tail
  pub pages : new.free_pages ≡ old.free_pages
  pub bands : new.free_bands ≡ old.free_bands
  pub action : new.action ≡ None

-- each of these records is a change of the transaction, and all of them are taken off to the pages at the action's begin
abbrev pub AreChanges : (t : Operations) (g : Ground) → (first : g.X) → Action g → (ds log : List (Numbered g.C g.N)) → Type 0
AreChanges t g first a [] log = Unit {0}
AreChanges t g first a (r ∷ ds) log =
    ((previous : ℕ) × (change : g.C) × (r.is ≡ Change a.transaction previous change))
    × (next_lsn (ds ++ log) ≤ r.lsn)
    × TakesTo (setting t g) g.Alike a.pages (tally (r ∷ (ds ++ log))).opened (made (setting t g) first (r ∷ (ds ++ log)))
    × AreChanges t g first a ds log

-- Some changes of the action may be appended, and in the call and after it each image has a front of the log with these
pub record Changes (t : Operations) (g : Ground) (a : Action g) (old new : View g) : Type 0 where
  pub made : List (Numbered g.C g.N)
  pub are : AreChanges t g old.first a made old.log
  pub formed : IsLog old.base (made ++ old.log)
  pub moments : LeavesOnly old.disk new.disk (IsImageOf t g old (made ++ old.log))

-- and these were
pub record Changed (t : Operations) (g : Ground) (a : Action g) (old new : View g) (made : List (Numbered g.C g.N)) : Type 0 where
  pub goes_on : GoesOn t g old new
  pub log : new.log ≡ made ++ old.log
  pub action : new.action ≡ Some a

-- nothing is appended, in the call and after it each image has a front of the log
pub record Rests (t : Operations) (g : Ground) (old new : View g) : Type 0 where
  pub moments : LeavesOnly old.disk new.disk (IsImageOf t g old old.log)

-- and nothing has changed but what is durable
pub record Rested (t : Operations) (g : Ground) (old new : View g) : Type 0 where
  pub goes_on : GoesOn t g old new
  pub log : new.log ≡ old.log
  pub action : new.action ≡ old.action
  pub pages : new.free_pages ≡ old.free_pages
  pub bands : new.free_bands ≡ old.free_bands

-- A TRANSACTION ENDS: its end may be appended, and at `Ok` it was. Or nothing is, which comes only of one that goes on no more: an engine
-- needn't know of one that had committed and not ended when it was opened
abbrev pub EndsOne : {T E : Type 0} (t : Operations) (g : Ground) → (u : ℕ) → (old new : View g) → Result T E → Type 0
EndsOne t g u old new result =
    ((lsn : ℕ) × (previous : ℕ) × Appends t g old new (record { lsn = lsn; is = End u previous })
    × OnOk result (Appended t g old new (record { lsn = lsn; is = End u previous })))
    ⊎ ((is_in u (tally old.log).live ≡ false) × Rests t g old new × OnOk result (Rested t g old new))

-- What each call keeps, on any engine: none makes the count of faults or the log's end less, none fails for the disk unless the
-- count rose, and each accounts for the disk's own counts. One that tells behind a call told before it, and it tells still unless the call failed
pub record Counts {T E : Type 0} (IsDisk : E → Type 0) {basis : Sizes → Ground} (old new : Shown basis) (result : Result T E) : Type 0 where
  pub told : new.Told → old.Told
  pub tells : OnOk result (old.Told → new.Told)
  pub tail : old.tail ≤ new.tail
  pub later : old.faults ≤ new.faults
  pub quiet : OnOk result (new.faults ≡ old.faults)
  pub failed : IfErr result (λ e. IsDisk e → HasRisen old.faults new.faults)
  pub accounts : Accounts IsDisk old.Told old.disk new.disk old.gate new.gate result

abbrev pub LOG_END : ℕ
LOG_END = 2 ^ 63

-- A record may be refused for the log's end only where it might pass that
abbrev pub IsNearEnd : (tail : ℕ) → SpaceFault → Type 0
IsNearEnd tail Disk = Unit {0}
IsNearEnd tail LogEnd = LOG_END < tail + 131072

-- the fault is one of the disk
abbrev pub IsDiskFault : SpaceFault → Type 0
IsDiskFault Disk = Unit {0}
IsDiskFault LogEnd = ⊥

abbrev pub IsObjDisk : ObjFault → Type 0
IsObjDisk (Model reason) = ⊥
IsObjDisk (Space fault) = IsDiskFault fault

-- where undoing of a transaction would go to: the last of its standing notes, or nowhere
abbrev pub IsNextUndo : {C N : Type 0} → ℕ → List (Top C N) → Option ℕ → Type 0
IsNextUndo u ns None = notes_of u ns ≡ []
IsNextUndo {C = C} {N = N} u ns (Some lsn) = (n : Top C N) × (own : List (Top C N)) × (notes_of u ns ≡ n ∷ own) × (n.lsn ≡ lsn)

-- a call that only reads isn't refused for the log's end
abbrev pub IsReadFault : ObjFault → Type 0
IsReadFault (Model reason) = Unit {0}
IsReadFault (Space fault) = IsDiskFault fault

-- an operation that is refused for its reason is no fault: an engine that told tells still, and its count is as it was
abbrev pub IsRefusedQuietly : {basis : Sizes → Ground} → (old new : Shown basis) → ObjFault → Type 0
IsRefusedQuietly old new (Model reason) = (old.Told → new.Told) × (new.faults ≡ old.faults)
IsRefusedQuietly old new (Space fault) = Unit {0}

-- of a call that lists: the fault is one of the disk
abbrev pub IsListDisk : ListFault → Type 0
IsListDisk (lists.Space fault) = IsDiskFault fault
IsListDisk lists.Memory = ⊥

-- and it isn't refused for the log's end
abbrev pub IsListRead : ListFault → Type 0
IsListRead (lists.Space fault) = IsDiskFault fault
IsListRead lists.Memory = Unit {0}

-- no transaction that goes on began before this one, and none goes on where there is none
abbrev pub IsOldest : Option TxnId → List ℕ → Type 0
IsOldest None live = (u : ℕ) → is_in u live ≡ true → ⊥
IsOldest (Some oldest) live = (u : ℕ) → is_in u live ≡ true → oldest.0 ≤ u

-- One verb's changes raise the log's tail by less: a put that splits buckets writes at most 40,755 records, each of at most 16,422
-- bytes with what a frame adds
abbrev pub VERB_BYTES : ℕ
VERB_BYTES = 2 ^ 30

-- a verb is refused for the log's end only where it can change something and its changes might pass that
abbrev pub IsVerbEnd : Bool → (tail : ℕ) → ObjFault → Type 0
IsVerbEnd changing tail (Model reason) = Unit {0}
IsVerbEnd changing tail (Space Disk) = Unit {0}
IsVerbEnd changing tail (Space LogEnd) = IsTrue changing × (LOG_END < tail + VERB_BYTES)

-- none of these is there twice
abbrev pub AreDistinct : List ℕ → Type 0
AreDistinct [] = Unit {0}
AreDistinct (n ∷ ns) = (is_in n ns ≡ false) × AreDistinct ns

-- whether a transaction goes on behind a record, or has committed and not ended
abbrev pub goes_behind : {C N : Type 0} → ℕ → Record C N → Bool → Bool
goes_behind u (Begin t p) was = t == u || was
goes_behind u (Change t p c) was = was
goes_behind u (TopEnd t p i n) was = was
goes_behind u (PhysComp t p i c) was = was
goes_behind u (TopVoid t p i) was = was
goes_behind u (CompEnd t p i) was = was
goes_behind u (Save t p m) was = was
goes_behind u (Commit t p) was = was
goes_behind u (End t p) was = was && not (u == t)

-- whether it has begun and not ended
abbrev pub is_going : {C N : Type 0} → ℕ → List (Numbered C N) → Bool
is_going u [] = false
is_going u (r ∷ rs) = goes_behind u r.is (is_going u rs)

-- WHAT THE CALLS ASK where the engine tells. It is between calls, and no action has changes that wait for their end
pub record IsAtRest (t : Operations) (g : Ground) (v : View g) : Type 0 where
  pub engine : IsEngine t g v
  pub idle : IsIdle v

-- and fewer transactions go on than may
pub record HasPlace (t : Operations) (g : Ground) (v : View g) : Type 0 where
  pub rest : IsAtRest t g v
  pub few : length (tally v.log).live < 64

-- the transaction goes on besides
pub record IsAt (u : ℕ) (t : Operations) (g : Ground) (v : View g) : Type 0 where
  pub rest : IsAtRest t g v
  pub live : is_in u (tally v.log).live ≡ true

-- and the record with this number isn't before its begin
pub record IsAtMark (u stop : ℕ) (t : Operations) (g : Ground) (v : View g) : Type 0 where
  pub rest : IsAtRest t g v
  pub live : is_in u (tally v.log).live ≡ true
  pub within : u ≤ stop

-- the last of some notes, which stands first, isn't behind the record with this number
abbrev pub NoneBehind : {C N : Type 0} → (stop : ℕ) → List (Top C N) → Type 0
NoneBehind stop [] = Unit {0}
NoneBehind stop (n ∷ ns) = n.lsn ≤ stop

-- the so many-th mark of those that a transaction may have
pub record IsMark (mark : ℕ) : Type 0 where
  pub some : 1 ≤ mark
  pub most : mark ≤ 16

-- it has begun and not ended
pub record MayEnd (u : ℕ) (t : Operations) (g : Ground) (v : View g) : Type 0 where
  pub rest : IsAtRest t g v
  pub going : is_going u v.log ≡ true

-- it goes on, or it is the system
pub record MayAct (u : ℕ) (t : Operations) (g : Ground) (v : View g) : Type 0 where
  pub rest : IsAtRest t g v
  pub live : u ≢ 0 → is_in u (tally v.log).live ≡ true

-- an action of this transaction was begun
pub record ActsFor (u : ℕ) (t : Operations) (g : Ground) (v : View g) : Type 0 where
  pub engine : IsEngine t g v
  pub action : Action g
  pub acting : v.action ≡ Some action
  pub own : action.transaction ≡ u

-- an action of this transaction was begun that undoes its last standing note, behind which undoing goes on at this number
pub record ActsBack (u after : ℕ) (t : Operations) (g : Ground) (v : View g) : Type 0 where
  pub acts : ActsFor u t g v
  pub top : Top g.C g.N
  pub rest : List (Top g.C g.N)
  pub last : notes_of u (tally v.log).notes ≡ top ∷ rest
  pub next : top.undo_next ≡ after

-- no transaction that goes on began before this one
pub record IsFirst (oldest : Option TxnId) (t : Operations) (g : Ground) (v : View g) : Type 0 where
  pub rest : IsAtRest t g v
  pub first : IsOldest oldest (tally v.log).live
