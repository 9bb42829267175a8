-- OPENING'S LAST STEPS: what a store's log and pages stand for while its losers are undone and ended.
use Rattle.std.specs.Prelude.{nat_lt, if◌then◌else◌, ◌≡◌, ◌⊎◌, ◌≤◌, ◌<◌, ℕ, Bool, true, false, List, [], ◌∷◌, ◌++◌, map, Option, Some, None}
use Rattle.std.specs.FinMap.{get}
use Rattle.sg_disk.specs.Disk.{Image, Leaves, LeavesOnly}
use Rattle.sg_ops.specs.Table.{Table as Operations}
use Rattle.sg_base.specs.declared.numbers.TxnId.{TxnId}
use Rattle.sg_model.specs.Objects.{Objects}
use Rattle.sg_recovery.specs.Setting.{Setting}
use Rattle.sg_recovery.specs.Log.{Top, Numbered, tally, notes_of, is_in}
use Rattle.sg_recovery.specs.Laws.{Each}
use Rattle.sg_recovery.specs.Stands.{all_off, made, settled, StandsFor as LogStands}
use Rattle.sg_recovery.specs.Opens.{AreOpening}
use Rattle.sg_recovery.specs.Claims.{Log}
use Rattle.sg_recovery.specs.Chains.{next_lsn, last_of, border_of}
use Rattle.sg_recovery.specs.Formed.{IsLog}
use Rattle.sg_join.specs.Join.{Grows}
use Rattle.sg_room.specs.Marks.{Marks}
use Rattle.sg_room.specs.Steps.{undone_all}
use Rattle.sg_store.specs.Ground.{Ground, IsLawful, setting}
use Rattle.sg_store.specs.Engine.{View, IsEngine, IsIdle, pages_of, IsImageOf, IsDiskFault, IsNearEnd}
use Rattle.sg_store.specs.Room.{step_of, ShowsStock}
use Rattle.sg_starting.specs.declared.losers.Greatest.{Greatest}
use Rattle.sg_starting.specs.declared.opening.StartFault.{StartFault}
use Rattle.sg_starting.specs.declared.opening.StartFault.TheVariants.{Space, Broken, Memory}
use Rattle.sg_store.specs.Stands.{StandsFor}

-- the log has come from the one that was found, by steps of an opening
pub record OpensTo (s : Setting) (pages : s.X) (down log : Log s) : Type 0 where
  pub more : Log s
  pub all : log ≡ more ++ down
  pub steps : AreOpening s pages more down

-- what is left of marks once these notes are undone, the first of them first
abbrev pub marks_left : (g : Ground) → List (Top g.C g.N) → Marks → Marks
marks_left g notes m = undone_all (map (step_of g) notes) m

-- the marks of the objects are these, and the most rows that the catalogue had
pub record AreKept (now before : Marks) : Type 0 where
  pub live : now.live ≡ before.live
  pub rows : now.rows ≡ before.rows

-- The undoing of what stands leaves of the pages' marks what the undoing of the notes that were found leaves of the marks found, but for what is buried
abbrev pub KeepsMarks : (t : Operations) (g : Ground) → View g → (down : Log (setting t g)) → Type 0
KeepsMarks t g v down = (o p : g.O) → settled (setting t g) (tally down).opened (made (setting t g) v.first down) ≡ Some o → g.reading (pages_of t g v) ≡ Some p
    → AreKept (marks_left g (tally v.log).notes (g.marks p)) (marks_left g (tally down).notes (g.marks o))

-- A STORE BEING OPENED, between actions: the log that was found, with its pages, stood for these objects, and is durable; and it went on by
-- steps of an opening. Each page is free that the reading doesn't reach
pub record IsStarting (t : Operations) (g : Ground) (v : View g) (down : Log (setting t g)) (m : Objects) : Type 0 where
  pub engine : IsEngine t g v
  pub idle : IsIdle v
  pub opens : OpensTo (setting t g) v.first down v.log
  pub found : Grows down v.durable
  pub stood : LogStands (setting t g) v.first down m
  pub free : (o : g.O) → g.reading (pages_of t g v) ≡ Some o → v.free_pages ≡ g.free o
  pub marks : KeepsMarks t g v down

-- EACH IMAGE OF EACH MOMENT of a call stands for these objects
abbrev pub AllStandFor : (t : Operations) (g : Ground) → (old new : View g) → Objects → Type 0
AllStandFor t g old new m = LeavesOnly old.disk new.disk (λ c. StandsFor t g c m)

-- each standing note is below a number
abbrev pub AreBelow : {C N : Type 0} → ℕ → List (Top C N) → Type 0
AreBelow at ns = Each (λ n. n.lsn < at) ns

-- a number is that of one of these transactions
abbrev pub IsAmong : ℕ → List TxnId → Type 0
IsAmong u [] = ⊥
IsAmong u (x ∷ xs) = (u ≡ x.0) ⊎ IsAmong u xs

-- each transaction that goes on is one of these
abbrev pub AreLosers : List ℕ → List TxnId → Type 0
AreLosers live losers = (u : ℕ) → is_in u live ≡ true → IsAmong u losers

-- nothing is left to undo
abbrev pub IsUndone : {g : Ground} → View g → Type 0
IsUndone v = (tally v.log).notes ≡ []

-- the greater of what was found so far and of a transaction's next note
abbrev pub greater : Option Greatest → TxnId → Option ℕ → Option Greatest
greater best txn None = best
greater None txn (Some lsn) = Some (record { txn = txn; lsn = lsn })
greater (Some b) txn (Some lsn) = if nat_lt b.lsn lsn then Some (record { txn = txn; lsn = lsn }) else Some b

-- The greatest last note of these transactions, if one has any
abbrev pub IsBest : {C N : Type 0} → List (Top C N) → List TxnId → Option Greatest → Type 0
IsBest ns losers None = (u : ℕ) → IsAmong u losers → notes_of u ns ≡ []
IsBest {C = C} {N = N} ns losers (Some b) = ((n : Top C N) × (own : List (Top C N)) × (notes_of b.txn.0 ns ≡ n ∷ own) × (n.lsn ≡ b.lsn))
    × ((u : ℕ) → IsAmong u losers → (n : Top C N) (own : List (Top C N)) → notes_of u ns ≡ n ∷ own → n.lsn ≤ b.lsn)

-- WHAT THE PAGE ENGINE'S OPENING GIVES: as an engine between calls, but an action may have changes that wait for their end, and all of the
-- log is durable
pub record IsFound (t : Operations) (g : Ground) (v : View g) : Type 0 where
  pub formed : IsLog v.base v.log
  pub below : next_lsn v.log ≤ v.tail
  pub durable : v.durable ≡ v.log
  pub images : (c : Image) → Leaves v.disk.now c → IsImageOf t g v v.log c

-- the pages read as this once what the unfinished action did is taken off
abbrev pub IsRead : (t : Operations) (g : Ground) (v : View g) → g.O → Type 0
IsRead t g v o = settled (setting t g) (tally v.log).opened (pages_of t g v) ≡ Some o

-- no action is without an end: the last record of each transaction ends one, or is none of an action
abbrev pub AreEnded : {C N : Type 0} → List (Numbered C N) → Type 0
AreEnded log = (u : ℕ) → last_of u log ≡ border_of u log

-- THE UNFINISHED ACTION IS TAKEN OFF, also where the call fails: by phys-comps and a top-void, in the call and after it each image has a front
-- of the log with these. Where no action is without an end there are none
pub record TakesOff (t : Operations) (g : Ground) (old new : View g) : Type 0 where
  pub made : Log (setting t g)
  pub steps : AreOpening (setting t g) old.first made old.log
  pub formed : IsLog old.base (made ++ old.log)
  pub moments : LeavesOnly old.disk new.disk (IsImageOf t g old (made ++ old.log))
  pub owed : AreEnded old.log → made ≡ []

-- and it was: the pages read as they do without it, and the same notes stand. Each page is free then that the reading doesn't reach
pub record TakenOff (t : Operations) (g : Ground) (old new : View g) (made : Log (setting t g)) : Type 0 where
  pub engine : IsEngine t g new
  pub first : new.first ≡ old.first
  pub log : new.log ≡ made ++ old.log
  pub durable : Grows old.durable new.durable
  pub idle : IsIdle new
  pub live : (tally new.log).live ≡ (tally old.log).live
  pub notes : (tally new.log).notes ≡ (tally old.log).notes
  pub reads : (o : g.O) → IsRead t g old o → g.reading (pages_of t g new) ≡ Some o
  pub free : (o : g.O) → g.reading (pages_of t g new) ≡ Some o → new.free_pages ≡ g.free o

-- something was freed, of which the log has a record, or nothing is buried
abbrev pub HasFreed : (t : Operations) (g : Ground) → (old new : View g) → Bool → Type 0
HasFreed t g old new true = old.tail < new.tail
HasFreed t g old new false = (p : g.O) → g.reading (pages_of t g new) ≡ Some p → g.buried p ≡ 0

-- at most so many are buried
abbrev pub AreBuried : (t : Operations) (g : Ground) → View g → ℕ → Type 0
AreBuried t g v most = (o : g.O) → g.reading (pages_of t g v) ≡ Some o → g.buried o ≤ most

-- THE STOCK THAT AN OPENED STORE BEGINS WITH, of pages that read as this once the unfinished action is taken off: of each object it has the
-- greatest size that this had then, as an object or buried, and the most rows of the catalogue, as the undoing of the notes leaves them. Nothing is
-- buried, and nothing is kept for undoing
pub record BeginsStock (t : Operations) (g : Ground) (found : g.O) (notes : List (Top g.C g.N)) (w : View g) : Type 0 where
  pub marks : Marks
  pub shows : ShowsStock t g w (record { marks = marks; steps = [] })
  pub kept : AreKept marks (marks_left g notes (g.marks found))
  pub none : (key : List ℕ) → get marks.graves key ≡ None

-- no transaction goes on, and nothing is left to undo
pub record IsSettled {g : Ground} (v : View g) : Type 0 where
  pub undone : (tally v.log).notes ≡ []
  pub over : (tally v.log).live ≡ []

-- the same the other way round: the transactions that go on, in the order of their begins
abbrev pub oldest_first : List ℕ → List ℕ
oldest_first [] = []
oldest_first (t ∷ ts) = oldest_first ts ++ t ∷ []

-- each of these transactions goes on
abbrev pub AreLive : List ℕ → List TxnId → Type 0
AreLive live losers = (u : ℕ) → IsAmong u losers → is_in u live ≡ true

-- none of these is there twice
abbrev pub AreApart : List TxnId → Type 0
AreApart [] = Unit {0}
AreApart (x ∷ xs) = (IsAmong x.0 xs → ⊥) × AreApart xs

-- WHAT IS ASKED OF A CALLER where the engine tells. It is being opened
pub record Opening (t : Operations) (g : Ground) (v : View g) : Type 0 where
  pub lawful : IsLawful t g
  pub down : Log (setting t g)
  pub objects : Objects
  pub starts : IsStarting t g v down objects

-- and these transactions go on
pub record OpeningOver (losers : List TxnId) (t : Operations) (g : Ground) (v : View g) : Type 0 where
  pub opening : Opening t g v
  pub live : AreLive (tally v.log).live losers

-- and they are all that go on
pub record OpeningWith (losers : List TxnId) (t : Operations) (g : Ground) (v : View g) : Type 0 where
  pub over : OpeningOver losers t g v
  pub cover : AreLosers (tally v.log).live losers
  pub apart : AreApart losers

-- the greatest standing note of all is this transaction's
pub record OpeningAt (u : ℕ) (t : Operations) (g : Ground) (v : View g) : Type 0 where
  pub opening : Opening t g v
  pub top : Top g.C g.N
  pub rest : List (Top g.C g.N)
  pub notes : (tally v.log).notes ≡ top ∷ rest
  pub own : top.transaction ≡ u

-- nothing is left to undo, and these transactions go on, each once
pub record OpeningUndone (losers : List TxnId) (t : Operations) (g : Ground) (v : View g) : Type 0 where
  pub over : OpeningOver losers t g v
  pub apart : AreApart losers
  pub undone : IsUndone v

-- and no transaction goes on
pub record OpeningSettled (t : Operations) (g : Ground) (v : View g) : Type 0 where
  pub opening : Opening t g v
  pub settled : IsSettled v

-- WHAT IS ASKED OF THE OPENING OF A PAGE ENGINE: its end, and that what the unfinished action did can be taken off
pub record CanResume (t : Operations) (g : Ground) (v : View g) : Type 0 where
  pub found : IsFound t g v
  pub off : (x : g.X) × (all_off (setting t g) (tally v.log).opened (pages_of t g v) ≡ Some x)

-- and where its pages read as objects then, its log stands for some
pub record IsOpened (t : Operations) (g : Ground) (v : View g) : Type 0 where
  pub can : CanResume t g v
  pub stood : (o : g.O) → IsRead t g v o → ((m : Objects) × LogStands (setting t g) v.first v.log m)

-- with these losers
pub record IsOpenedWith (losers : List TxnId) (t : Operations) (g : Ground) (v : View g) : Type 0 where
  pub lawful : IsLawful t g
  pub opened : IsOpened t g v
  pub live : AreLive (tally v.log).live losers
  pub cover : AreLosers (tally v.log).live losers
  pub apart : AreApart losers

-- WHY AN OPENING GIVES NO STORE. A call of the disk failed
abbrev pub IsStartDisk : StartFault → Type 0
IsStartDisk (Space fault) = IsDiskFault fault
IsStartDisk (Broken page) = ⊥
IsStartDisk Memory = ⊥

-- a record is refused for the log's end only where it might pass that
abbrev pub IsStartEnd : (tail : ℕ) → StartFault → Type 0
IsStartEnd tail (Space fault) = IsNearEnd tail fault
IsStartEnd tail (Broken page) = Unit {0}
IsStartEnd tail Memory = Unit {0}

-- a page is broken: this holds then
abbrev pub IfBroken : StartFault → Type 0 → Type 0
IfBroken (Space fault) P = Unit {0}
IfBroken (Broken page) P = P
IfBroken Memory P = Unit {0}

-- the pages read as no objects, and the log stands for none
pub record IsUnread (t : Operations) (g : Ground) (v : View g) : Type 0 where
  pub none : (o : g.O) → IsRead t g v o → ⊥
  pub stands : (m : Objects) → LogStands (setting t g) v.first v.log m → ⊥

-- an image comes to at most one log and one state of its pages
abbrev pub ComesToOne : (t : Operations) (g : Ground) → Type 0
ComesToOne t g = (c : Image) (log other : List (Numbered g.C g.N)) (x y : g.X) → g.Recovers t c log x → g.Recovers t c other y
    → (log ≡ other) × (x ≡ y)

-- no image that a crash now leaves stands for any objects
abbrev pub StandsForNone : (t : Operations) (g : Ground) → View g → Type 0
StandsForNone t g v = (c : Image) → Leaves v.disk.now c → (m : Objects) → StandsFor t g c m → ⊥

-- NOTHING IS APPENDED: each image of each moment has the log that was found
abbrev pub AppendsNothing : (t : Operations) (g : Ground) → (old new : View g) → Type 0
AppendsNothing t g old new = LeavesOnly old.disk new.disk (IsImageOf t g old old.log)
