-- What the calls of the objects over an engine do.
use Rattle.std.specs.Prelude.{◌≡◌, ◌⊎◌, ℕ, ◌+◌, ◌≤◌, ◌<◌, Bool, true, false, List, [], ◌∷◌, Option, Some, None, IsSome, Result, Ok, Err, IsOk}
use Rattle.sg_base.specs.declared.numbers.TxnId.{TxnId}
use Rattle.sg_ops.specs.Table.{Table as Operations}
use Rattle.sg_serial.specs.Locks.{Touch}
use Rattle.sg_model.specs.Touches.{Cell, Resource}
use Rattle.sg_model.specs.declared.reason.Reason.{Reason}
use Rattle.sg_model.specs.declared.op.Reply as code_reply
use Rattle.sg_model.specs.SaidReplies.{said_reply}
use Rattle.sg_store.specs.declared.fault.Needed.{Needed}
use Rattle.sg_store.specs.declared.fault.ObjFault.{ObjFault}
use Rattle.sg_store.specs.declared.fault.ObjFault.TheVariants.{Model, Space as InSpace}
use Rattle.sg_model.specs.Verb.{Op, Reply}
use Rattle.sg_model.specs.Verb.Op.{On, Names}
use Rattle.sg_model.specs.Verb.Verb.{Keys}
use Rattle.sg_model.specs.Verb.Reply.{Several}
use Rattle.sg_space.specs.declared.space.ListFault.{ListFault}
use Rattle.sg_space.specs.declared.space.ListFault.TheVariants as lists
use Rattle.std.specs.Prelude.{Vec}
use Rattle.sg_model.specs.Step.{step}
use Rattle.sg_recovery.specs.Log.{Numbered, Top, tally}
use Rattle.sg_recovery.specs.Stands.{wants_one}
use Rattle.sg_recovery.specs.Keeps.{HasUndone}
use Rattle.sg_recovery.specs.Runs.{note_of, DoesVerb, DoesFree}
use Rattle.sg_store.specs.Drops.{drops}
use Rattle.sg_store.specs.Ground.{Ground, setting, are_written}
use Rattle.sg_store.specs.Engine.{View, Action, IsEngine, pages_of, IsIdle, IsAtRest, ActsFor, Changed, Rested}
use Rattle.sg_store.specs.Room.{AcceptsOp, step_at}
use Rattle.sg_room.specs.Marks.{undone as undone_in, freed as freed_in}
use Rattle.sg_room.specs.Steps.{Step, RunStock}

-- the engine's pages read so, and each page is free that this doesn't reach
pub record Reads (t : Operations) (g : Ground) (v : View g) (o : g.O) : Type 0 where
  pub reading : g.reading (pages_of t g v) ≡ Some o
  pub free : v.free_pages ≡ g.free o

-- an operation may be done in an action without records: it gets a reply here, and what it needs is free
pub record CanPerform (t : Operations) (g : Ground) (v : View g) (o : g.O) (op : Op) : Type 0 where
  pub reads : Reads t g v o
  pub idle : IsIdle v
  pub acts : IsSome v.action
  pub pages : (g.needs t o op).pages ≤ v.free_pages
  pub bands : (g.needs t o op).bands ≤ v.free_bands

-- WHAT THE CALLS ASK where the engine tells. It is between calls and its pages can be read, and no action has changes that wait for
-- their end
pub record CanLook (t : Operations) (g : Ground) (v : View g) : Type 0 where
  pub rest : IsAtRest t g v
  pub reading : g.O
  pub reads : Reads t g v reading

-- the operation may be done in the action of this transaction
pub record CanDo (u : ℕ) (op : Op) (t : Operations) (g : Ground) (v : View g) : Type 0 where
  pub acts : ActsFor u t g v
  pub reading : g.O
  pub can : CanPerform t g v reading op

-- it left things as they were, and no record
pub record LeftAlone (t : Operations) (g : Ground) (old new : View g) (o : g.O) (op : Op) : Type 0 where
  pub log : new.log ≡ old.log
  pub pages : new.free_pages ≡ old.free_pages
  pub same : (step t (g.objects o) op).1 ≡ g.objects o
  -- and it may leave any stock as it is
  pub stock : (transaction : ℕ) (r : RunStock) → AcceptsOp t (g.objects o) r transaction op r

-- its action is done, and this note undoes it
pub record IsNotedBy (t : Operations) (g : Ground) (a : Action g) (new : View g) (o : g.O) (op : Op) (note : List ℕ) : Type 0 where
  pub verb : g.V
  pub is : g.op verb ≡ op
  pub now : g.O
  pub reads : Reads t g new now
  pub does : (lsn undo_next : ℕ)
      → DoesVerb (setting t g) verb (note_of (setting t g) lsn a.transaction undo_next (g.note note) (tally new.log).opened (g.touched verb)) (pages_of t g new) o
  -- it took no more pages than it needed, and a note that wants a page has reserved it
  pub took : g.free o + (g.needs t o op).reserve ≤ g.free now + (g.needs t o op).pages
  -- it made of the stock what its line may make of it, whatever took the undoing of others
  pub stock : (at : ℕ) (steps : List Step) → AcceptsOp t (g.objects o) (record { marks = g.marks o; steps = steps }) a.transaction op
      (record { marks = g.marks now; steps = step_at g a.transaction at (g.note note) ∷ steps })
  -- what is buried now was buried, or the verb, which drops things, has dropped it, of which it wrote the place
  pub buried : (d : ℕ) (f : List (Touch Resource)) → g.Buried now d f → g.Buried o d f ⊎ ((d ≡ a.transaction) × ((c : Cell)
      → are_written f c ≡ true → are_written (g.touched verb) c ≡ true) × (drops op ≡ true))
  pub reserves : wants_one (setting t g) (record { lsn = 0; transaction = 0; undo_next = 0; note = g.note note; changes = [] }) ≡ (g.needs t o op).reserve

-- it got this reply, and left no note where it left things as they were
abbrev pub IsNoted : (t : Operations) (g : Ground) → Action g → (old new : View g) → g.O → Op → List ℕ → Type 0
IsNoted t g a old new o op [] = LeftAlone t g old new o op
IsNoted t g a old new o op (byte ∷ bytes) = IsNotedBy t g a new o op (byte ∷ bytes)

pub record Performed (t : Operations) (g : Ground) (a : Action g) (old new : View g) (o : g.O) (op : Op) (reply : Reply) (note : List ℕ) : Type 0 where
  pub said : (step t (g.objects o) op).0 ≡ Ok reply
  pub noted : IsNoted t g a old new o op note

-- an operation is refused for this reason, and has left no record
pub record IsRefused (t : Operations) (g : Ground) (old new : View g) (o : g.O) (op : Op) (reason : Reason) : Type 0 where
  pub said : (step t (g.objects o) op).0 ≡ Err reason
  pub log : new.log ≡ old.log
  pub pages : new.free_pages ≡ old.free_pages

-- The note of a top-end may be reversed in its action: what the pages at the action's begin read as can be undone by it, a page is
-- free for it where it wants one, and what its action found in bands is back where it asks for that; else nothing is changed yet
pub record CanReverse (t : Operations) (g : Ground) (a : Action g) (v : View g) (o : g.O) (n : Top g.C g.N) : Type 0 where
  pub reads : g.reading a.pages ≡ Some o
  pub possible : IsSome (g.unstep t o n.note n.changes)
  pub page : wants_one (setting t g) n ≤ v.free_pages
  pub back : g.PutsBack t n.note n.changes (tally v.log).opened a.pages (pages_of t g v)

-- the bytes are a note that may be reversed so in the action that was begun
pub record CanTakeBack (note : List ℕ) (t : Operations) (g : Ground) (v : View g) : Type 0 where
  pub engine : IsEngine t g v
  pub action : Action g
  pub acting : v.action ≡ Some action
  pub reading : g.O
  pub top : Top g.C g.N
  pub said : g.note note ≡ top.note
  pub can : CanReverse t g action v reading top

-- an action of the system was begun, which has changed nothing yet
pub record CanFree (t : Operations) (g : Ground) (v : View g) : Type 0 where
  pub look : CanLook t g v
  pub acting : v.action ≡ Some (record { transaction = 0; pages = pages_of t g v })

-- it was, and took a page only where it wants one
pub record Reversed (t : Operations) (g : Ground) (new : View g) (o : g.O) (n : Top g.C g.N) : Type 0 where
  pub undone : HasUndone (setting t g) n (pages_of t g new) o
  pub now : g.O
  pub reads : Reads t g new now
  pub took : g.free o ≤ g.free now + wants_one (setting t g) n
  -- of the stock it undid what the note's undoing takes
  pub stock : g.marks now ≡ undone_in (g.kind n.note) (g.named n.note) (g.marks o)
  -- nothing is buried that wasn't
  pub buried : (d : ℕ) (f : List (Touch Resource)) → g.Buried now d f → g.Buried o d f

-- what a need answers
pub record HasNeed (t : Operations) (g : Ground) (o : g.O) (op : Op) (needs : Needed) : Type 0 where
  pub pages : needs.pages ≡ (g.needs t o op).pages
  pub bands : needs.bands ≡ (g.needs t o op).bands
  pub reserve : needs.reserve ≡ (g.needs t o op).reserve
  pub replies : IsOk (step t (g.objects o) op).0

abbrev pub HasNeeds : (t : Operations) (g : Ground) → (old new : View g) → g.O → Op → Result Needed ObjFault → Type 0
HasNeeds t g old new o op (Ok needs) = Rested t g old new × HasNeed t g o op needs
HasNeeds t g old new o op (Err (Model reason)) = Rested t g old new × ((step t (g.objects o) op).0 ≡ Err reason)
HasNeeds t g old new o op (Err (InSpace fault)) = Unit {0}

-- A list of words was asked for, by an operation that only reads: these are its reply; or memory was refused where it has one.
-- Nothing has changed
pub record HasWords (t : Operations) (g : Ground) (old new : View g) (o : g.O) (op : Op) (words : List (List ℕ)) : Type 0 where
  pub rested : Rested t g old new
  pub said : (step t (g.objects o) op).0 ≡ Ok (Several words)

pub record LacksMemory (t : Operations) (g : Ground) (old new : View g) (o : g.O) (op : Op) : Type 0 where
  pub rested : Rested t g old new
  pub replies : IsOk (step t (g.objects o) op).0

-- a list failed
abbrev pub IsUnlisted : (t : Operations) (g : Ground) → (old new : View g) → g.O → Op → ListFault → Type 0
IsUnlisted t g old new o op lists.Memory = LacksMemory t g old new o op
IsUnlisted t g old new o op (lists.Space fault) = Unit {0}

-- the keys of a table, and the names of all objects
abbrev pub HasKeys : {A : Type 0} → (t : Operations) (g : Ground) → (old new : View g) → g.O → (name : List ℕ) → Result (Result (Vec (List ℕ) A) Reason) ListFault → Type 0
HasKeys t g old new o name (Ok (Ok keys)) = HasWords t g old new o (On name Keys) keys.items
HasKeys t g old new o name (Ok (Err reason)) = Rested t g old new × ((step t (g.objects o) (On name Keys)).0 ≡ Err reason)
HasKeys t g old new o name (Err fault) = IsUnlisted t g old new o (On name Keys) fault

abbrev pub HasNames : {A : Type 0} → (t : Operations) (g : Ground) → (old new : View g) → g.O → Result (Vec (List ℕ) A) ListFault → Type 0
HasNames t g old new o (Ok names) = HasWords t g old new o Names names.items
HasNames t g old new o (Err fault) = IsUnlisted t g old new o Names fault

abbrev pub HasPerformed : (t : Operations) (g : Ground) → Action g → (old new : View g) → g.O → Op → List (Numbered g.C g.N)
    → (into note : List ℕ) → Result code_reply.Reply ObjFault → Type 0
HasPerformed t g a old new o op made into note (Ok reply) = Changed t g a old new made
    × Performed t g a old new o op (said_reply into reply) note
HasPerformed t g a old new o op made into note (Err (Model reason)) = Changed t g a old new made × IsRefused t g old new o op reason
HasPerformed t g a old new o op made into note (Err (InSpace fault)) = Unit {0}

-- of a dropper, or of anybody
abbrev pub IsBy : Option TxnId → ℕ → Type 0
IsBy None d = Unit {0}
IsBy (Some u) d = d ≡ u.0

-- AN ACTION OF THE SYSTEM HAS FREED something that was buried, of this dropper. It took no page, and nothing is buried that wasn't
pub record IsFreed (t : Operations) (g : Ground) (a : Action g) (by : Option TxnId) (old new : View g) (o : g.O) (made : List (Numbered g.C g.N)) : Type 0 where
  pub changed : Changed t g a old new made
  pub place : List (Touch Resource)
  pub dropper : ℕ
  pub was : g.Buried o dropper place
  pub of : IsBy by dropper
  pub now : g.O
  pub reads : Reads t g new now
  pub freed : DoesFree (setting t g) place (pages_of t g new) o
  pub took : g.free o ≤ g.free now
  -- of the marks it took one that the dropper's commit takes
  pub stock : freed_in dropper (g.marks now) ≡ freed_in dropper (g.marks o)
  pub fewer : g.buried now < g.buried o
  pub left : (d : ℕ) (f : List (Touch Resource)) → g.Buried now d f → g.Buried o d f

-- nothing is buried of a dropper, or nothing at all
abbrev pub NoneOf : (g : Ground) → Option TxnId → g.O → Type 0
NoneOf g None o = g.buried o ≡ 0
NoneOf g (Some u) o = (f : List (Touch Resource)) → g.Buried o u.0 f → ⊥

abbrev pub FreesNext : (t : Operations) (g : Ground) → Action g → Option TxnId → (old new : View g) → g.O
    → List (Numbered g.C g.N) → Bool → Type 0
FreesNext t g a by old new o made true = IsFreed t g a by old new o made
FreesNext t g a by old new o made false = Rested t g old new × NoneOf g by o
