-- A run of a store over pages with its stock: how much room the objects and what is buried may take, and what each call makes of
-- that. Of the free pages and bands a call is told; they obey the stock.
use Rattle.std.specs.Prelude.{◌≡◌, ◌⊎◌, ℕ, ◌+◌, ◌≤◌, ◌==◌, List, [], None, Result, Ok, Err}
use Rattle.std.specs.FinMap.{get}
use Rattle.sg_ops.specs.Table.{Table as Operations}
use Rattle.sg_model.specs.Objects.{Objects}
use Rattle.sg_model.specs.Verb.{Op, Reply}
use Rattle.sg_model.specs.Verb.Op.{On, Names}
use Rattle.sg_room.specs.Marks.{Marks, Stock, stock_with, peak_of}
use Rattle.sg_room.specs.Steps.{RunStock, reserved_in, backed}
use Rattle.sg_room.specs.Lines.{committed}
use Rattle.sg_room.specs.Most.{Accepts}
use Rattle.sg_room.specs.Bounds.{Sizes, ObeysStock}
use Rattle.sg_room.specs.Needs.{Needed, needed, no_needs}
use Rattle.sg_run.specs.Run.{Run, start, live_objects}
use Rattle.sg_run.specs.Numbers.{Refusal, Begins, Does, Commits, Aborts, Flushes, Checkpoints}
use Rattle.sg_run.specs.Numbers.Refusal.{NoSpace, NoBands, LogEnd}

-- what transactions have done, and the stock
pub record Stocked : Type 0 where
  pub run : Run
  pub stock : RunStock

-- a run that begins with these objects and their marks
abbrev pub begun : Objects → Marks → Stocked
begun first marks = record { run = start first; stock = record { marks = marks; steps = [] } }

-- how many pages the live transactions keep free for their undoing
abbrev pub reserved : Stocked → ℕ
reserved x = reserved_in x.stock.steps

-- the stock of what stands and of what is buried now
abbrev pub stock_now : Operations → Stocked → Stock
stock_now t x = stock_with (live_objects t x.run) x.stock.marks

-- what an operation needs, by what stands under its name and by the greatest size that this had
abbrev pub needed_by : Objects → Marks → Op → Needed
needed_by s m (On name verb) = needed verb (get s name) (peak_of (get m.live name))
needed_by s m Names = no_needs

abbrev pub needs : Operations → Stocked → Op → Needed
needs t x op = needed_by (live_objects t x.run) x.stock.marks op

-- What is told of a store at a call: how many pages and bands are free at its begin; where the log's tail is then, and at the
-- call's return; and the counts of faults then
pub record Around : Type 0 where
  pub pages : ℕ
  pub bands : ℕ
  pub begin : ℕ
  pub tail : ℕ
  pub before : ℕ
  pub now : ℕ

-- enough is free: of pages beside those that are kept, where any are needed
abbrev pub HasPages : Around → (kept need : ℕ) → Type 0
HasPages a kept need = (need ≡ 0) ⊎ (kept + need ≤ a.pages)

pub record HasRoom (a : Around) (kept : ℕ) (n : Needed) : Type 0 where
  pub pages : HasPages a kept n.pages
  pub bands : n.bands ≤ a.bands

-- The numbers of an answer: those of a refusal are exact, of pages before that of bands, and each answer behind them says that
-- enough was free
abbrev pub AreNumbers : Operations → Around → Stocked → Op → Result Reply Refusal → Type 0
AreNumbers t a x op (Ok reply) = HasRoom a (reserved x) (needs t x op)
AreNumbers t a x op (Err (NoSpace free kept need)) = (free ≡ a.pages) × (kept ≡ reserved x) × (need ≡ (needs t x op).pages)
AreNumbers t a x op (Err (NoBands free need)) = (free ≡ a.bands) × (need ≡ (needs t x op).bands) × HasPages a (reserved x) (needs t x op).pages
AreNumbers t a x op (Err LogEnd) = HasRoom a (reserved x) (needs t x op)
AreNumbers t a x op (Err other) = Unit {0}

-- the stock behind an operation: an accepted verb changes it, and nothing else does
abbrev pub StockAfter : Operations → Stocked → ℕ → Op → Result Reply Refusal → RunStock → Type 0
StockAfter t x u (On name verb) (Ok reply) r = Accepts t (live_objects t x.run) x.stock u name verb r
StockAfter t x u Names (Ok reply) r = r ≡ x.stock
StockAfter t x u op (Err why) r = r ≡ x.stock

-- an operation in a store of these sizes
pub record DoesStocked (t : Operations) (z : Sizes) (a : Around) (u : ℕ) (op : Op) (x : Stocked) (r : Result Reply Refusal) (y : Stocked) : Type 0 where
  pub line : Does t a.begin a.tail a.before a.now u op x.run r y.run
  pub obeys : x.run.stopped ≡ None → ObeysStock z a.pages a.bands (stock_now t x)
  pub numbers : AreNumbers t a x op r
  pub stock : StockAfter t x u op r y.stock

-- a begin leaves the stock. Whether the log is too long for it is asked of the tail that it found
pub record BeginsStocked (a : Around) (name : List ℕ) (x : Stocked) (r : Result ℕ Refusal) (y : Stocked) : Type 0 where
  pub line : Begins a.begin a.before a.now name x.run r y.run
  pub stock : y.stock ≡ x.stock

-- a commit that answers frees what its transaction dropped
abbrev pub committed_if : ℕ → Result (Unit {0}) Refusal → RunStock → RunStock
committed_if u (Ok done) r = committed u r
committed_if u (Err why) r = r

pub record CommitsStocked (a : Around) (u : ℕ) (x : Stocked) (r : Result (Unit {0}) Refusal) (y : Stocked) : Type 0 where
  pub line : Commits a.tail a.before a.now u x.run r y.run
  pub stock : y.stock ≡ committed_if u r x.stock

-- an abort undoes all that its transaction did, and no peak
abbrev pub backed_if : ℕ → Result (Unit {0}) Refusal → RunStock → RunStock
backed_if u (Ok done) r = backed (λ v at. v == u) r
backed_if u (Err why) r = r

pub record AbortsStocked (a : Around) (u : ℕ) (x : Stocked) (r : Result (Unit {0}) Refusal) (y : Stocked) : Type 0 where
  pub line : Aborts a.tail a.before a.now u x.run r y.run
  pub stock : y.stock ≡ backed_if u r x.stock

-- a flush or a truncation, and a checkpoint, leave it
pub record FlushesStocked (a : Around) (x : Stocked) (r : Result (Unit {0}) Refusal) (y : Stocked) : Type 0 where
  pub line : Flushes a.before a.now x.run r y.run
  pub stock : y.stock ≡ x.stock

pub record CheckpointsStocked (a : Around) (x : Stocked) (r : Result (Unit {0}) Refusal) (y : Stocked) : Type 0 where
  pub line : Checkpoints a.tail a.before a.now x.run r y.run
  pub stock : y.stock ≡ x.stock

-- THE TAIL IS SHOWN BY BYTES: it is at most where the log was durable at the entry, what was handed to the disk since, and one
-- frame that waits for it
abbrev pub TailIsBounded : (durable handed tail : ℕ) → Type 0
TailIsBounded durable handed tail = tail ≤ durable + handed + 65541
