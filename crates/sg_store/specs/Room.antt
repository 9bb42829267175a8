-- What is free, by the objects and what is buried; and the stock that a store shows of its run.
use Rattle.std.specs.Prelude.{◌≡◌, ℕ, ◌+◌, ◌≤◌, ◌==◌, ◌&&◌, nat_lt, map, Some}
use Rattle.sg_ops.specs.Table.{Table as Operations}
use Rattle.sg_room.specs.Bounds.{ObeysStock, page_sum, band_sum}
use Rattle.sg_model.specs.Objects.{Objects}
use Rattle.sg_model.specs.Verb.{Op}
use Rattle.sg_model.specs.Verb.Op.{On, Names}
use Rattle.sg_recovery.specs.Log.{Top, tally}
use Rattle.sg_room.specs.Marks.{Stock, stock_with, freed}
use Rattle.sg_recovery.specs.Shows.{Choice}
use Rattle.sg_room.specs.Lines.{UndoesEach}
use Rattle.sg_room.specs.Most.{Accepts}
use Rattle.sg_room.specs.Steps.{Step, RunStock}
use Rattle.sg_store.specs.Engine.{View, pages_of}
use Rattle.sg_store.specs.Ground.{Ground}

-- the stock of what pages read as: how much room its objects and what is buried may take
abbrev pub stock_of : (g : Ground) → g.O → Stock
stock_of g o = stock_with (g.objects o) (g.marks o)

-- so many free pages are what the objects leave: no more pages are taken than the bounds of the stock say
abbrev pub ArePagesLeft : (t : Operations) (g : Ground) → View g → (free : ℕ) → Type 0
ArePagesLeft t g v free = (o : g.O) → g.reading (pages_of t g v) ≡ Some o → g.sizes.pages ≤ free + page_sum (stock_of g o)

-- so many free bands are: exactly the stock's bands are taken, and those of the map
abbrev pub AreBandsLeft : (t : Operations) (g : Ground) → View g → (free : ℕ) → Type 0
AreBandsLeft t g v free = (o : g.O) → g.reading (pages_of t g v) ≡ Some o → free + (g.sizes.map + band_sum (stock_of g o)) ≡ g.sizes.bands

-- WHAT IS FREE IS WHAT THE OBJECTS LEAVE
abbrev pub LeavesRoom : (t : Operations) (g : Ground) → View g → Type 0
LeavesRoom t g v = (o : g.O) → g.reading (pages_of t g v) ≡ Some o → ObeysStock g.sizes v.free_pages v.free_bands (stock_of g o)

-- what the undoing of a note takes, of an action of this transaction that ended here
abbrev pub step_at : (g : Ground) → (transaction at : ℕ) → g.N → Step
step_at g transaction at note = record { transaction = transaction; at = at; name = g.named note; kind = g.kind note }

abbrev pub step_of : (g : Ground) → Top g.C g.N → Step
step_of g top = step_at g top.transaction top.lsn top.note

-- A STORE SHOWS THIS STOCK of its run: the marks of what its pages read as, and what the undoing of its standing notes takes
pub record ShowsStock (t : Operations) (g : Ground) (v : View g) (r : RunStock) : Type 0 where
  pub marks : (o : g.O) → g.reading (pages_of t g v) ≡ Some o → g.marks o ≡ r.marks
  pub steps : map (step_of g) (tally v.log).notes ≡ r.steps

-- what an accepted operation makes of a stock, by the objects as they are
abbrev pub AcceptsOp : Operations → Objects → RunStock → (transaction : ℕ) → Op → RunStock → Type 0
AcceptsOp t s r transaction (On name verb) r' = Accepts t s r transaction name verb r'
AcceptsOp t s r transaction Names r' = r' ≡ r

-- an accepted operation makes of the stock that was shown what it may make of it
abbrev pub LeadsStock : (t : Operations) (g : Ground) → (v w : View g) → Objects → (transaction : ℕ) → Op → Type 0
LeadsStock t g v w s transaction op = (r : RunStock) → ShowsStock t g v r → (r' : RunStock) × AcceptsOp t s r transaction op r' × ShowsStock t g w r'

-- the entries of one transaction
abbrev pub is_of : (transaction : ℕ) → Choice
is_of transaction = λ u at. u == transaction

-- those of one transaction behind a number
abbrev pub is_behind : (transaction number : ℕ) → Choice
is_behind transaction number = λ u at. u == transaction && nat_lt number at

-- Some of the chosen entries were undone, one by one and the newest that stood each time: what the undoing of the rest leads to, the undoing of
-- all leads to
abbrev pub BacksStock : (t : Operations) (g : Ground) → (v w : View g) → Choice → Type 0
BacksStock t g v w chosen = (r : RunStock) → ShowsStock t g v r → (r' : RunStock)
    × ((after : RunStock) → UndoesEach chosen r' after → UndoesEach chosen r after) × ShowsStock t g w r'

-- Some of what a transaction dropped was freed: its commit makes the same of the stock as it would have before, and nobody's undoing takes anything else
abbrev pub FreesStock : (t : Operations) (g : Ground) → (v w : View g) → (transaction : ℕ) → Type 0
FreesStock t g v w transaction = (r : RunStock) → ShowsStock t g v r → (r' : RunStock)
    × (freed transaction r'.marks ≡ freed transaction r.marks) × (r'.steps ≡ r.steps) × ShowsStock t g w r'
