-- The page engine with its pool: what holds between its calls, and what a call leaves.
use Rattle.std.specs.Prelude.{◌≡◌, ℕ, List, ◌++◌}
use Rattle.sg_base.specs.Op.{Op}
use Rattle.sg_disk.specs.Disk.{View}
use Rattle.sg_log.specs.Frames.{Numbered}
use Rattle.sg_log.specs.Held.{Tail, tail_of}
use Rattle.sg_ops.specs.Table.{Table}
use Rattle.sg_redo.specs.Page.{made}
use Rattle.sg_pool.specs.Pooled.{sizes, contents}
use Rattle.sg_pool.specs.Shelves.{AreLogged, lasts}
use Rattle.sg_pool.specs.declared.pool.Pool.{Pool}
use Rattle.sg_engine.specs.History.{ChangesPage, ChangesBand, ChangesNothing, Appends}
use Rattle.sg_engine.specs.Kept.{IsEarly}
use Rattle.sg_engine.specs.Engine.{Origin, entry_of, entries, geometry, IsEngineOf}

-- BETWEEN CALLS, of a pool
pub record IsEngine (o : Origin) (v : View) (log : Tail) (ds ps : List Numbered) (pool : Pool) : Type 0 where
  pub sizes : sizes pool ≡ geometry o.super
  pub engine : IsEngineOf o v log ds ps (lasts pool.shelf) (contents v pool)
  pub logged : AreLogged (tail_of log) pool.shelf

-- THE ENGINE HAS GONE ON: its log holds all of these records, and those that were durable still are
pub record HasGoneOn (o : Origin) (w : View) (log : Tail) (ds all : List Numbered) (pool : Pool) : Type 0 where
  pub durable : List Numbered
  pub waiting : List Numbered
  pub is_all : durable ++ waiting ≡ all
  pub since : List Numbered
  pub later : durable ≡ ds ++ since
  pub engine : IsEngine o w log durable waiting pool

-- a redo point that the pool's changes allow
abbrev pub IsAllowed : Origin → View → Tail → Pool → ℕ → Type 0
IsAllowed o v log pool r = IsEarly (geometry o.super) (tail_of log) r (contents v pool)

-- THE RECORD x MAY BE APPENDED, and does this operation to page p
pub record DoesToPage (o : Origin) (t : Table) (es : List Numbered) (x : Numbered) (p : ℕ) (op : Op) : Type 0 where
  pub effect : o.effect x.lsn x.is ≡ ChangesPage p (made t x.lsn op)
  pub appends : Appends (geometry o.super) o.first (entries o es) (entry_of o x)

-- and writes these bytes to band b
pub record DoesToBand (o : Origin) (es : List Numbered) (x : Numbered) (b at : ℕ) (bytes : List ℕ) : Type 0 where
  pub effect : o.effect x.lsn x.is ≡ ChangesBand b at bytes
  pub appends : Appends (geometry o.super) o.first (entries o es) (entry_of o x)

-- and changes neither
pub record DoesNothing (o : Origin) (es : List Numbered) (x : Numbered) : Type 0 where
  pub effect : o.effect x.lsn x.is ≡ ChangesNothing
  pub appends : Appends (geometry o.super) o.first (entries o es) (entry_of o x)
