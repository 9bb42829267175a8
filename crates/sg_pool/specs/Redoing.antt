-- A call that repeats a part of the log.
use Rattle.std.specs.Prelude.{◌≡◌, ◌≢◌, ◌⊎◌, ◌<◌, ◌≤◌, ◌+◌, ℕ, Bool, IsTrue, Some, None, List, [], nat_eq, Result, OnOk, OnErr, IfErr}
use Rattle.std.specs.Map.{lookup}
use Rattle.sg_base.specs.Ends.{HasRisen}
use Rattle.sg_base.specs.declared.area.Area.{Area}
use Rattle.sg_base.specs.declared.area.Area.TheVariants.{Home}
use Rattle.sg_disk.specs.Disk.{View, LeavesOnly}
use Rattle.sg_disk.specs.Heeds.{Heeds}
use Rattle.sg_log.specs.Frames.{Numbered}
use Rattle.sg_log.specs.Held.{Tail, Holds, tail_of, forced}
use Rattle.sg_ops.specs.Table.{Table}
use Rattle.sg_redo.specs.declared.place.Place.{Place}
use Rattle.sg_pool.specs.Counts.{HasGrown, is_disk}
use Rattle.sg_pool.specs.declared.fault.PoolFault.{PoolFault}
use Rattle.sg_pool.specs.declared.fault.PoolFault.TheVariants.{Disk, Damaged, Memory}
use Rattle.sg_pool.specs.declared.pool.Pool.{Pool}
use Rattle.sg_pool.specs.Moments.{IsSameOrForced}
use Rattle.sg_pool.specs.Pooled.{sizes, contents, uses, window_count, frame_holding, band_since_of, last_of, Backs, IsLogged}
use Rattle.sg_pool.specs.Redone.{ArePlacesBelow, places_of, records_of, IsRedone, ArePartlyRedone, AreHomesExact, AreHomesKnown, IsRedoMoment}
use Rattle.sg_pool.specs.Repeated.{last_lsn}
use Rattle.sg_pool.specs.Shelves.{OnTold, AreLogged, lasts}
use Rattle.sg_pool.specs.Units.{Geometry}
use Rattle.sg_pool.specs.Well.{IsWell}

-- THE PART IS DURABLE: no record waits in the log's buffer, the last change of each unit is in the log, and each record of the part is below
-- its gate
pub record IsDurable (v : View) (log : Tail) (ds : List Numbered) (pool : Pool) (places : List Place) : Type 0 where
  pub holds : Holds v log ds []
  pub logged : IsLogged (tail_of log) v pool
  pub below : ArePlacesBelow log.gate places

-- redo of a part fails where the disk does, or where a page of the part is neither a page of slots nor all 0
abbrev pub RedoFails : Bool → Area → Geometry → (old new : View) → Pool → List Place → PoolFault → Type 0
RedoFails told area g old new pool places Disk = HasRisen old.faults new.faults
RedoFails told area g old new pool places (Damaged page) = (page.0 < g.pages) × (places_of page.0 places ≢ []) × (IsTrue told → (area ≡ Home → ⊥) → Backs g old pool → IsWell ((contents old pool).page page.0) → ⊥)
RedoFails told area g old new pool places Memory = ⊥

-- THE LAST CHANGES OF BANDS that aren't on the disk: of each band with records in the part it is the last of these, and the others had such a
-- change and the same last one
pub record AreLastsRedone (g : Geometry) (places : List Place) (old new : Pool) : Type 0 where
  pub its : (b o : ℕ) → places_of (g.pages + b) places ≢ [] → band_since_of new b ≡ Some o → last_of new b ≡ last_lsn (places_of (g.pages + b) places)
  pub others : (b o : ℕ) → places_of (g.pages + b) places ≡ [] → band_since_of new b ≡ Some o → (band_since_of old b ≡ Some o) × (last_of new b ≡ last_of old b)

-- what is known of the units
pub record AreRedone {T : Type 0} (g : Geometry) (t : Table) (text : List ℕ) (places : List Place) (v w : View) (old new : Pool) (result : Result T PoolFault) : Type 0 where
  pub backed : OnTold result (Backs g w new)
  pub redone : OnOk result (IsRedone g (records_of g t text places) (contents v old) (contents w new))
  pub partly : OnErr result (OnTold result (ArePartlyRedone g (records_of g t text places) (contents v old) (contents w new)))
  pub untouched : OnTold result (AreHomesExact g (v.now Home).seen (w.now Home).seen (records_of g t text places) (contents v old) (contents w new))
  pub well : OnOk result ((n : ℕ) → n < g.pages → places_of n places ≢ [] → frame_holding old n ≡ None → IsWell ((contents v old).page n))

-- and where the part is durable
pub record AreDurablyRedone {T : Type 0} (g : Geometry) (t : Table) (text : List ℕ) (places : List Place) (v w : View) (log : Tail) (ds : List Numbered) (old new : Pool) (result : Result T PoolFault) : Type 0 where
  pub logged : OnTold result (IsLogged (tail_of log) w new)
  pub homes : OnTold result (AreHomesKnown g (w.now Home) (records_of g t text places) (contents v old) (contents w new))
  pub moments : LeavesOnly v w (IsRedoMoment g v log ds (lasts old.shelf) (records_of g t text places) (contents v old))

-- A RUN OF REDO over these places: all that a call says which repeats them
pub record IsRun {T : Type 0} (g : Geometry) (told : Bool) (t : Table) (text : List ℕ) (places : List Place) (v w : View) (log log' : Tail) (old new : Pool) (result : Result T PoolFault) : Type 0 where
  pub size : sizes new ≡ g
  pub log_kept : (log' ≡ log) ⊎ (log' ≡ forced log)
  pub later : v.faults ≤ w.faults
  pub heeded : Heeds is_disk result v w
  pub kept : v.handed ≤ w.handed
  pub grown : HasGrown log log' v w
  pub pins : (f : ℕ) → lookup (nat_eq f) (uses new) ≡ lookup (nat_eq f) (uses old)
  pub count : window_count new ≡ window_count old
  pub bytes : IsTrue told → (a : Area) (i : ℕ) → (w.now a).seen i < 256
  -- where the part's records are below a number, the last change of each band stays so
  pub below : (tail : ℕ) → AreLogged tail old.shelf → ArePlacesBelow tail places → AreLogged tail new.shelf
  pub lasts : OnOk result (AreLastsRedone g places old new)
  -- no other page has come into a frame
  pub absent : OnOk result ((n : ℕ) → places_of n places ≡ [] → frame_holding old n ≡ None → frame_holding new n ≡ None)
  pub faults : IfErr result (RedoFails told log.area g v w old places)
  pub units_are : IsTrue told → log.area ≢ Home → Backs g v old → AreRedone g t text places v w old new result
  pub log_is : (ds ps : List Numbered) → IsTrue told → log.area ≢ Home → Backs g v old → Holds v log ds ps → OnTold result (IsSameOrForced w log log' ds ps)
  pub durable : (ds : List Numbered) → IsTrue told → log.area ≢ Home → Backs g v old → IsDurable v log ds old places → AreDurablyRedone g t text places v w log ds old new result
