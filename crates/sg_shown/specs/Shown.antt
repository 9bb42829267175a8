-- WHAT A SPACE OVER A PAGE ENGINE SHOWS AS THE ENGINE OF A STORE. The store's records are the engine's steps as they are, a note is its bytes, and
-- the ground is that of so many pages and bands.
use Rattle.std.specs.Prelude.{◌≡◌, ◌≢◌, ◌⊎◌, ℕ, ◌+◌, ◌<◌, ◌≤◌, Bool, true, false, List, [], length, Option, Some, None}
use Rattle.sg_alloc.specs.Flags.{free_of, map_bands_of}
use Rattle.sg_alloc.specs.declared.maps.Maps.{Maps}
use Rattle.sg_ops.specs.Table.{Table}
use Rattle.sg_action.specs.States.{Extent, State, Kept}
use Rattle.sg_disk.specs.Disk.{Image}
use Rattle.sg_actions.specs.Calls.{IsAtRest}
use Rattle.sg_actions.specs.Engine.{EngineSeen, led}
use Rattle.sg_actions.specs.Offed.{kept_in}
use Rattle.sg_actions.specs.Rows.{last_in, AreApart, at_rest}
use Rattle.sg_actions.specs.Steps.{Steps, begin_of, opened as open_changes, repeated}
use Rattle.sg_actions.specs.Taken.{is_set, is_there}
use Rattle.sg_actions.specs.View.{IsKept, HasFreedNone, Since}
use Rattle.sg_actions.specs.declared.acts.Acts.{Acts}
use Rattle.sg_actions.specs.declared.engine.Engine.{Ghosts}
use Rattle.sg_actions.specs.declared.rows.Actor.{Actor}
use Rattle.sg_actions.specs.declared.rows.Row.{Row}
use Rattle.sg_recovery.specs.Chains.{last_of, border_of}
use Rattle.sg_recovery.specs.Formed.{IsUnfinished}
use Rattle.sg_recovery.specs.Log.{tally, is_in}
use Rattle.sg_reader.specs.Reader.{limits}
use Rattle.sg_reader.proofs.Decide.{reader}
use Rattle.sg_store.specs.Engine.{Sizes, Shown}
use Rattle.sg_store.specs.Ground.{Ground}
use Rattle.sg_ground.specs.Recovers.{Recovering}
use Rattle.sg_ground.specs.Theorem.{Basis, ground_of}
use Rattle.sg_shown.specs.Spare.{HasSpare}
use Rattle.sg_shown.specs.Taken.{AreTaken, AreCounted}

-- so many pages and bands, as a state says it
abbrev pub extent_of : Sizes → Extent
extent_of z = record { pages = z.pages; bands = z.bands }

-- AN IMAGE IS OF SO MANY PAGES AND BANDS, and comes to this log and state
pub record RecoversSized (recovers : Recovering) (z : Sizes) (t : Table) (c : Image) (log : Steps) (x : State) : Type 0 where
  pub image : recovers t c log x
  pub size : x.size ≡ extent_of z

-- THE GROUND of so many pages and bands, with what finds contents in them, and with which images come to which log and state: those of another size
-- come to none
abbrev pub basis_at : Recovering → Sizes → Basis
basis_at recovers z = record { pages = z.pages; bands = z.bands; reader = reader z.pages z.bands; recovers = RecoversSized recovers z }

abbrev pub basis : Recovering → Sizes → Ground
basis recovers z = ground_of (basis_at recovers z)

-- A SPACE OVER AN ENGINE in plain values: what its engine shows and stands for, how many slots its pages may have, the number of the first byte that
-- the log still has, which pages and bands are taken and which of them the open action hasn't freed, the last record of each transaction, who acts,
-- whether an action was begun, what the engine held then, how many breaks were counted, and flags that are lent for the walk of an opening
pub record Over : Type 1 where
  pub engine : EngineSeen
  pub means : Table → State → Type 0
  pub limits : (pages bands : ℕ) → State → ℕ → ℕ
  pub start : ℕ
  pub maps : Maps
  pub unfreed : Maps
  pub rows : List Row
  pub actor : Actor
  pub begun : Bool
  pub begin : State
  pub breaks : ℕ
  pub room : Option Maps

-- what was taken when the open action began, and the pages and bands then
abbrev pub kept_before : Over → Table → Sizes → State → Kept
kept_before a t z from = kept_in (a.limits z.pages z.bands) t (led from a.engine) a.maps

abbrev pub begin_before : Over → Table → State → State
begin_before a t from = begin_of t from a.engine.steps

abbrev pub has_page : Over → ℕ → Bool
has_page a p = is_there a.maps.pages a.unfreed.pages p

abbrev pub has_band : Over → ℕ → Bool
has_band a b = is_there a.maps.bands a.unfreed.bands b

-- WHAT IT KEEPS where its engine tells, whose steps lead from these pages and bands
pub record Keeping (a : Over) (t : Table) (z : Sizes) (from : State) : Type 0 where
  -- the log is formed, and the open action can be taken off
  pub kept : IsKept t (a.limits z.pages z.bands) (led from a.engine) a.maps a.rows a.actor
  -- where no action was begun nobody acts, and nothing is freed
  pub rest : a.begun ≡ false → IsAtRest a.engine.steps a.unfreed a.actor
  -- an action that has no open change has freed nothing
  pub fresh : open_changes a.engine.steps ≡ [] → HasFreedNone a.unfreed
  -- what the pages at the begin of the open action reached was taken then,
  pub begin : AreTaken z (kept_before a t z from).pages (kept_before a t z from).bands (begin_before a t from).pages
  -- what the pages reach now is taken now,
  pub now : AreTaken z (has_page a) (has_band a) (repeated t from a.engine.steps).pages
  -- and nothing else is,
  pub counted : AreCounted z (free_of a.maps.pages + free_of a.unfreed.pages) (free_of a.maps.bands + free_of a.unfreed.bands)
      (repeated t from a.engine.steps).pages
  -- but the bands of the allocation map
  pub map : (b : ℕ) → b < map_bands_of z.pages z.bands → has_band a b ≡ true
  -- there is a row for each transaction that may begin
  pub spare : HasSpare a.engine.steps a.rows

-- WHAT ITS RECORDS MEAN: its engine stands for these operations and first pages, it has these sizes, as the first pages say too, and its pages have
-- the limits that a reader finds
pub record Means (a : Over) (t : Table) (z : Sizes) (from : State) : Type 0 where
  pub since : Since a.means a.engine a.begun a.begin t from
  pub size : from.size ≡ extent_of z
  pub pages : length a.maps.pages ≡ z.pages
  pub bands : length a.maps.bands ≡ z.bands
  pub limits : a.limits z.pages z.bands ≡ limits (reader z.pages z.bands)
  pub keeps : a.engine.Told → Keeping a t z from

-- whose action was begun last
abbrev pub acting : Bool → (txn : ℕ) → Option ℕ
acting false txn = None
acting true txn = Some txn

-- WHAT IT SHOWS
abbrev pub shown_of : (recovers : Recovering) → Over → Shown (basis recovers)
shown_of recovers a = record {
  Told = a.engine.Told;
  disk = a.engine.disk;
  base = a.engine.base;
  tail = a.engine.tail;
  gate = a.engine.gate;
  start = a.start;
  free_pages = free_of a.maps.pages + free_of a.unfreed.pages;
  free_bands = free_of a.maps.bands + free_of a.unfreed.bands;
  faults = a.engine.faults + a.breaks;
  records = λ z. record { log = a.engine.steps; durable = a.engine.durable; acting = acting a.begun a.actor.txn.0 };
  means = λ t z from. Means a t z from;
}

-- THE SAME OF A VALUE
abbrev pub over : {E : Type 0} {g : Ghosts E} → Acts E g → Over
over {g = g} s = record {
  engine = g.view s.engine;
  means = g.means s.engine;
  limits = g.limits;
  start = g.first_byte s.engine;
  maps = s.maps;
  unfreed = s.unfreed;
  rows = s.rows.items;
  actor = s.actor;
  begun = s.begun;
  begin = (g.view s.begun_at.value).now;
  breaks = s.breaks;
  room = None;
}

abbrev pub shown : {E : Type 0} {g : Ghosts E} → (s : Acts E g) → Shown (basis g.recovers)
shown {g = g} s = shown_of g.recovers (over s)

-- WHO ACTS AND THE ROWS of a space over an engine that an opening found, by its log, of which nothing was cut away since: nothing is taken, and
-- nothing freed; each transaction that goes on has one row, and no other has one; where an action has no end, who acts is whose it is, with its last record, and else
-- nobody acts; and no action was begun, so that no change is logged
pub record AsFound (a : Over) : Type 0 where
  pub based : a.engine.base ≤ a.engine.tail
  pub start : a.engine.base ≡ a.start
  pub clear : (n : ℕ) → is_set a.maps.pages n ≡ false
  pub freed : HasFreedNone a.unfreed
  pub rows : (u : ℕ) → is_in u (tally a.engine.steps).live ≡ true → last_in a.rows u ≡ Some (last_of u a.engine.steps)
  pub low : (u : ℕ) → a.engine.tail ≤ u → last_in a.rows u ≡ None
  pub apart : AreApart a.rows
  pub known : (u last : ℕ) → u ≢ 0 → last_in a.rows u ≡ Some last → is_in u (tally a.engine.steps).live ≡ true
  pub quiet : a.begun ≡ false
  pub rest : a.actor.last ≡ 0 → (a.actor ≡ at_rest)
      × ((u : ℕ) → (u ≡ 0) ⊎ (is_in u (tally a.engine.steps).live ≡ true) → last_of u a.engine.steps ≡ border_of u a.engine.steps)
  pub acts : a.actor.last ≢ 0 → IsUnfinished a.engine.steps a.actor.txn.0 × (a.actor.last ≡ last_of a.actor.txn.0 a.engine.steps)

-- flags of so many pages and bands are lent
pub record HasRoom (room : Option Maps) (pages bands : ℕ) : Type 0 where
  pub flags : Maps
  pub is : room ≡ Some flags
  pub pages_are : length flags.pages ≡ pages
  pub bands_are : length flags.bands ≡ bands

-- WHILE IT IS BEING OPENED its engine stands for these operations and first pages, and it has these sizes, as the first pages say too, of which the
-- allocation map takes no more bands than there are. What its pages reach isn't known to be taken yet, and an action may be without its end
pub record Finds (a : Over) (t : Table) (z : Sizes) (from : State) : Type 0 where
  pub stands : a.means t from
  pub size : from.size ≡ extent_of z
  pub pages : length a.maps.pages ≡ z.pages
  pub bands : length a.maps.bands ≡ z.bands
  pub limits : a.limits z.pages z.bands ≡ limits (reader z.pages z.bands)
  pub first : 0 < z.pages
  pub map : map_bands_of z.pages z.bands ≤ z.bands
  pub room : HasRoom a.room z.pages z.bands
  pub made : a.engine.Told → AsFound a

-- what it shows then: no action was begun
abbrev pub opened_of : (recovers : Recovering) → Over → Shown (basis recovers)
opened_of recovers a = record {
  Told = a.engine.Told;
  disk = a.engine.disk;
  base = a.engine.base;
  tail = a.engine.tail;
  gate = a.engine.gate;
  start = a.start;
  free_pages = free_of a.maps.pages + free_of a.unfreed.pages;
  free_bands = free_of a.maps.bands + free_of a.unfreed.bands;
  faults = a.engine.faults + a.breaks;
  records = λ z. record { log = a.engine.steps; durable = a.engine.durable; acting = None };
  means = λ t z from. Finds a t z from;
}

-- the same with flags that are lent
abbrev pub lent : Over → Option Maps → Over
lent a room = record a { room = room }

-- THE SAME OF A VALUE with these
abbrev pub opened : {E : Type 0} {g : Ghosts E} → (s : Acts E g) → Option Maps → Shown (basis g.recovers)
opened {g = g} s room = opened_of g.recovers (lent (over s) room)
