-- What a space over an engine shows.
use Rattle.std.specs.Prelude.{◌≡◌, ◌⊎◌, ℕ, ◌+◌, ◌≤◌, Bool, true, false, Some, List, []}
use Rattle.sg_ops.specs.Table.{Table}
use Rattle.sg_alloc.specs.Flags.{free_of}
use Rattle.sg_alloc.specs.declared.maps.Maps.{Maps}
use Rattle.sg_action.specs.States.{State, Change, Kept}
use Rattle.sg_space.specs.View.{View}
use Rattle.sg_actions.specs.Engine.{EngineView, EngineSeen, IsNearEnd}
use Rattle.sg_actions.specs.declared.rows.Actor.{Actor}
use Rattle.sg_actions.specs.declared.rows.Row.{Row}
use Rattle.sg_actions.specs.Steps.{Steps, opened, begin_of}
use Rattle.sg_actions.specs.Taken.{kept_of, units_there, writes_band, has_lessened}
use Rattle.sg_actions.specs.Acting.{IsWell, IsChained}

-- The open action may give the page so many slots: it has not made it less, and the page may have them, if it was taken at the
-- begin.
pub record MayGive (kept : Kept) (ds : List Change) (page slots : ℕ) : Type 0 where
  pub grown : has_lessened ds page ≡ false
  pub within : kept.pages page ≡ true → slots ≤ kept.slots page

-- the open action has freed nothing
pub record HasFreedNone (unfreed : Maps) : Type 0 where
  pub pages : free_of unfreed.pages ≡ 0
  pub bands : free_of unfreed.bands ≡ 0

-- THE LOG AND THE OPEN ACTION: the log is formed, and the open action can be taken off
pub record IsActing (t : Table) (limits : State → ℕ → ℕ) (base : ℕ) (first : State) (rs : Steps) (tail : ℕ) (pages bands : List Bool) (rows : List Row) (actor : Actor) : Type 0 where
  pub chain : IsChained base rs tail rows actor
  pub well : IsWell t limits (begin_of t first rs) (opened rs) pages bands

-- WHAT A SPACE KEEPS from call to call, where its engine tells
abbrev pub IsKept : (t : Table) → (limits : State → ℕ → ℕ) → EngineView → Maps → List Row → Actor → Type 0
IsKept t limits e maps rows actor = IsActing t limits e.base e.first e.steps e.tail maps.pages maps.bands rows actor

-- the action that may still give a page slots, which began with these pages and bands
abbrev pub MayGiveNow : (limits : State → ℕ → ℕ) → (begin : State) → Steps → (pages bands : List Bool) → (page slots : ℕ) → Type 0
MayGiveNow limits begin rs pages bands = MayGive (kept_of limits pages bands begin (opened rs)) (opened rs)

-- What it shows says nothing of operations or first pages. `begin` is what the engine held when the open action began.
-- Where no action was begun, none of its changes is logged: it refuses them as at the log's end.
abbrev pub acts_view : (State → ℕ → ℕ) → EngineSeen → (begun : Bool) → (begin : State) → (breaks : ℕ) → (maps unfreed : Maps) → View
acts_view limits e begun begin breaks maps unfreed = record {
  Told = e.Told;
  Shows = e.Told;
  space = record {
    pages = units_there maps.pages unfreed.pages e.now.pages;
    bands = units_there maps.bands unfreed.bands (λ b. Some (e.now.bands b));
  };
  faults = e.faults + breaks;
  records = e.records;
  IsNearEnd = IsNearEnd e ⊎ (begun ≡ false);
  MayTake = HasFreedNone unfreed;
  MayHave = λ page slots. e.Told → MayGiveNow limits begin e.steps maps.pages maps.bands page slots;
  HasWritten = λ band. e.Told × (writes_band (opened e.steps) band ≡ true);
  IsStill = e.Told → opened e.steps ≡ [];
}

-- THE FIRST PAGES that the steps lead from, by a table of operations, also to what the engine held when the open action began
pub record Since (means : Table → State → Type 0) (e : EngineSeen) (begun : Bool) (begin : State) (t : Table) (from : State) : Type 0 where
  pub stands : means t from
  pub since : begun ≡ true → e.Told → begin_of t from e.steps ≡ begin
