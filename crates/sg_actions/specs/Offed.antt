-- An action that is taken off.
use Rattle.std.specs.Prelude.{◌≡◌, ℕ, List}
use Rattle.sg_alloc.specs.Flags.{free_of}
use Rattle.sg_alloc.specs.declared.maps.Maps.{Maps}
use Rattle.sg_ops.specs.Laws.{IsLawful}
use Rattle.sg_ops.specs.Table.{Table}
use Rattle.sg_action.specs.States.{State, Kept, Alike}
use Rattle.sg_actions.specs.Acting.{IsWell, IsChained}
use Rattle.sg_actions.specs.Engine.{EngineView, now_of}
use Rattle.sg_action.specs.Opened.{IsBegun}
use Rattle.sg_actions.specs.TakingOff.{IsOff, IsGoing}
use Rattle.sg_actions.specs.Rows.{at_rest}
use Rattle.sg_actions.specs.Steps.{opened, begin_of}
use Rattle.sg_actions.specs.Taken.{is_set, kept_of}
use Rattle.sg_actions.specs.declared.rows.Actor.{Actor}
use Rattle.sg_actions.specs.declared.rows.Row.{Row}

-- what was taken at the begin of the open action
abbrev pub kept_in : (limits : State → ℕ → ℕ) → Table → EngineView → Maps → Kept
kept_in limits t e maps = kept_of limits maps.pages maps.bands (begin_of t e.first e.steps) (opened e.steps)

-- the open action of who acts is well
pub record CanTakeOff (t : Table) (limits : State → ℕ → ℕ) (e : EngineView) (maps : Maps) (rows : List Row) (actor : Actor) : Type 0 where
  pub law : IsLawful t
  pub chain : IsChained e.base e.steps e.tail rows actor
  pub well : IsWell t limits (begin_of t e.first e.steps) (opened e.steps) maps.pages maps.bands

-- THE ACTION IS TAKEN OFF: pages and bands can't be told from those at its begin, and what is taken is what was taken then. No action is open,
-- nothing is freed, and the next action begins well
pub record TakenOff (t : Table) (limits : State → ℕ → ℕ) (e e' : EngineView) (maps maps' unfreed' : Maps) (rows' : List Row) (actor actor' : Actor) : Type 0 where
  pub told : e'.Told → e.Told
  pub alike : e'.Told → Alike (kept_in limits t e maps) (now_of t e') (begin_of t e.first e.steps)
  pub pages : e'.Told → (n : ℕ) → is_set maps'.pages n ≡ (kept_in limits t e maps).pages n
  pub bands : e'.Told → (n : ℕ) → is_set maps'.bands n ≡ (kept_in limits t e maps).bands n
  pub rest : actor' ≡ at_rest
  pub none : free_of unfreed'.pages ≡ 0
  pub none_bands : free_of unfreed'.bands ≡ 0
  pub chain : e'.Told → IsChained e'.base e'.steps e'.tail rows' actor'
  pub well : e'.Told → IsWell t limits (begin_of t e'.first e'.steps) (opened e'.steps) maps'.pages maps'.bands

-- a take-off that was stopped, of an action that was begun so, is to go on at this record
pub record IsResumable (t : Table) (kept : Kept) (begin : State) (e : EngineView) (maps unfreed : Maps) (rows : List Row) (actor : Actor) (at : ℕ) : Type 0 where
  pub begun : IsBegun kept begin
  pub off : IsOff t kept begin e maps unfreed rows actor at

-- there is such an action, whatever is taken
pub record CanResume (t : Table) (e : EngineView) (rows : List Row) (actor : Actor) (at : ℕ) : Type 0 where
  pub kept : Kept
  pub begin : State
  pub going : IsGoing t kept begin e rows actor at

-- the same where it isn't known what is taken: nothing is said of that then
pub record ActionOff (t : Table) (kept : Kept) (begin : State) (e : EngineView) (rows : List Row) (actor : Actor) : Type 0 where
  pub alike : Alike kept (now_of t e) begin
  pub chain : IsChained e.base e.steps e.tail rows actor
  pub rest : actor ≡ at_rest

-- ALL OF AN ACTION IS OFF: pages and bands can't be told from those at its begin, no action is open, and the next one begins well
pub record AllOff (t : Table) (limits : State → ℕ → ℕ) (kept : Kept) (begin : State) (e : EngineView) (maps : Maps) (rows : List Row) (actor : Actor) : Type 0 where
  pub alike : Alike kept (now_of t e) begin
  pub pages : (n : ℕ) → is_set maps.pages n ≡ kept.pages n
  pub bands : (n : ℕ) → is_set maps.bands n ≡ kept.bands n
  pub chain : IsChained e.base e.steps e.tail rows actor
  pub well : IsWell t limits (begin_of t e.first e.steps) (opened e.steps) maps.pages maps.bands
