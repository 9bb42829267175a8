-- What becomes of a space over an engine round calls on its objects.
use Rattle.std.specs.Prelude.{◌≡◌, ◌⊎◌, ◌+◌, ◌<◌, ◌≤◌, Bool, true, false, length, Result, Ok, Err}
use Rattle.sg_base.specs.Ends.{HasRisen}
use Rattle.sg_action.specs.States.{State}
use Rattle.sg_actions.specs.Engine.{EngineSeen, StandsNow, led}
use Rattle.sg_actions.specs.Engine as engine
use Rattle.sg_actions.specs.Images.{Grows}
use Rattle.sg_actions.specs.Steps.{repeated}
use Rattle.sg_actions.specs.declared.acts.Acts.{Acts}
use Rattle.sg_actions.specs.declared.engine.Engine.{Ghosts}
use Rattle.sg_objects.specs.declared.need.Needs.{Needs}
use Rattle.sg_objects.specs.declared.verb.ObjFault.{ObjFault as ObjectsFault}
use Rattle.sg_objects.specs.declared.verb.ObjFault.TheVariants as objects
use Rattle.sg_ops.specs.Laws.{IsLawful}
use Rattle.sg_ops.specs.Table.{Table}
use Rattle.sg_space.specs.declared.space.ListFault.{ListFault}
use Rattle.sg_space.specs.declared.space.ListFault.TheVariants as lists
use Rattle.sg_space.specs.declared.space.SpaceFault.{SpaceFault}
use Rattle.sg_space.specs.declared.space.SpaceFault.TheVariants as faults
use Rattle.sg_shown.specs.Shown.{Over}
use Rattle.sg_store.specs.declared.fault.Needed.{Needed}
use Rattle.sg_store.specs.declared.fault.ObjFault.{ObjFault}
use Rattle.sg_store.specs.declared.fault.ObjFault.TheVariants as store

-- what is so of every engine under a space: what it holds is what its steps make, and where it tells it has not failed and each image that a crash
-- now leaves has a front of its steps. One that has not failed counts no failure, and where it tells no break is counted
pub record IsSound {E : Type 0} {g : Ghosts E} (s : Acts E g) : Type 0 where
  pub whole : (g.view s.engine).Told → (g.view s.engine).failed ≡ false
  pub full : (g.view s.engine).full ≡ true → (g.view s.engine).failed ≡ true
  pub unfailed : (g.view s.engine).failed ≡ false → (g.view s.engine).faults ≡ 0
  pub unbroken : (g.view s.engine).Told → s.breaks ≡ 0
  pub durable : (g.view s.engine).Told → Grows (g.view s.engine).durable (g.view s.engine).steps
  pub law : (t : Table) (from : State) → g.means s.engine t from → IsLawful t
  pub now : (t : Table) (from : State) → g.means s.engine t from → (g.view s.engine).Told → (g.view s.engine).now ≡ repeated t from (g.view s.engine).steps
  pub images : (t : Table) (from : State) → g.means s.engine t from → (g.view s.engine).Told → StandsNow (g.recovers t) t (led from (g.view s.engine))

-- the same but for whether an action was begun, and what the engine held then
pub record IsAside {E : Type 0} {g : Ghosts E} (old new : Acts E g) : Type 0 where
  pub engine : new.engine ≡ old.engine
  pub maps : new.maps ≡ old.maps
  pub unfreed : new.unfreed ≡ old.unfreed
  pub rows : new.rows ≡ old.rows
  pub actor : new.actor ≡ old.actor
  pub breaks : new.breaks ≡ old.breaks

-- whoever acts has paused
pub record HasPaused {E : Type 0} {g : Ghosts E} (old new : Acts E g) : Type 0 where
  pub aside : IsAside old new
  pub begun : new.begun ≡ false
  pub begun_at : new.begun_at ≡ old.begun_at

-- whoever acted goes on, from what the engine holds
pub record HasGoneOn {E : Type 0} {g : Ghosts E} (was : Bool) (old new : Acts E g) : Type 0 where
  pub aside : IsAside old new
  pub begun : new.begun ≡ was
  pub begun_at : new.begun_at.value ≡ old.engine

-- whoever acts has paused, unless something may be changed
abbrev pub HasHeld : {E : Type 0} {g : Ghosts E} → (changes was : Bool) → (old new : Acts E g) → Type 0
HasHeld true was old new = new ≡ old
HasHeld false was old new = HasPaused old new × (was ≡ old.begun)

-- and goes on
abbrev pub HasReleased : {E : Type 0} {g : Ghosts E} → (changes was : Bool) → (old new : Acts E g) → Type 0
HasReleased true was old new = new ≡ old
HasReleased false was old new = HasGoneOn was old new

-- WHY CALLS FAILED, by what the engine remembers. It has failed for the disk,
abbrev pub HasLost : EngineSeen → Type 0
HasLost e = (e.failed ≡ true) × (e.full ≡ false)

-- or it has not,
abbrev pub IsHeld : EngineSeen → Type 0
IsHeld e = e.failed ≡ true → e.full ≡ true

-- and the log may be near its end
abbrev pub IsNear : EngineSeen → Type 0
IsNear e = engine.LOG_END < e.tail + 131072

-- A FAULT is the log's end where calls may come to that and the engine hasn't failed for the disk. Else it is the disk's, and a break is counted:
-- the engine has failed for it, or a call failed, and that not near the log's end
abbrev pub IsWhy : (ends failed : Bool) → (old new : Over) → SpaceFault → Type 0
IsWhy ends failed old new faults.LogEnd = (ends ≡ true) × IsNear old.engine × IsHeld old.engine
IsWhy ends failed old new faults.Disk = HasRisen (old.engine.faults + old.breaks) (new.engine.faults + new.breaks)
    × (HasLost old.engine ⊎ ((failed ≡ true) × (ends ≡ true → IsNear old.engine → ⊥)))

-- nothing more is asked of the engine, which tells no more. All else is as before
pub record IsGivenUp (ends failed : Bool) (old new : Over) (fault : SpaceFault) : Type 0 where
  pub silent : new.engine.Told → ⊥
  pub disk : new.engine.disk ≡ old.engine.disk
  pub gate : new.engine.gate ≡ old.engine.gate
  pub tail : new.engine.tail ≡ old.engine.tail
  pub later : old.engine.faults + old.breaks ≤ new.engine.faults + new.breaks
  pub means : (t : Table) (from : State) → old.means t from → new.means t from
  pub pages : length new.maps.pages ≡ length old.maps.pages
  pub bands : length new.maps.bands ≡ length old.maps.bands
  pub limits : new.limits ≡ old.limits
  pub why : IsWhy ends failed old new fault

-- whether a list failed for the space, and not for want of memory
abbrev pub is_list_failed : {T : Type 0} → Result T ListFault → Bool
is_list_failed (Ok x) = false
is_list_failed (Err lists.Memory) = false
is_list_failed (Err (lists.Space fault)) = true

-- whether a need failed for the space, and wasn't refused
abbrev pub is_need_failed : Result Needs ObjectsFault → Bool
is_need_failed (Ok n) = false
is_need_failed (Err (objects.Model reason)) = false
is_need_failed (Err (objects.Space fault)) = true

-- a need as a store is told it
abbrev pub told_need : Result Needs ObjectsFault → Result Needed ObjFault
told_need (Ok n) = Ok (record { pages = n.pages; bands = n.bands; reserve = n.reserve })
told_need (Err (objects.Model reason)) = Err (store.Model reason)
told_need (Err (objects.Space fault)) = Err (store.Space fault)
