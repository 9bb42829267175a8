-- What is so of a space and of a listener where a listing is told, to its end or not.
use Rattle.std.specs.Prelude.{◌≡◌, ℕ, ◌≤◌, List, Option, Result, Ok, Err}
use Rattle.sg_base.specs.Ends.{HasRisen, Takes, TakesFront}
use Rattle.sg_lines.specs.Heard.{Ears, HasHeard, WasCut}
use Rattle.sg_lines.specs.Parts.{Part}
use Rattle.sg_space.specs.View.{View, OnlyReads}
use Rattle.sg_space.specs.declared.space.ListFault.{ListFault}
use Rattle.sg_space.specs.declared.space.ListFault.TheVariants as lists
use Rattle.sg_space.specs.declared.space.SpaceFault.{SpaceFault}
use Rattle.sg_space.specs.declared.space.SpaceFault.TheVariants.{Disk}
use Rattle.sg_listing.specs.declared.fault.TellFault.{TellFault}
use Rattle.sg_listing.specs.declared.fault.TellFault.TheVariants.{Space, Memory, Listener}

-- why no list is told of, as a fault of the telling
abbrev pub list_fault : ListFault → TellFault
list_fault (lists.Space fault) = Space fault
list_fault lists.Memory = Memory

-- one thing holds unless the space failed, and another of its fault
abbrev pub OnSpace : {T : Type 0} → Result T TellFault → Type 0 → (SpaceFault → Type 0) → Type 0
OnSpace (Ok x) Held Failed = Held
OnSpace (Err (Space fault)) Held Failed = Failed fault
OnSpace (Err Memory) Held Failed = Held
OnSpace (Err Listener) Held Failed = Held

-- THE SPACE is only read, and no record is written. Its count of faults rises where the space failed, which is then for the disk, and nowhere else
pub record OnlyTold {T : Type 0} (old new : View) (result : Result T TellFault) : Type 0 where
  -- a space that isn't told is never told later
  pub told : new.Told → old.Told
  pub later : old.faults ≤ new.faults
  pub records : new.records ≡ old.records
  pub kept : OnSpace result (OnlyReads old new) (λ fault. fault ≡ Disk)
  pub counted : OnSpace result (new.faults ≡ old.faults) (λ _. HasRisen old.faults new.faults)

-- one thing holds unless the listener failed, and another where it did
abbrev pub OnListener : {T : Type 0} → Result T TellFault → Type 0 → Type 0 → Type 0
OnListener (Ok x) Held Failed = Held
OnListener (Err (Space fault)) Held Failed = Held
OnListener (Err Memory) Held Failed = Held
OnListener (Err Listener) Held Failed = Failed

-- THE LISTENER is the same one still. Its count of faults rises where it failed, and nowhere else
pub record CountsEars {S T : Type 0} (ears : Ears S) (old new : S) (result : Result T TellFault) : Type 0 where
  pub later : ears.faults old ≤ ears.faults new
  pub counted : OnListener result (ears.faults new ≡ ears.faults old) (HasRisen (ears.faults old) (ears.faults new))
  pub same : ears.who new ≡ ears.who old

-- It heard all of these parts where it was told them to the end, and failed in one of them where it failed. Where something else failed, nothing
-- is said of what it heard
abbrev pub IsTold : {S T : Type 0} → Ears S → S → List Part → S → Result T TellFault → Type 0
IsTold ears old parts new (Ok x) = HasHeard ears old parts new
IsTold ears old parts new (Err (Space fault)) = Unit {0}
IsTold ears old parts new (Err Memory) = Unit {0}
IsTold ears old parts new (Err Listener) = WasCut ears old parts new

-- A SINK took all of these bytes where nothing failed, and a front of them where it failed. Where something else failed, nothing is said of what it took
abbrev pub IsWritten : {T : Type 0} → Option (List ℕ) → List ℕ → Option (List ℕ) → Result T TellFault → Type 0
IsWritten had bytes has (Ok x) = Takes had bytes has
IsWritten had bytes has (Err (Space fault)) = Unit {0}
IsWritten had bytes has (Err Memory) = Unit {0}
IsWritten had bytes has (Err Listener) = TakesFront had bytes has
