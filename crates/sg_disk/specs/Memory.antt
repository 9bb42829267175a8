-- A disk in memory, and its record of calls.
use Rattle.std.specs.Prelude.{◌+◌, ℕ, Bool, IsTrue, List, [], ◌∷◌, Some, None, get_or}
use Rattle.sg_disk.specs.Disk.{Bytes, Image, Range, Spoils, LeavesPart, State, View, at_area, put}
use Rattle.sg_base.specs.declared.area.Area.{Area}
use Rattle.sg_base.specs.declared.area.Area.TheVariants.{Home, Log0, Log1}
use Rattle.sg_disk.specs.declared.record.Call.{Call}
use Rattle.sg_disk.specs.declared.record.Call.TheVariants.{Write, Drop, Sync}

-- the bytes of a vector, and 0 past its end
abbrev pub bytes_of : List ℕ → Bytes
bytes_of xs i = get_or xs i 0

abbrev pub image_of : List ℕ → List ℕ → List ℕ → Image
image_of home log0 log1 Home = bytes_of home
image_of home log0 log1 Log0 = bytes_of log0
image_of home log0 log1 Log1 = bytes_of log1

-- the image before a call, by the bytes that it took the place of
abbrev pub undone : Call → Image → Image
undone (Write a at len old) f = at_area a (put at old.items (f a)) f
undone (Drop a at old) f = at_area a (put at old.items (f a)) f
undone (Sync a) f = f

-- the pending ranges after these calls, the latest first
abbrev pub pending_of : List Call → Area → List Range
pending_of [] = λ a. []
pending_of (Write a at len old ∷ calls) = at_area a (record { from = at; to = Some (at + len) } ∷ pending_of calls a) (pending_of calls)
pending_of (Drop a at old ∷ calls) = at_area a (record { from = at; to = None } ∷ pending_of calls a) (pending_of calls)
pending_of (Sync a ∷ calls) = at_area a [] (pending_of calls)

abbrev pub state_of : Image → List Call → State
state_of f calls a = record { seen = f a; pending = pending_of calls a }

-- the states before each of them
abbrev pub past_of : Image → List Call → List State
past_of f [] = []
past_of f (call ∷ calls) = state_of (undone call f) calls ∷ past_of (undone call f) calls

abbrev pub memory_view : Image → List Call → ℕ → ℕ → ℕ → View
memory_view f record_of handed calls faults = record { now = state_of f record_of; past = past_of f record_of; handed = handed; calls = calls; faults = faults }

-- an area of a disk in memory after a crash, with so many of its calls still to go through
pub record IsCrashing (first rest : List Call) (a : Area) (unsynced : Bool) (seen now : Bytes) : Type 0 where
  pub leaves : LeavesPart (record { seen = seen; pending = pending_of first a }) now
  pub within : IsTrue unsynced → (i : ℕ) → Spoils (pending_of rest a) i → Spoils (pending_of first a) i
