-- What is known of each image of a store, in each of its lives.
use Rattle.std.specs.Prelude.{◌≡◌, ℕ, Option, option_map}
use Rattle.std.specs.List.{find}
use Rattle.sg_disk.specs.Disk.{Image, LeavesOnly, View}
use Rattle.sg_find.specs.Synced.{reads}
use Rattle.sg_gate.specs.declared.superblock.Super.{Super}
use Rattle.sg_ops.specs.Table.{Table}
use Rattle.sg_analysis.specs.Analysis.{acting, lacks_end, with_last}
use Rattle.sg_action.specs.States.{State}
use Rattle.sg_actions.specs.Engine.{Extent}
use Rattle.sg_actions.specs.Steps.{Steps}
use Rattle.sg_phys_laws.specs.Recovers.{RecoversBy}
use Rattle.sg_phys_laws.specs.Whole.{IsWholeImageOf}

-- AN IMAGE OF A STORE whose steps lead from these pages and bands: it holds all of a front of these steps with all that were durable, is sound
-- for it, and comes to what it makes of them. Each image is one of the steps of its own log
abbrev pub IsStoreImage : Table → (from : State) → (durable log : Steps) → Image → Type 0
IsStoreImage t from durable log c = IsWholeImageOf (RecoversBy t) t from durable log c

-- and one of some such store
abbrev pub IsSomeStoreImage : Table → Image → Type 0
IsSomeStoreImage t c = ∥ ((from : State) × (durable : Steps) × (log : Steps) × IsStoreImage t from durable log c) ∥₁

-- FROM THE SYNCS OF ITS OPENING ON each image that a crash leaves is one of the store of which the image is that was read, whichever that is
abbrev pub IsAttaching : Table → (old new mid : View) → Type 0
IsAttaching t old new mid = (from : State) (durable log : Steps) → IsStoreImage t from durable log (reads old) → LeavesOnly mid new (IsStoreImage t from durable log)

-- the system, or the transaction that goes on, whose action has no end, with the number of its last record
abbrev pub unfinished_of : Steps → Option (ℕ × ℕ)
unfinished_of rs = option_map (with_last rs) (find (lacks_end rs) (acting rs))

-- there are as many pages and bands as a superblock says
abbrev pub IsExtentOf : Super → Extent → Type 0
IsExtentOf s x = (x.pages ≡ s.pages) × (x.bands ≡ s.bands)
