-- What it says that the count of faults rose, of a call that ends the value which counts: a run, a refused opening, a close. A read whose
-- bytes are no page, no record or no structure counts in that value alone, and not in the disk.
use Rattle.std.specs.Prelude.{◌≡◌, ◌⊎◌, ℕ, Bool, true, false}
use Rattle.sg_base.specs.Ends.{HasRisen}
use Rattle.sg_disk.specs.Disk.{Image}
use Rattle.sg_ops.specs.Table.{Table as Operations}
use Rattle.sg_model.specs.Objects.{Objects}
use Rattle.sg_store.specs.Ground.{Ground}
use Rattle.sg_store.specs.Stands.{StandsFor}

-- the disk's own count rose, or the disk doesn't tell what it holds, or the image that opening read stands for no objects
abbrev pub CountRose : (t : Operations) (g : Ground) → (told : Bool) (before now : ℕ) → Image → Type 0
CountRose t g told before now c = HasRisen before now ⊎ ((told ≡ false) ⊎ ((m : Objects) → StandsFor t g c m → ⊥))

-- of the listing of a log, which asks nothing of pages
abbrev pub ListingCountRose : (told : Bool) (before now : ℕ) → Type 0
ListingCountRose told before now = HasRisen before now ⊎ (told ≡ false)

-- on a disk that tells, whose image stands for objects, it is the disk's own count
abbrev pub OwnCountRose : Ground → Type 0
OwnCountRose g = (t : Operations) (told : Bool) (before now : ℕ) (c : Image) (m : Objects) → told ≡ true → StandsFor t g c m → CountRose t g told before now c → HasRisen before now
