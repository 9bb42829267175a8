-- The marked bytes of a window go to the home area.
use Rattle.std.specs.Prelude.{◌≡◌, ◌<◌, ◌≤◌, ◌+◌, ◌-◌, ℕ, Bool, List, get_or}
use Rattle.sg_base.specs.declared.area.Area.{Area}
use Rattle.sg_base.specs.declared.area.Area.TheVariants.{Home}
use Rattle.sg_disk.specs.Disk.{Image, State, Spoils, LeavesPart}
use Rattle.sg_segment.specs.Runs.{IsMarked}

-- byte i of the home area is a marked byte of the window that begins at base, one of the first `end` of it
abbrev pub IsMarkedAt : ℕ → List Bool → ℕ → ℕ → Type 0
IsMarkedAt base marks end i = (base ≤ i) × (i < base + end) × IsMarked marks (i - base)

-- AN IMAGE OF A MOMENT: each byte but those that may be torn is as a crash could have left it in that state
pub record IsTorn (s : State) (IsOpen : ℕ → Type 0) (c : Image) : Type 0 where
  pub home : (i : ℕ) → (IsOpen i → ⊥) → (Spoils (s Home).pending i → ⊥) → c Home i ≡ (s Home).seen i
  pub fits : (i : ℕ) → c Home i < 256
  pub others : (b : Area) → (b ≡ Home → ⊥) → LeavesPart (s b) (c b)

-- each byte but those is as it was, and isn't pending where it wasn't
pub record IsSameBut (s t : State) (IsOpen : ℕ → Type 0) : Type 0 where
  pub seen : (i : ℕ) → (IsOpen i → ⊥) → (t Home).seen i ≡ (s Home).seen i
  pub pending : (i : ℕ) → (IsOpen i → ⊥) → (Spoils (s Home).pending i → ⊥) → Spoils (t Home).pending i → ⊥
  pub others : (b : Area) → (b ≡ Home → ⊥) → t b ≡ s b

-- THE MARKED BYTES AMONG THE FIRST `end` HAVE BEEN WRITTEN, and no other byte
pub record AreWritten (s t : State) (base : ℕ) (window : List ℕ) (marks : List Bool) (end : ℕ) : Type 0 where
  pub there : (k : ℕ) → k < end → IsMarked marks k → (t Home).seen (base + k) ≡ get_or window k 0
  pub rest : IsSameBut s t (IsMarkedAt base marks end)
