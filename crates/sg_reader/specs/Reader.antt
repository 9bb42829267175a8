-- WHAT FINDS CONTENTS in states, and the limits of the pages that contents have.
use Rattle.std.specs.Prelude.{◌≡◌, ℕ, ◌⊎◌, true, Option, Some, None}
use Rattle.sg_action.specs.States.{State, Kept}
use Rattle.sg_contents.specs.Standing.{Contents, IsReachedPage, IsReachedBand}
use Rattle.sg_contents.specs.Meaning.{reading}
use Rattle.sg_contents.specs.Limits.{limit}
use Rattle.sg_reader.specs.Alike.{ReadsAs}

-- it is decided what a state reads as: there are such contents, or there can be none
abbrev pub Decides : (pages bands : ℕ) → Type 0
Decides pages bands = (x : State) → ((s : Contents) × ReadsAs pages bands x s) ⊎ ((s : Contents) → ReadsAs pages bands x s → ⊥)

-- A READER of states: it finds contents wherever there are some. What it finds means what any contents there mean
pub record Reader (pages bands : ℕ) : Type 0 where
  pub contents : State → Option Contents
  pub sound : (x : State) (s : Contents) → contents x ≡ Some s → ReadsAs pages bands x s
  pub finds : (x : State) (s : Contents) → ReadsAs pages bands x s → (r : Contents) × (contents x ≡ Some r) × (reading r ≡ reading s)

-- THE LIMITS of pages when an action begins: by what they are, where the pages read as something
abbrev pub limits_in : Option Contents → State → (page : ℕ) → ℕ
limits_in None x page = 1018
limits_in (Some s) x page = limit s x.pages page

abbrev pub limits : {pages bands : ℕ} → Reader pages bands → State → (page : ℕ) → ℕ
limits reader x page = limits_in (reader.contents x) x page

-- what was taken when an action began: each page and band that the pages' contents reach, with its limit
pub record KeepsReached {count count_bands : ℕ} (reader : Reader count count_bands) (kept : Kept) (begin : State) (s : Contents) : Type 0 where
  pub pages : (p : ℕ) → IsReachedPage s p → kept.pages p ≡ true
  pub slots : (p : ℕ) → IsReachedPage s p → kept.slots p ≡ limits reader begin p
  pub bands : (b : ℕ) → IsReachedBand s b → kept.bands b ≡ true
