-- Two items in a list of a space in memory.
use Rattle.std.specs.Prelude.{◌≡◌, ◌≢◌, ℕ, ◌+◌, List, [], ◌∷◌, None}
use Rattle.sg_space.specs.View.{Space}
use Rattle.sg_list.specs.Items.{Stands}

-- a page that was free is the list of these two, which were read back from it, and nothing else has changed
pub record Keeps (old new : Space) (first second : List ℕ) (root : ℕ) (a b : List ℕ) : Type 0 where
  pub was_free : old.pages.at root ≡ None
  pub list : Stands new root (first ∷ second ∷ [])
  pub first_is : a ≡ first
  pub second_is : b ≡ second
  pub others : (p : ℕ) → p ≢ root → new.pages.at p ≡ old.pages.at p
  pub free : new.pages.free + 1 ≡ old.pages.free
  pub bands : new.bands ≡ old.bands
