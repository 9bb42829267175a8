-- An array that a caller knows.
use Rattle.std.specs.Prelude.{◌≡◌, ℕ, List}
use Rattle.sg_space.specs.View.{View}
use Rattle.sg_array.specs.Array.{Array, IsArray}

-- there is an array of items of this size, which are these
pub record Holds (v : View) (root size : ℕ) (items : List (List ℕ)) : Type 0 where
  pub array : Array
  pub there : IsArray v.space.pages.at root array
  pub items_are : array.items ≡ items
  pub size_is : array.size ≡ size
