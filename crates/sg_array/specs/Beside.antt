-- Arrays side by side in one space.
use Rattle.std.specs.Prelude.{◌≡◌, ℕ, ◌+◌, ◌≤◌, max, Option}
use Rattle.sg_base.specs.Sheet.{Sheet}
use Rattle.sg_space.specs.View.{Space}
use Rattle.sg_array.specs.Array.{Array, IsArray, Owns, page_count, pages_for}
use Rattle.sg_array.specs.Calls.{Turns, IsMade, IsGone, empty_array}

-- two arrays stand there, and no page is of both
pub record AreTwo (pages : ℕ → Option Sheet) (root : ℕ) (a : Array) (other : ℕ) (b : Array) : Type 0 where
  pub one : IsArray pages root a
  pub two : IsArray pages other b
  pub apart : (p : ℕ) → Owns root a p → ¬ Owns other b p

-- What a call does to one array leaves each other one as it was, and apart from it.
pub record StandApart : Type 0 where
  pub made : (old new : Space) (root size other : ℕ) (b : Array) → IsArray old.pages.at other b → IsMade old new root size → AreTwo new.pages.at root (empty_array size) other b
  pub turned : (old new : Space) (root other : ℕ) (a a' b : Array) → AreTwo old.pages.at root a other b → Turns old new root a a' → AreTwo new.pages.at root a' other b
  pub gone : (old new : Space) (root other : ℕ) (a b : Array) → AreTwo old.pages.at root a other b → IsGone old new root a → IsArray new.pages.at other b

-- How many pages an array has, and how many more it wants for one item more.
pub record KeepsBound : Type 0 where
  pub exactly : (pages : ℕ → Option Sheet) (root : ℕ) (a : Array) → IsArray pages root a → page_count a ≡ pages_for a.size a.peak
  pub next : (size count peak : ℕ) → size ≤ 256 → count ≤ peak → pages_for size (max peak (count + 1)) ≤ pages_for size peak + 2
