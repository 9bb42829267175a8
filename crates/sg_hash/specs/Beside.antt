-- Hash tables side by side in one space, and what each of them is.
use Rattle.std.specs.Prelude.{ℕ, ◌≤◌, length, Option}
use Rattle.sg_base.specs.Sheet.{Sheet}
use Rattle.sg_bucket.specs.Entry.{AreOnce}
use Rattle.sg_space.specs.View.{Space}
use Rattle.sg_hash.specs.Calls.{Turns, IsMade, IsGone}
use Rattle.sg_hash.specs.Table.{HashTable, IsHashTable, Owns, entries, most_pages, page_count}

-- two tables stand there, and no page is of both
pub record AreTwo (at : ℕ → Option Sheet) (root : ℕ) (t : HashTable) (other : ℕ) (u : HashTable) : Type 0 where
  pub one : IsHashTable at root t
  pub two : IsHashTable at other u
  pub apart : (p : ℕ) → Owns root t p → ¬ Owns other u p

-- What a call does to one table leaves each other one as it was, and apart from it.
pub record StandApart : Type 0 where
  pub made : (old new : Space) (root other : ℕ) (t u : HashTable) → IsHashTable old.pages.at other u → IsMade old new root t → AreTwo new.pages.at root t other u
  pub turned : (old new : Space) (root other : ℕ) (t t' u : HashTable) → AreTwo old.pages.at root t other u → Turns old new root t t' → AreTwo new.pages.at root t' other u
  pub gone : (old new : Space) (root other : ℕ) (t u : HashTable) → AreTwo old.pages.at root t other u → IsGone old new root t → IsHashTable new.pages.at other u

-- A table has no more pages than its peak and its entries allow.
abbrev pub KeepsBound : Type 0
KeepsBound = (at : ℕ → Option Sheet) (root : ℕ) (t : HashTable) → IsHashTable at root t → page_count t ≤ most_pages t.peak (length (entries t))

-- Each key is that of one entry of the whole table.
abbrev pub KeepsOnce : Type 0
KeepsOnce = (at : ℕ → Option Sheet) (root : ℕ) (t : HashTable) → IsHashTable at root t → AreOnce (entries t)
