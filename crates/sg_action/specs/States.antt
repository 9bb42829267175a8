-- Pages and bands, the changes of them that an action makes, and what takes these off again.
use Rattle.std.specs.Prelude.{◌≡◌, ℕ, ◌≤◌, ◌==◌, Bool, true, if◌then◌else◌, List, [], ◌∷◌, Option, Some, None, is_some, option_map, length}
use Rattle.sg_base.specs.Page.{stored}
use Rattle.sg_ops.specs.Table.{Table, range_at, rendered}
use Rattle.sg_base.specs.Overwritten.{overwritten}
use Rattle.sg_base.specs.Sheet.{Sheet, seen}
use Rattle.sg_base.specs.Op.{Op, is_format}
use Rattle.sg_ops.specs.Steps.{step}

-- how many pages and bands there are
pub record Extent : Type 0 where
  pub pages : ℕ
  pub bands : ℕ

-- what each page says, but for its number in the log, and the bytes of each band; and how many there are, which no change changes. A page of zeros
-- says nothing
pub record State : Type 0 where
  pub size : Extent
  pub pages : ℕ → Option Sheet
  pub bands : ℕ → List ℕ

-- the function with another value at one number
abbrev pub with_one : {A : Type 0} → (ℕ → A) → ℕ → A → ℕ → A
with_one f n v k = if k == n then v else f k

-- what a format finds on a page that says nothing
abbrev pub blank : Sheet
blank = record { kind = 0; links = (0, 0); slots = [] }

-- a format fits each page, any other operation one that says something
abbrev pub step_leaf : Table → Op → Option Sheet → Option Sheet
step_leaf t op None = if is_format op then step t op blank else None
step_leaf t op (Some sheet) = step t op sheet

-- an operation that doesn't fit changes nothing
abbrev pub or_same : Option Sheet → Option Sheet → Option Sheet
or_same None leaf = leaf
or_same (Some sheet) leaf = Some sheet

-- one change, as the log has it
pub data Change : Type 0 where
  -- an operation on a page, with the one that takes it off
  Page : (page : ℕ) → (op back : Op) → Change
  -- bytes of a band, with those that stood there
  Write : (band at : ℕ) → (before after : List ℕ) → Change
  -- bytes of a band that a range operation gives, with those that stood there; a band that is taken is filled with zeros and keeps none
  Paint : (band at count code position : ℕ) → (arg before : List ℕ) → Change

-- what a change makes of a state
abbrev pub apply : Table → State → Change → State
apply t x (Page n op back) = record x { pages = with_one x.pages n (or_same (step_leaf t op (x.pages n)) (x.pages n)) }
apply t x (Write b at before after) = record x { bands = with_one x.bands b (overwritten (x.bands b) at after) }
apply t x (Paint b at count code position arg before) = record x { bands = with_one x.bands b (overwritten (x.bands b) at (rendered (range_at t code) arg position count)) }

-- the change can be made
abbrev pub fits : Table → State → Change → Bool
fits t x (Page n op back) = is_some (step_leaf t op (x.pages n))
fits t x (Write b at before after) = true
fits t x (Paint b at count code position arg before) = true

-- the change that takes one off. The filling of a taken band is taken off by filling it again: it was free
abbrev pub inverse_of : Change → Change
inverse_of (Page n op back) = Page n back op
inverse_of (Write b at before after) = Write b at after before
inverse_of (Paint b at count code position arg []) = Paint b at count code position arg []
inverse_of (Paint b at count code position arg (x ∷ before)) = Write b at [] (x ∷ before)

-- what some changes made, the last one first in the list
abbrev pub made : Table → State → List Change → State
made t x [] = x
made t x (d ∷ ds) = apply t (made t x ds) d

-- the inverses of some changes, from the last back, each where it fits
abbrev pub all_off : Table → List Change → State → Option State
all_off t [] x = Some x
all_off t (d ∷ ds) x = if fits t x (inverse_of d) then all_off t ds (apply t x (inverse_of d)) else None

-- which pages and bands were taken when an action began, and how many slots each of these pages may have
pub record Kept : Type 0 where
  pub pages : ℕ → Bool
  pub bands : ℕ → Bool
  pub slots : ℕ → ℕ

-- how many slots a page has
abbrev pub leaf_count : Option Sheet → ℕ
leaf_count None = 0
leaf_count (Some sheet) = length sheet.slots

-- the bytes of its cells
abbrev pub leaf_stored : Option Sheet → ℕ
leaf_stored None = 0
leaf_stored (Some sheet) = stored sheet.slots

-- States that can't be told apart by what is seen of the pages and bands that were taken: pages differ in empty slots behind the last cell at
-- most, with no more slots than they may have.
pub record Alike (kept : Kept) (x y : State) : Type 0 where
  pub pages : (n : ℕ) → kept.pages n ≡ true → option_map seen (x.pages n) ≡ option_map seen (y.pages n)
  pub slots : (n : ℕ) → kept.pages n ≡ true → leaf_count (y.pages n) ≤ kept.slots n → leaf_count (x.pages n) ≤ kept.slots n
  pub bands : (b : ℕ) → kept.bands b ≡ true → x.bands b ≡ y.bands b
