-- A space of which each page goes on by operations of a table.
use Rattle.std.specs.Prelude.{◌≡◌, ℕ, ◌≤◌, Option, Some, None, IsSome, IfSome, false, ⊤}
use Rattle.std.proofs.Common.{arith}
use Rattle.sg_base.specs.Op.{Op}
use Rattle.sg_base.specs.Sheet.{Sheet}
use Rattle.sg_ops.specs.Steps.{step}
use Rattle.sg_ops.specs.Table.{Table, range_at}
use Rattle.sg_space.specs.Memory.{space_of}
use Rattle.sg_space.specs.Pages.{empty_sheet}
use Rattle.sg_space.specs.View.{View}
use Rattle.sg_tests_steps.specs.declared.steps.StepSpace.{StepSpace}

-- It tells all, and counts its faults and its records. Nothing is taken once something was freed, and a page has as many slots as it has
-- bytes for.
abbrev pub steps_view : StepSpace → View
steps_view s = record {
  Told = ⊤;
  Shows = ⊤;
  space = space_of s.space;
  faults = s.faults;
  records = s.records;
  IsNearEnd = ⊥;
  MayTake = s.freed ≡ false;
  MayHave = λ page slots. slots ≤ 1018;
  HasWritten = λ band. s.written ≡ Some band;
  IsStill = s.changed ≡ false;
}

-- the range operation that painted last is one of the table
abbrev pub Means : StepSpace → Table → Type 0
Means s t = IfSome s.painted (λ code. IsSome (range_at t code))

-- a page went from there to there by operations of the table, by formats and by frees
pub data Goes (t : Table) : Option Sheet → Option Sheet → Type 0 where
  stays : {x : Option Sheet} → Goes t x x
  steps : {x : Option Sheet} {y z : Sheet} (op : Op) → Goes t x (Some y) → step t op y ≡ Some z → Goes t x (Some z)
  is_taken : {x : Option Sheet} (kind : ℕ) → Goes t x None → Goes t x (Some (empty_sheet kind))
  is_freed : {x : Option Sheet} {y : Sheet} → Goes t x (Some y) → Goes t x None

-- each page went so, and no fewer calls are left than there were
pub record Later (t : Table) (a b : StepSpace) : Type 0 where
  pub pages : (p : ℕ) → Goes t ((space_of a.space).pages.at p) ((space_of b.space).pages.at p)
  pub left : b.left ≤ a.left
  pub faults : a.faults ≤ b.faults

pub goes_then : {t : Table} {x y z : Option Sheet} → Goes t x y → Goes t y z → Goes t x z
goes_then f stays = f
goes_then f (steps op g e) = steps op (goes_then f g) e
goes_then f (is_taken kind g) = is_taken kind (goes_then f g)
goes_then f (is_freed g) = is_freed (goes_then f g)

pub later_same : (t : Table) (s : StepSpace) → Later t s s
later_same t s = record { pages = λ p. stays; left = omega arith; faults = omega arith }

pub later_then : (t : Table) (a b c : StepSpace) → Later t a b → Later t b c → Later t a c
later_then t a b c f g = record {
  pages = λ p. goes_then (f.pages p) (g.pages p);
  left = let x = f.left in let y = g.left in omega arith;
  faults = let x = f.faults in let y = g.faults in omega arith;
}
