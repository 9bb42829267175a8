-- What is known of a space in memory that tells nothing, and what each of its calls does.
use Rattle.std.specs.Prelude.{◌≡◌, ◌≤◌, ⊤, false, IsSome}
use Rattle.sg_base.specs.Ends.{HasRisen}
use Rattle.sg_base.specs.Op.{Op, is_format}
use Rattle.sg_base.specs.Sheet.{Sheet}
use Rattle.sg_ops.specs.Steps.{step}
use Rattle.sg_ops.specs.Table.{Table}
use Rattle.sg_space.specs.Memory.{space_of, memory_view}
use Rattle.sg_space.specs.View.{View}
use Rattle.sg_space.specs.declared.guarded.Guarded.{Guarded}

-- it shows its contents, knows no actions and no log, and counts its faults
abbrev pub guarded_view : Guarded → View
guarded_view s = record {
  Told = ⊥;
  Shows = ⊤;
  space = space_of s.space;
  faults = s.faults;
  records = 0;
  IsNearEnd = ⊥;
  MayTake = ⊤;
  MayHave = λ page slots. ⊤;
  HasWritten = λ band. ⊥;
  IsStill = ⊤;
}

-- the space in memory within, which tells its contents
abbrev pub inner_view : Guarded → View
inner_view s = memory_view s.space

-- A call that can't be done is refused: pages and bands are as they were, and one more failure is counted, as far as the count goes.
pub record IsRefused (old new : Guarded) : Type 0 where
  pub same : space_of new.space ≡ space_of old.space
  pub risen : HasRisen old.faults new.faults
  pub later : old.faults ≤ new.faults

-- an operation can be done to a page that says this
pub record CanBeDone (t : Table) (op : Op) (sheet : Sheet) : Type 0 where
  pub plain : is_format op ≡ false
  pub fits : IsSome (step t op sheet)
