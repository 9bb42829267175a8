-- An operation of a record as a page has it.
use Rattle.std.specs.Prelude.{ℕ, ◌&&◌, ◌||◌, Bool, if◌then◌else◌, List, Option, Some, None, is_some}
use Rattle.sg_base.specs.Op.{Op, is_format}
use Rattle.sg_base.specs.Sheet.{sheet_of}
use Rattle.sg_base.specs.Slotted.{is_slotted}
use Rattle.sg_ops.specs.Steps.{step}
use Rattle.sg_ops.specs.Table.{Table}
use Rattle.sg_slotted.specs.Layout.{lsn_layout}
use Rattle.sg_step.specs.Changed.{changed}
use Rattle.sg_redo.specs.History.{OnPage}

-- the operation fits: a format each page, and any other a page of slots on which its step is defined
unfoldable pub fits : Table → Op → List ℕ → Bool
fits t op page = is_format op || (is_slotted page && is_some (step t op (sheet_of page)))

-- the page with the operation done and the number set, where it fits
unfoldable pub made : Table → ℕ → Op → List ℕ → Option (List ℕ)
made t lsn op page = if fits t op page then Some (lsn_layout (changed t op page) lsn) else None

-- the record as a page has it
abbrev pub on_page : Table → ℕ → Op → OnPage
on_page t lsn op = record { lsn = lsn; makes = made t lsn op }
