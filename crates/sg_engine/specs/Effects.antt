-- What a record of a page store does to the home area.
use Rattle.std.specs.Prelude.{◌≡◌, ℕ, List, Option, Some, None, IsSomeAnd}
use Rattle.sg_ops.specs.Table.{Table, range_at, rendered}
use Rattle.sg_record.specs.Changes.{Change, PageChange}
use Rattle.sg_record.specs.Changes.Change.{Page, SegWrite, SegOp}
use Rattle.sg_record.specs.Records.{Record}
use Rattle.sg_record.specs.Records.Says.{Changed, PhysComp}
use Rattle.sg_record.specs.Shown.{by}
use Rattle.sg_redo.specs.Page.{made}
use Rattle.sg_redo.specs.Places.{op_said, changed_by}
use Rattle.sg_pool.specs.Well.{IsWell}
use Rattle.sg_engine.specs.History.{Effect, ChangesPage, ChangesBand, ChangesNothing}
use Rattle.sg_engine.specs.Engine.{Origin}

-- the effect of a change that a record with this number makes
abbrev pub effect_of : Table → (lsn : ℕ) → Option Change → Effect
effect_of t lsn None = ChangesNothing
effect_of t lsn (Some (Page c)) = ChangesPage c.page (made t lsn (op_said c))
effect_of t lsn (Some (SegWrite c)) = ChangesBand c.band c.at c.after
effect_of t lsn (Some (SegOp c)) = ChangesBand c.band c.at (rendered (range_at t c.code) c.arg c.position c.count)

-- and of the record
abbrev pub effect_in : Table → (lsn : ℕ) → Record → Effect
effect_in t lsn r = effect_of t lsn (changed_by r.says)

-- what records do in this store is what these operations say
pub record IsBy (t : Table) (o : Origin) : Type 0 where
  pub says : (lsn : ℕ) (r : Record) → o.effect lsn r ≡ effect_in t lsn r

-- the change fits these bytes of its page, by the record with this number, and leaves them a page
abbrev pub FitsPage : Table → (lsn : ℕ) → PageChange → List ℕ → Type 0
FitsPage t lsn c page = IsSomeAnd (made t lsn (op_said c) page) IsWell

-- the record of a change, and of one that takes a change off
abbrev pub logged : (txn prev : ℕ) → Change → Record
logged txn prev change = by txn prev (Changed change)

abbrev pub taken_off : (txn prev undo_next : ℕ) → Change → Record
taken_off txn prev undo_next change = by txn prev (PhysComp undo_next change)
