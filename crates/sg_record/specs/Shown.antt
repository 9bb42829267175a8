-- The code's records without where their bytes lie in memory.
use Rattle.std.specs.Prelude.{ℕ, Result, Ok, Err}
use Rattle.sg_record.specs.Changes.{Change, PageChange, BandBytes, BandOp}
use Rattle.sg_record.specs.Changes.Change.{Page, SegWrite, SegOp}
use Rattle.sg_record.specs.Records.{Record, Says}
use Rattle.sg_record.specs.Records.Says.{Begin, Changed, TopEnd, PhysComp, TopVoid, CompEnd, Save, Commit, End, Checkpoint}
use Rattle.sg_record.specs.declared.record.PageChange as code_page
use Rattle.sg_record.specs.declared.record.BandBytes as code_bytes
use Rattle.sg_record.specs.declared.record.BandOp as code_op
use Rattle.sg_record.specs.declared.record.Change as code_change
use Rattle.sg_record.specs.declared.record.Change.TheVariants as changes
use Rattle.sg_record.specs.declared.record.Rec as code
use Rattle.sg_record.specs.declared.record.Rec.TheVariants as records
use Rattle.sg_record.specs.declared.says.Says as code_says
use Rattle.sg_record.specs.declared.says.Says.TheVariants as parts

abbrev pub shown_page : code_page.PageChange → PageChange
shown_page c = record { page = c.page.0; operation = c.operation; slot = c.slot; code = c.code; before = c.before.now; after = c.after.now }

abbrev pub shown_bytes : code_bytes.BandBytes → BandBytes
shown_bytes c = record { band = c.band.0; at = c.at; count = c.count; before = c.before.now; after = c.after.now }

abbrev pub shown_op : code_op.BandOp → BandOp
shown_op c = record { band = c.band.0; at = c.at; count = c.count; code = c.code; position = c.position; arg = c.arg.now; before = c.before.now }

abbrev pub shown_change : code_change.Change → Change
shown_change (changes.Page c) = Page (shown_page c)
shown_change (changes.SegWrite c) = SegWrite (shown_bytes c)
shown_change (changes.SegOp c) = SegOp (shown_op c)

-- what a record says, by the code's own value
abbrev pub shown_says : code_says.Says → Says
shown_says parts.Begin = Begin
shown_says (parts.Changed change) = Changed (shown_change change)
shown_says (parts.TopEnd undo_next note) = TopEnd undo_next note.now
shown_says (parts.PhysComp undo_next change) = PhysComp undo_next (shown_change change)
shown_says (parts.TopVoid undo_next) = TopVoid undo_next
shown_says (parts.CompEnd undo_next) = CompEnd undo_next
shown_says (parts.Save mark) = Save mark
shown_says parts.Commit = Commit
shown_says parts.End = End
shown_says (parts.Checkpoint estimate live) = Checkpoint estimate live.now

abbrev pub by : (transaction previous : ℕ) → Says → Record
by transaction previous says = record { transaction = transaction; previous = previous; says = says }

abbrev pub shown : code.Rec → Record
shown (records.Begin txn prev) = by txn.0 prev Begin
shown (records.Page txn prev change) = by txn.0 prev (Changed (Page (shown_page change)))
shown (records.SegWrite txn prev change) = by txn.0 prev (Changed (SegWrite (shown_bytes change)))
shown (records.SegOp txn prev change) = by txn.0 prev (Changed (SegOp (shown_op change)))
shown (records.TopEnd txn prev undo_next note) = by txn.0 prev (TopEnd undo_next note.now)
shown (records.PhysComp txn prev undo_next change) = by txn.0 prev (PhysComp undo_next (shown_change change))
shown (records.TopVoid txn prev undo_next) = by txn.0 prev (TopVoid undo_next)
shown (records.CompEnd txn prev undo_next) = by txn.0 prev (CompEnd undo_next)
shown (records.Save txn prev mark) = by txn.0 prev (Save mark)
shown (records.Commit txn prev) = by txn.0 prev Commit
shown (records.End txn prev) = by txn.0 prev End
shown (records.Checkpoint estimate live) = by 0 0 (Checkpoint estimate live.now)

-- the record that was read and its length, or why there is none
abbrev pub shown_read : {E : Type 0} → Result (code.Rec × ℕ) E → Result (Record × ℕ) E
shown_read (Ok p) = Ok (shown p.0, p.1)
shown_read (Err e) = Err e
