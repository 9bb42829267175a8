-- Each entry keeps the law of its sort, where each box does.
use Rattle.std.proofs.Common.{rules}
use Rattle.std.specs.declared.alloc.Global.{Global}
use Rattle.std.specs.declared.dyn_box.DynBox.{DynBox}
use Rattle.sg_ops.specs.AddLaw.{add_is_undoable}
use Rattle.sg_ops.specs.XorLaw.{xor_is_undoable}
use Rattle.sg_ops.specs.RotateLaw.{rotate_is_undoable}
use Rattle.sg_ops.specs.declared.entries.RecordEntry.{RecordEntry}
use Rattle.sg_ops.specs.declared.entries.RecordEntry.TheVariants as record_entry
use Rattle.sg_ops.specs.declared.entries.RangeEntry.{RangeEntry}
use Rattle.sg_ops.specs.declared.entries.RangeEntry.TheVariants as range_entry
use Rattle.sg_ops.specs.Meaning.{RecordMeaning, RangeMeaning, IsUndoable, GivesBytes}
use Rattle.sg_ops.specs.Shipped.{ramp_meaning}
use Rattle.sg_ops.specs.Table.{record_of, range_of}

pub keeps_law : {X : Type 0} {F : X → Type 0} (r : DynBox X Global F → RecordMeaning) → ((b : DynBox X Global F) → IsUndoable (r b)) → (entry : RecordEntry X F) → IsUndoable (record_of r entry)
keeps_law r law record_entry.Add = add_is_undoable
keeps_law r law record_entry.Xor = xor_is_undoable
keeps_law r law record_entry.Rotate = rotate_is_undoable
keeps_law r law (record_entry.Brought b) = law b

ramp_gives_bytes : GivesBytes ramp_meaning
ramp_gives_bytes arg position bytes within = search rules

pub gives : {Y : Type 0} {G : Y → Type 0} (s : DynBox Y Global G → RangeMeaning) → ((b : DynBox Y Global G) → GivesBytes (s b)) → (entry : RangeEntry Y G) → GivesBytes (range_of s entry)
gives s law range_entry.Ramp = ramp_gives_bytes
gives s law (range_entry.Brought b) = law b
