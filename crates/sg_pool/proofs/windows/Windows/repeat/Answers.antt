use Rattle.std.proofs.Common.{◌≡◌, ◌<◌, length, get_or, ap, arith, length-set}
use Rattle.sg_ops.specs.Table.{Table, table_of}
use Rattle.sg_redo.specs.Places.{window_records}
use Rattle.sg_pool.specs.declared.slot.Slot.{Slot}
use Rattle.sg_pool.specs.Windows.{no_marks}
use Rattle.sg_pool.proofs.Slots.{slot_at, item_at}
use Rattle.sg_pool.proofs.Windowing.{windows_written}
use Rattle.sg_pool.proofs.Repeating.{marked_after, unmarked_after}
use Rattle.sg_pool.proofs.windows.Windows.repeat.Goals as goal

pub invariant_of-self : goal.invariant_of-self
invariant_of-self g c =
    let s = c.args.self.now in
    let page = ap (λ (x : Slot). x.number) (slot_at s.slots.items c.args.w c.index-slot.result.now c.requires.there c.index-slot.ensures) in
    record {
      windows = windows_written s.slots.items s.index.items s.marks.items _ s.next s.next s.windows (length-set s.marks.items c.args.w _) s.windows.next_there c.args.w c.requires.there
          (record { number = c.index-slot.result.now.number; since = c.repeat_window-since.result }) c.requires.held.0 page c.requires.held.1;
    }

pub returns-clause-marked : goal.returns-clause-marked
returns-clause-marked g c =
    let s = c.args.self.now in
    let t : Table = table_of (λ p. (goal.RecordOp-dyn g p).record_meaning p.1) (λ p. (goal.RangeOp-dyn g p).range_meaning p.1) c.args.ops.now in
    let many = s.windows.marked in let there = c.requires.there in
    let low : c.args.w < length s.marks.items = omega (arith, many, there) in
    let was : c.index_mut-marks.result.now ≡ get_or s.marks.items c.args.w no_marks = item_at s.marks.items c.args.w c.index_mut-marks.result.now no_marks low c.index_mut-marks.ensures.value in
    marked_after s.marks.items c.args.w c.index_mut-marks.result.now c.repeat_window-since.new.marks (window_records t c.args.text.now c.args.places.now) low was c.repeat_window-since.ensures.marked c.repeat_window-since.ensures.many

pub returns-clause-beyond : goal.returns-clause-beyond
returns-clause-beyond g c =
    let s = c.args.self.now in
    let t : Table = table_of (λ p. (goal.RecordOp-dyn g p).record_meaning p.1) (λ p. (goal.RangeOp-dyn g p).range_meaning p.1) c.args.ops.now in
    let many = s.windows.marked in let there = c.requires.there in
    let low : c.args.w < length s.marks.items = omega (arith, many, there) in
    let was : c.index_mut-marks.result.now ≡ get_or s.marks.items c.args.w no_marks = item_at s.marks.items c.args.w c.index_mut-marks.result.now no_marks low c.index_mut-marks.ensures.value in
    unmarked_after s.marks.items c.args.w c.index_mut-marks.result.now c.repeat_window-since.new.marks (window_records t c.args.text.now c.args.places.now) low was c.repeat_window-since.ensures.marked c.repeat_window-since.ensures.many
