use Rattle.std.proofs.Common.{◌+◌, ℕ, Option, Some, take, refl, sym, ap, ◌∙◌, subst, arith}
use Rattle.sg_disk.specs.Disk.{State}
use Rattle.sg_ops.specs.Table.{Table, table_of}
use Rattle.sg_log.specs.Frames.{Frames}
use Rattle.sg_log.proofs.Runs.{reads_more}
use Rattle.sg_places.specs.Refused.{Refuses}
use Rattle.sg_places.specs.declared.checking.Refusal.{Refusal}
use Rattle.sg_base.specs.Ends.{HasRisen}
use Rattle.sg_find.specs.declared.fault.OpenFault.{OpenFault}
use Rattle.sg_find.specs.Refused.{StretchesRefused}
use Rattle.sg_find.proofs.Reading.{IsAsked, asked_none, asked_more, asked_outside, asked_all, back_stands, back_reaches}
use Rattle.sg_find.proofs.Reading as reading
use Rattle.sg_find.proofs.asking.check_stretches.Goals as goal

pub stretches-init : goal.stretches-init
stretches-init g c = (
  omega arith,
  reading.reads_none g.D.Disk.told (g.D.Disk.view c.args.disk.now),
  refl,
  refl,
  λ frames told stand is room. asked_none (table_of (λ p. (goal.RecordOp-dyn g p).record_meaning p.1) (λ p. (goal.RangeOp-dyn g p).range_meaning p.1) c.args.ops.now) c.args.s.now.pages c.args.s.now.bands c.args.s.now.base c.args.point (c.args.analysis.now.losers, c.args.analysis.now.opened) frames,
)

pub stretches-preserved : goal.stretches-preserved
stretches-preserved g c = (
  c.in-Ok.ensures.some.2,
  reads_more c.stretches.invariant.1 c.read_stretch.ensures.reads,
  c.in-Ok.ensures.heeded ∙ c.stretches.invariant.2,
  c.read_stretch.ensures.long ∙ c.stretches.invariant.3,
  λ frames told stand is room.
      let t : Table = table_of (λ p. (goal.RecordOp-dyn g p).record_meaning p.1) (λ p. (goal.RangeOp-dyn g p).range_meaning p.1) c.args.ops.now in
      let s = c.args.s.now in
      let h = c.stretches.invariant.4 frames told stand is room in
      let there = subst (λ (st : State). Frames (st c.args.area).seen c.stretches.at h.back) (sym (c.stretches.invariant.1.unchanged told)) (back_stands t s.pages s.bands s.base c.args.point (c.args.analysis.now.losers, c.args.analysis.now.opened) frames c.stretches.at c.stretches.unknown h ((g.D.Disk.view c.args.disk.now).now c.args.area).seen stand) in
      let end = back_reaches t s.pages s.bands s.base c.args.point (c.args.analysis.now.losers, c.args.analysis.now.opened) frames c.stretches.at c.stretches.unknown h c.args.end is in
      let read = c.in-Ok.ensures.stretch h.back told there end (omega (arith, room, c.stretches.invariant.3)) in
      subst (λ (o : Option ℕ). IsAsked t s.pages s.bands s.base c.args.point (c.args.analysis.now.losers, c.args.analysis.now.opened) frames (c.stretches.at + c.in-Ok.size) o) (sym c.or_else-unknown.ensures)
      (asked_more t s.pages s.bands s.base c.args.point (c.args.analysis.now.losers, c.args.analysis.now.opened) frames c.stretches.at c.stretches.unknown h (take c.in-Ok.size c.read_stretch.new.space) c.in-Ok.size read c.in-Ok-check.code
      (c.in-Ok-check.ensures.there read.part read.whole) (c.in-Ok-check.ensures.unknown read.part read.whole)),
)

pub returns-in-Err-Outside-clause-refused : goal.returns-in-Err-Outside-clause-refused
returns-in-Err-Outside-clause-refused g c frames told stand is room =
    let t : Table = table_of (λ p. (goal.RecordOp-dyn g p).record_meaning p.1) (λ p. (goal.RangeOp-dyn g p).range_meaning p.1) c.args.ops.now in
    let s = c.args.s.now in
    let h = c.stretches.invariant.4 frames told stand is room in
    let there = subst (λ (st : State). Frames (st c.args.area).seen c.stretches.at h.back) (sym (c.stretches.invariant.1.unchanged told)) (back_stands t s.pages s.bands s.base c.args.point (c.args.analysis.now.losers, c.args.analysis.now.opened) frames c.stretches.at c.stretches.unknown h ((g.D.Disk.view c.args.disk.now).now c.args.area).seen stand) in
    let end = back_reaches t s.pages s.bands s.base c.args.point (c.args.analysis.now.losers, c.args.analysis.now.opened) frames c.stretches.at c.stretches.unknown h c.args.end is in
    let read = c.in-Ok.ensures.stretch h.back told there end (omega (arith, room, c.stretches.invariant.3)) in
    let no = subst (λ (e : Refusal). Refuses s.pages s.bands c.stretches.at read.part e) c.in-Err-Outside.field-0-is (c.in-Err-Outside.ensures.refused read.part read.whole) in
    (refl, asked_outside t s.pages s.bands s.base c.args.point (c.args.analysis.now.losers, c.args.analysis.now.opened) frames c.stretches.at c.stretches.unknown h (take c.in-Ok.size c.read_stretch.new.space) c.in-Ok.size read c.in-Err-Outside.gate no ∙ ap Some (sym c.in-Err-Outside.gate-is))

pub returns-in-Err-Torn-clause-refused : goal.returns-in-Err-Torn-clause-refused
returns-in-Err-Torn-clause-refused g c frames told stand is room =
    let t : Table = table_of (λ p. (goal.RecordOp-dyn g p).record_meaning p.1) (λ p. (goal.RangeOp-dyn g p).range_meaning p.1) c.args.ops.now in
    let s = c.args.s.now in
    let h = c.stretches.invariant.4 frames told stand is room in
    let there = subst (λ (st : State). Frames (st c.args.area).seen c.stretches.at h.back) (sym (c.stretches.invariant.1.unchanged told)) (back_stands t s.pages s.bands s.base c.args.point (c.args.analysis.now.losers, c.args.analysis.now.opened) frames c.stretches.at c.stretches.unknown h ((g.D.Disk.view c.args.disk.now).now c.args.area).seen stand) in
    let end = back_reaches t s.pages s.bands s.base c.args.point (c.args.analysis.now.losers, c.args.analysis.now.opened) frames c.stretches.at c.stretches.unknown h c.args.end is in
    let read = c.in-Ok.ensures.stretch h.back told there end (omega (arith, room, c.stretches.invariant.3)) in
    absurd (subst (λ (e : Refusal). Refuses s.pages s.bands c.stretches.at read.part e) c.in-Err-Torn.field-0-is (c.in-Err-Torn.ensures.refused read.part read.whole))

pub returns-in-Err-clause-refused : goal.returns-in-Err-clause-refused
returns-in-Err-clause-refused g c frames told stand is room =
    let t : Table = table_of (λ p. (goal.RecordOp-dyn g p).record_meaning p.1) (λ p. (goal.RangeOp-dyn g p).range_meaning p.1) c.args.ops.now in
    let s = c.args.s.now in
    let h = c.stretches.invariant.4 frames told stand is room in
    let v = g.D.Disk.view c.args.disk.now in
    let there = subst (λ (st : State). Frames (st c.args.area).seen c.stretches.at h.back) (sym (c.stretches.invariant.1.unchanged told)) (back_stands t s.pages s.bands s.base c.args.point (c.args.analysis.now.losers, c.args.analysis.now.opened) frames c.stretches.at c.stretches.unknown h (v.now c.args.area).seen stand) in
    let end = back_reaches t s.pages s.bands s.base c.args.point (c.args.analysis.now.losers, c.args.analysis.now.opened) frames c.stretches.at c.stretches.unknown h c.args.end is in
    let risen = c.in-Err.ensures.refused h.back told there end (omega (arith, room, c.stretches.invariant.3)) in
    let w = g.D.Disk.view c.read_stretch.new.disk in
    subst (λ (e : OpenFault). StretchesRefused c.args.area s.pages s.bands frames v w e) (sym c.in-Err.ensures.fault) (subst (λ (n : ℕ). HasRisen n w.faults) c.stretches.invariant.2 risen)

pub returns-in-Err-clause-reads : goal.returns-in-Err-clause-reads
returns-in-Err-clause-reads g c = reads_more c.stretches.invariant.1 c.read_stretch.ensures.reads

pub returns-in-Err-Outside-clause-reads : goal.returns-in-Err-Outside-clause-reads
returns-in-Err-Outside-clause-reads g c = reads_more c.stretches.invariant.1 c.read_stretch.ensures.reads

pub returns-in-Err-Torn-clause-reads : goal.returns-in-Err-Torn-clause-reads
returns-in-Err-Torn-clause-reads g c = reads_more c.stretches.invariant.1 c.read_stretch.ensures.reads

pub returns-clause-there : goal.returns-clause-there
returns-clause-there g c frames told stand is room =
    let t : Table = table_of (λ p. (goal.RecordOp-dyn g p).record_meaning p.1) (λ p. (goal.RangeOp-dyn g p).range_meaning p.1) c.args.ops.now in
    let s = c.args.s.now in
    (asked_all t s.pages s.bands s.base c.args.point (c.args.analysis.now.losers, c.args.analysis.now.opened) frames c.stretches.at c.stretches.unknown (c.stretches.invariant.4 frames told stand is room) c.args.end is c.stretches-test.false).0

pub returns-clause-unknown : goal.returns-clause-unknown
returns-clause-unknown g c frames told stand is room =
    let t : Table = table_of (λ p. (goal.RecordOp-dyn g p).record_meaning p.1) (λ p. (goal.RangeOp-dyn g p).range_meaning p.1) c.args.ops.now in
    let s = c.args.s.now in
    (asked_all t s.pages s.bands s.base c.args.point (c.args.analysis.now.losers, c.args.analysis.now.opened) frames c.stretches.at c.stretches.unknown (c.stretches.invariant.4 frames told stand is room) c.args.end is c.stretches-test.false).1
