use Rattle.std.proofs.Common.{◌≡◌, ◌⊎◌, ⊎_elim, ℕ, List, [], IsTrue, Bool, sym, ◌∙◌, ap, subst, arith, ◌≤◌, ◌+◌, length}
use Rattle.sg_disk.specs.Disk.{Bytes, View}
use Rattle.sg_gate.specs.Reads as gate
use Rattle.sg_log.specs.Reads.{OnlyReads}
use Rattle.sg_log.proofs.Runs.{reads_more}
use Rattle.sg_ops.specs.Table.{Table, table_of}
use Rattle.sg_open.proofs.Finding.{super_is, found_is, log_there}
use Rattle.sg_open.proofs.Refusing.{text_refused_then}
use Rattle.sg_find.specs.Synced.{HasLog, log_area, reads}
use Rattle.sg_base.specs.declared.area.Area.TheVariants.{Home}
use Rattle.sg_gate.specs.Superblock.{superblock}
use Rattle.sg_gate.specs.declared.superblock.Super.{Super}
use Rattle.sg_gate.specs.declared.fault.GateFault.{GateFault}
use Rattle.sg_gate.specs.declared.fault.GateFault.TheVariants as gates
use Rattle.sg_open.specs.Refusals.{IsCause}
use Rattle.sg_open.proofs.Causes.{gate_cause, log_cause, text_cause, text_accepted}
use Rattle.sg_find.specs.Stretch.{GREATEST_FRAME}
use Rattle.sg_analysis.specs.Shown.{shown, IsAnalysed}
use Rattle.sg_log.specs.Frames.{Frames, HasRecords}
use Rattle.sg_log.specs.Held.{Tail}
use Rattle.sg_disk.specs.Disk.{State}
use Rattle.std.specs.Bool.{OnFalse}
use Rattle.std.specs.Prelude.{Result, Ok, Err}
use Rattle.sg_find.specs.declared.fault.OpenFault.{OpenFault}
use Rattle.sg_find.specs.Faults.{is_disk}
use Rattle.sg_find.proofs.Heeding.{on_false_then, gate_heeds}
use Rattle.sg_open.proofs.found.find.Goals as goal

-- a stretch has room for the greatest frame
great : (text space : List ℕ) → length text ≡ 1048576 → space ≡ text → GREATEST_FRAME ≤ length space
great text space long same = omega (arith, long, ap length same)

as_log : {told : Bool} {v w : View} → gate.OnlyReads told v w → OnlyReads told v w
as_log r = record { unchanged = r.unchanged; any_moment = r.any_moment; handed = r.handed; later = r.later }

pub returns-in-Err-read_log-clause-reads : goal.returns-in-Err-read_log-clause-reads
returns-in-Err-read_log-clause-reads g c = reads_more (as_log c.read_super.ensures.reads) c.read_log.ensures.reads

pub returns-in-Ok-check_log-clause-found : goal.returns-in-Ok-check_log-clause-found
returns-in-Ok-check_log-clause-found g c o tail ds told settled opens =
    let t : Table = table_of (λ p. (goal.RecordOp-dyn g p).record_meaning p.1) (λ p. (goal.RangeOp-dyn g p).range_meaning p.1) c.args.ops.now in
    let v = g.D.Disk.view c.args.disk.now in
    found_is t o tail ds v (g.D.Disk.view c.read_super.new.disk) (g.D.Disk.view c.read_log.new.disk) (g.D.Disk.view c.check_log.new.disk)
    _
    c.durable.result settled opens (super_is o tail ds v c.in-Ok.geometry opens (c.in-Ok.ensures.found told))
    (c.read_super.ensures.reads.unchanged told) (c.read_log.ensures.reads.unchanged told) (c.check_log.ensures.reads.unchanged told) c.durable.ensures
    c.in-Ok-read_log.ensures.log (λ ns gate none has. c.in-Ok-read_log.ensures.records ns gate told none has) (λ ns gate has. c.in-Ok-read_log.ensures.says ns gate told has)
    (λ frames stand at. c.in-Ok-check_log.ensures.prepared frames told stand at (great c.in-Ok-take_room.room.text.items c.deref_mut.result.now c.in-Ok-take_room.ensures.room.text c.deref_mut.ensures.value))

pub returns-in-Ok-check_log-clause-reads : goal.returns-in-Ok-check_log-clause-reads
returns-in-Ok-check_log-clause-reads g c = reads_more (reads_more (as_log c.read_super.ensures.reads) c.read_log.ensures.reads) c.check_log.ensures.reads

pub returns-in-Err-check_log-clause-reads : goal.returns-in-Err-check_log-clause-reads
returns-in-Err-check_log-clause-reads g c = reads_more (reads_more (as_log c.read_super.ensures.reads) c.read_log.ensures.reads) c.check_log.ensures.reads

pub returns-in-Err-check_log-clause-refused : goal.returns-in-Err-check_log-clause-refused
returns-in-Err-check_log-clause-refused g c o tail ds told settled opens =
    let t : Table = table_of (λ p. (goal.RecordOp-dyn g p).record_meaning p.1) (λ p. (goal.RangeOp-dyn g p).range_meaning p.1) c.args.ops.now in
    let v = g.D.Disk.view c.args.disk.now in
    let v1 = g.D.Disk.view c.read_super.new.disk in
    let v2 = g.D.Disk.view c.read_log.new.disk in
    let s = c.in-Ok.geometry in
    let same = super_is o tail ds v s opens (c.in-Ok.ensures.found told) in
    let e1 = c.read_super.ensures.reads.unchanged told in
    let has = log_there o tail ds v v1 s opens same e1 in
    let log_is = c.in-Ok-read_log.ensures.records ds tail told (ap (λ (st : State). (st (log_area s)).pending) e1 ∙ settled (log_area s)) has in
    let stand = subst (λ (st : State). Frames (st (log_area s)).seen 0 has.frames) (sym (c.read_log.ensures.reads.unchanged told)) has.stand in
    let gate = c.durable.ensures ∙ log_is.0 in
    text_refused_then g.D.Disk.told t o tail ds v v2 (g.D.Disk.view c.check_log.new.disk) s (shown c.in-Ok-read_log.read.1) has.frames c.in-Err-check_log.fault opens same
    (omega (arith, c.read_super.ensures.reads.later, c.read_log.ensures.reads.later)) has.all (c.in-Ok-read_log.ensures.says ds tail told has)
    (c.in-Err-check_log.ensures.refused has.frames told stand (gate ∙ has.at_gate) (omega (arith, gate, has.within)) (great c.in-Ok-take_room.room.text.items c.deref_mut.result.now c.in-Ok-take_room.ensures.room.text c.deref_mut.ensures.value))

pub returns-in-Err-clause-heeded : goal.returns-in-Err-clause-heeded
returns-in-Err-clause-heeded g c =
    let v = g.D.Disk.view c.args.disk.now in
    let w = g.D.Disk.view c.read_super.new.disk in
    subst (λ (e : OpenFault). OnFalse (is_disk e) (w.faults ≡ v.faults)) (sym c.of_gate.ensures) (gate_heeds c.in-Err.fault v w c.in-Err.ensures.heeded)

pub returns-in-Err-read_log-clause-heeded : goal.returns-in-Err-read_log-clause-heeded
returns-in-Err-read_log-clause-heeded g c =
    let v = g.D.Disk.view c.args.disk.now in
    let w = g.D.Disk.view c.read_super.new.disk in
    let z = g.D.Disk.view c.read_log.new.disk in
    let same : w.faults ≡ v.faults = c.in-Ok.ensures.heeded in
    on_false_then (is_disk c.in-Err-read_log.fault) _ _ (λ (e : z.faults ≡ w.faults). e ∙ same) c.in-Err-read_log.ensures.heeded

pub returns-in-Err-check_log-clause-heeded : goal.returns-in-Err-check_log-clause-heeded
returns-in-Err-check_log-clause-heeded g c =
    let v = g.D.Disk.view c.args.disk.now in
    let w = g.D.Disk.view c.read_super.new.disk in
    let y = g.D.Disk.view c.read_log.new.disk in
    let z = g.D.Disk.view c.check_log.new.disk in
    let one : w.faults ≡ v.faults = c.in-Ok.ensures.heeded in
    let two : y.faults ≡ w.faults = c.in-Ok-read_log.ensures.heeded in
    on_false_then (is_disk c.in-Err-check_log.fault) _ _ (λ (e : z.faults ≡ y.faults). e ∙ (two ∙ one)) c.in-Err-check_log.ensures.heeded

pub returns-in-Err-take_room-clause-reads : goal.returns-in-Err-take_room-clause-reads
returns-in-Err-take_room-clause-reads g c = reads_more (as_log c.read_super.ensures.reads) c.read_log.ensures.reads

-- what was read is the superblock that counts
counts : (f : Bytes) (s : Super) → (Ok s ≡ superblock f) ⊎ (◌≡◌ {A = Result Super GateFault} (Ok s) (Err gates.Disk)) → superblock f ≡ Ok s
counts f s found = ⊎_elim (λ is. sym is) (λ failed. absurd cc) found

pub returns-in-Err-clause-cause : goal.returns-in-Err-clause-cause
returns-in-Err-clause-cause g c told settled =
    let t : Table = table_of (λ p. (goal.RecordOp-dyn g p).record_meaning p.1) (λ p. (goal.RangeOp-dyn g p).range_meaning p.1) c.args.ops.now in
    let v = g.D.Disk.view c.args.disk.now in
    subst (λ (e : OpenFault). IsCause t (reads v) e) (sym c.of_gate.ensures) (gate_cause t (reads v) c.in-Err.fault (c.in-Err.ensures.found told))

pub returns-in-Err-read_log-clause-cause : goal.returns-in-Err-read_log-clause-cause
returns-in-Err-read_log-clause-cause g c told settled =
    let t : Table = table_of (λ p. (goal.RecordOp-dyn g p).record_meaning p.1) (λ p. (goal.RangeOp-dyn g p).range_meaning p.1) c.args.ops.now in
    let v = g.D.Disk.view c.args.disk.now in
    let v1 = g.D.Disk.view c.read_super.new.disk in
    let v2 = g.D.Disk.view c.read_log.new.disk in
    let s = c.in-Ok.geometry in
    let super = counts (reads v Home) s (c.in-Ok.ensures.found told) in
    let e1 = c.read_super.ensures.reads.unchanged told in
    log_cause t g.D.Disk.told s v v1 v2 c.in-Err-read_log.fault told super e1 c.in-Err-read_log.ensures.refused

pub returns-in-Err-check_log-clause-cause : goal.returns-in-Err-check_log-clause-cause
returns-in-Err-check_log-clause-cause g c told settled =
    let t : Table = table_of (λ p. (goal.RecordOp-dyn g p).record_meaning p.1) (λ p. (goal.RangeOp-dyn g p).range_meaning p.1) c.args.ops.now in
    let v = g.D.Disk.view c.args.disk.now in
    let v1 = g.D.Disk.view c.read_super.new.disk in
    let v2 = g.D.Disk.view c.read_log.new.disk in
    let s = c.in-Ok.geometry in
    let super = counts (reads v Home) s (c.in-Ok.ensures.found told) in
    let e1 = c.read_super.ensures.reads.unchanged told in
    let e2 = c.read_log.ensures.reads.unchanged told in
    let there = c.in-Ok-read_log.ensures.found told in
    let has = c.in-Ok-read_log.ensures.records there.records there.gate told (ap (λ (st : State). (st (log_area s)).pending) e1 ∙ settled (log_area s)) there.has in
    let stand = subst (λ (st : State). Frames (st (log_area s)).seen 0 there.has.frames) (sym e2) there.has.stand in
    let gate = c.durable.ensures ∙ has.0 in
    let here : HasLog (reads v (log_area s)) s.base = record { gate = there.gate; records = there.records; has = subst (λ (st : State). HasRecords (st (log_area s)).seen s.base there.gate there.records) e1 there.has } in
    let says = c.in-Ok-read_log.ensures.says there.records there.gate told there.has in
    let room = great c.in-Ok-take_room.room.text.items c.deref_mut.result.now c.in-Ok-take_room.ensures.room.text c.deref_mut.ensures.value in
    text_cause t s (shown c.in-Ok-read_log.read.1) (reads v) v2 (g.D.Disk.view c.check_log.new.disk) c.in-Err-check_log.fault super here says there.has.frames (subst (λ (st : State). Frames (st (log_area s)).seen 0 there.has.frames) e1 there.has.stand) there.has.all
    (c.in-Err-check_log.ensures.refused there.has.frames told stand (gate ∙ there.has.at_gate) (omega (arith, gate, there.has.within)) room)

pub returns-in-Ok-check_log-clause-accepted : goal.returns-in-Ok-check_log-clause-accepted
returns-in-Ok-check_log-clause-accepted g c told settled =
    let t : Table = table_of (λ p. (goal.RecordOp-dyn g p).record_meaning p.1) (λ p. (goal.RangeOp-dyn g p).range_meaning p.1) c.args.ops.now in
    let v = g.D.Disk.view c.args.disk.now in
    let v1 = g.D.Disk.view c.read_super.new.disk in
    let v2 = g.D.Disk.view c.read_log.new.disk in
    let s = c.in-Ok.geometry in
    let super = counts (reads v Home) s (c.in-Ok.ensures.found told) in
    let e1 = c.read_super.ensures.reads.unchanged told in
    let e2 = c.read_log.ensures.reads.unchanged told in
    let there = c.in-Ok-read_log.ensures.found told in
    let has = c.in-Ok-read_log.ensures.records there.records there.gate told (ap (λ (st : State). (st (log_area s)).pending) e1 ∙ settled (log_area s)) there.has in
    let stand = subst (λ (st : State). Frames (st (log_area s)).seen 0 there.has.frames) (sym e2) there.has.stand in
    let gate = c.durable.ensures ∙ has.0 in
    let here : HasLog (reads v (log_area s)) s.base = record { gate = there.gate; records = there.records; has = subst (λ (st : State). HasRecords (st (log_area s)).seen s.base there.gate there.records) e1 there.has } in
    let says = c.in-Ok-read_log.ensures.says there.records there.gate told there.has in
    let room = great c.in-Ok-take_room.room.text.items c.deref_mut.result.now c.in-Ok-take_room.ensures.room.text c.deref_mut.ensures.value in
    text_accepted t s (shown c.in-Ok-read_log.read.1) (reads v) super here says there.has.frames there.has.all (c.in-Ok-check_log.ensures.prepared there.has.frames told stand (gate ∙ there.has.at_gate) room).known

pub returns-in-Err-take_room-clause-cause : goal.returns-in-Err-take_room-clause-cause
returns-in-Err-take_room-clause-cause g c told settled =
    let t : Table = table_of (λ p. (goal.RecordOp-dyn g p).record_meaning p.1) (λ p. (goal.RangeOp-dyn g p).range_meaning p.1) c.args.ops.now in
    let v = g.D.Disk.view c.args.disk.now in
    subst (λ (e : OpenFault). IsCause t (reads v) e) (sym c.in-Err-take_room.ensures.memory) tt

pub returns-in-Ok-check_log-clause-analysed : goal.returns-in-Ok-check_log-clause-analysed
returns-in-Ok-check_log-clause-analysed g c told =
    let s = c.in-Ok.geometry in
    subst (λ (st : State). IsAnalysed (st (log_area s)).seen s.base c.in-Ok-read_log.read.1) (c.read_super.ensures.reads.unchanged told) (c.in-Ok-read_log.ensures.analysed told)

pub returns-in-Ok-check_log-clause-ended : goal.returns-in-Ok-check_log-clause-ended
returns-in-Ok-check_log-clause-ended g c told settled ds gate has =
    let s = c.in-Ok.geometry in
    let same = c.read_super.ensures.reads.unchanged told in
    let none : ((g.D.Disk.view c.read_super.new.disk).now (log_area s)).pending ≡ [] = ap (λ (x : State). (x (log_area s)).pending) same ∙ settled (log_area s) in
    (c.in-Ok-read_log.ensures.records ds gate told none (subst (λ (x : State). HasRecords (x (log_area s)).seen s.base gate ds) (sym same) has)).0

pub returns-in-Ok-check_log-clause-empty : goal.returns-in-Ok-check_log-clause-empty
returns-in-Ok-check_log-clause-empty g c = ap (λ (l : Tail). length l.buffer) c.in-Ok-read_log.ensures.log
