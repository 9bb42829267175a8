use Rattle.std.proofs.Common.{refl, sym, ap, ◌∙◌, subst, arith}
use Rattle.sg_disk.specs.Disk as disk
use Rattle.sg_ops.specs.Table.{table_of}
use Rattle.sg_store.specs.Seen.{core_of}
use Rattle.sg_commands.specs.Drawing.{sunk}
use Rattle.sg_commands.specs.Images.{IsPresumed}
use Rattle.sg_commands.specs.Opening.{IsOpened, StaysShut}
use Rattle.sg_commands.proofs.Endings.{along, heeded_never, unspent}
use Rattle.sg_commands.proofs.Written.{shut_writes, heeded, opened_writes}
use Rattle.sg_commands.proofs.top.objects_behind_fuse.Goals as goal

pub open-requires-clause-presumed : goal.open-requires-clause-presumed
open-requires-clause-presumed g c =
    subst (λ (v : disk.View). IsPresumed g.E.Engine.basis g.E.Opens.says (table_of (λ z. (goal.RecordOp-dyn g z).record_meaning z.1)
    (λ z. (goal.RangeOp-dyn g z).range_meaning z.1) c.args.ops.now) g.D.Disk.told g.O.Presumes.presumed v) (sym c.marked-fuse.ensures.view) c.requires.presumed

pub returns-in-Err-clause-writes : goal.returns-in-Err-clause-writes
returns-in-Err-clause-writes g c =
    shut_writes g.E.Engine.basis g.E.Opens.says c.args.listing _ g.D.Disk.told g.O.Presumes.presumed _ _ _ _ c.in-Err.field-0.why c.finished.result.status
    (c.finished.ensures.status ∙ c.status_of_refusal-status.ensures) (refl, refl)
    (along (λ v w. StaysShut g.E.Engine.basis g.E.Opens.says (table_of (λ z. (goal.RecordOp-dyn g z).record_meaning z.1)
    (λ z. (goal.RangeOp-dyn g z).range_meaning z.1) c.args.ops.now) g.D.Disk.told g.O.Presumes.presumed v w c.in-Err.field-0.why) _ _ _ _ c.marked-fuse.ensures.view
    c.finished.ensures.view c.in-Err.ensures.refused)

pub returns-in-Err-clause-heeded : goal.returns-in-Err-clause-heeded
returns-in-Err-clause-heeded g c =
    heeded_never g.E.Engine.basis g.E.Opens.says (table_of (λ z. (goal.RecordOp-dyn g z).record_meaning z.1)
    (λ z. (goal.RangeOp-dyn g z).range_meaning z.1) c.args.ops.now) g.D.Disk.told g.O.Presumes.presumed (g.D.Disk.view c.args.disk) (g.D.Disk.view c.finished.result.disk)
    c.finished.result.refused c.in-Err.field-0.why c.finished.result.status (c.finished.ensures.status ∙ c.status_of_refusal-status.ensures)
    (along (λ v w. StaysShut g.E.Engine.basis g.E.Opens.says (table_of (λ z. (goal.RecordOp-dyn g z).record_meaning z.1)
    (λ z. (goal.RangeOp-dyn g z).range_meaning z.1) c.args.ops.now) g.D.Disk.told g.O.Presumes.presumed v w c.in-Err.field-0.why) _ _ _ _ c.marked-fuse.ensures.view
    c.finished.ensures.view c.in-Err.ensures.refused) (omega (arith, c.finished.ensures.later c.requires.known, c.requires.faults))

pub returns-clause-writes : goal.returns-clause-writes
returns-clause-writes g c =
    let t = table_of (λ z. (goal.RecordOp-dyn g z).record_meaning z.1) (λ z. (goal.RangeOp-dyn g z).range_meaning z.1) c.args.ops.now in
    let e = g.E.Engine.view c.in-Ok.store.engine in
    let u = g.E.Engine.view c.write_objects-written.new.store.engine in
    let f = g.E.Engine.view c.close_unmarked-closed.result.1 in
    let k = core_of c.in-Ok.store in
    let l = core_of c.write_objects-written.new.store in
    opened_writes g.E.Engine.basis g.E.Opens.says c.args.listing t g.D.Disk.told g.O.Presumes.presumed (disk.refusing (g.D.Disk.view c.args.disk) 0)
    (disk.refusing (g.D.Disk.view c.finished-2.result.disk) c.finished-2.result.refused) (sunk (g.K.Sink.taken c.args.out.now) (g.K.Sink.faults c.args.out.now))
    (sunk (g.K.Sink.taken c.write_objects-written.new.out) (g.K.Sink.faults c.write_objects-written.new.out)) e u f k l c.close_unmarked-closed.ensures.causes.0
    c.write_objects-written.result c.close_unmarked-closed.result.0
    (subst (λ (v : disk.View). IsOpened g.E.Engine.basis g.E.Opens.says t g.D.Disk.told g.O.Presumes.presumed v e k) c.marked-fuse.ensures.view c.in-Ok.ensures.opens)
    c.write_objects-written.ensures.writes c.close_unmarked-closed.ensures.heeds c.close_unmarked-closed.ensures.causes.1 (sym c.into_disk.ensures ∙ c.finished-2.ensures.view)
    (g.met.E.Opens.sized t) c.close_unmarked-closed.ensures.flushes (λ some. ap (λ i. (g.E.Engine.view i).disk) (c.close_unmarked-closed.ensures.stopped some).0)
    c.finished-2.result.status (c.finished-2.ensures.status ∙ c.status_of_closing-status.ensures)

pub returns-clause-heeded : goal.returns-clause-heeded
returns-clause-heeded g c none =
    let t = table_of (λ z. (goal.RecordOp-dyn g z).record_meaning z.1) (λ z. (goal.RangeOp-dyn g z).range_meaning z.1) c.args.ops.now in
    let e = g.E.Engine.view c.in-Ok.store.engine in
    let u = g.E.Engine.view c.write_objects-written.new.store.engine in
    let f = g.E.Engine.view c.close_unmarked-closed.result.1 in
    let k = core_of c.in-Ok.store in
    let l = core_of c.write_objects-written.new.store in
    unspent (g.D.Disk.view c.args.disk).faults (g.D.Disk.view c.finished-2.result.disk).faults c.finished-2.result.refused
    (heeded g.E.Engine.basis g.E.Opens.says c.args.listing t g.D.Disk.told g.O.Presumes.presumed (disk.refusing (g.D.Disk.view c.args.disk) 0)
    (disk.refusing (g.D.Disk.view c.finished-2.result.disk) c.finished-2.result.refused) (sunk (g.K.Sink.taken c.args.out.now) (g.K.Sink.faults c.args.out.now))
    (sunk (g.K.Sink.taken c.write_objects-written.new.out) (g.K.Sink.faults c.write_objects-written.new.out)) e u f k l c.close_unmarked-closed.ensures.causes.0
    c.write_objects-written.result c.close_unmarked-closed.result.0
    (subst (λ (v : disk.View). IsOpened g.E.Engine.basis g.E.Opens.says t g.D.Disk.told g.O.Presumes.presumed v e k) c.marked-fuse.ensures.view c.in-Ok.ensures.opens)
    c.write_objects-written.ensures.writes c.close_unmarked-closed.ensures.heeds c.close_unmarked-closed.ensures.causes.1 (sym c.into_disk.ensures ∙ c.finished-2.ensures.view)
    (λ is. none (c.finished-2.ensures.status ∙ (c.status_of_closing-status.ensures ∙ is))))
    (omega (arith, c.finished-2.ensures.later c.requires.known, c.requires.faults))
