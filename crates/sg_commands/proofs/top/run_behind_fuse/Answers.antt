use Rattle.std.proofs.Common.{Option, inl, inr, refl, sym, ap, ◌∙◌, subst, arith}
use Rattle.sg_disk.specs.Disk as disk
use Rattle.sg_ops.specs.Table.{table_of}
use Rattle.sg_store.specs.Seen.{core_of}
use Rattle.sg_session.specs.Seen.{session_core, session_engine}
use Rattle.sg_session.specs.Shows.{Core}
use Rattle.sg_commands.specs.declared.status.Status as code_status
use Rattle.sg_commands.specs.Images.{IsPresumed}
use Rattle.sg_commands.specs.Opening.{StaysShut}
use Rattle.sg_commands.specs.Statuses.{status_of_stop, first_fault}
use Rattle.sg_commands.specs.Top.{Outside, outside}
use Rattle.sg_commands.proofs.Endings.{along, open_here, ran_of, heeded_of, never_of, never_began, heeded_never}
use Rattle.sg_commands.proofs.top.run_behind_fuse.Goals as goal

pub returns-in_default-clause-run : goal.returns-in_default-clause-run
returns-in_default-clause-run g c = inl (never_began g.E.Engine.basis g.E.Opens.says _ g.D.Disk.told g.O.Presumes.presumed _)

pub open-requires-clause-presumed : goal.open-requires-clause-presumed
open-requires-clause-presumed g c =
    subst (λ (v : disk.View). IsPresumed g.E.Engine.basis g.E.Opens.says (table_of (λ z. (goal.RecordOp-dyn g z).record_meaning z.1)
    (λ z. (goal.RangeOp-dyn g z).range_meaning z.1) c.args.ops.now) g.D.Disk.told g.O.Presumes.presumed v) (sym c.marked-fuse.ensures.view) c.requires.presumed

pub returns-in-Err-clause-run : goal.returns-in-Err-clause-run
returns-in-Err-clause-run g c =
    inl (never_of g.E.Engine.basis g.E.Opens.says _ g.D.Disk.told g.O.Presumes.presumed _ _ c.finished.result.refused c.finished.result.status c.in-Err.field-0.why refl refl
    (refl, refl) (c.finished.ensures.status ∙ c.status_of_refusal-status.ensures)
    (along (λ v w. StaysShut g.E.Engine.basis g.E.Opens.says (table_of (λ z. (goal.RecordOp-dyn g z).record_meaning z.1)
    (λ z. (goal.RangeOp-dyn g z).range_meaning z.1) c.args.ops.now) g.D.Disk.told g.O.Presumes.presumed v w c.in-Err.field-0.why) _ _ _ _ c.marked-fuse.ensures.view
    c.finished.ensures.view c.in-Err.ensures.refused))

pub returns-clause-run : goal.returns-clause-run
returns-clause-run g c =
    let t = table_of (λ z. (goal.RecordOp-dyn g z).record_meaning z.1) (λ z. (goal.RangeOp-dyn g z).range_meaning z.1) c.args.ops.now in
    let s = c.over-session.result in
    let e = session_engine s in
    let f = c.run-end.result.engine in
    let u = disk.refusing (g.D.Disk.view c.marked-fuse.result.inner) c.marked-fuse.result.refused in
    let old : Outside = outside (g.D.Disk.view c.args.disk) (g.S.Source.left c.args.script.now) (g.S.Source.faults c.args.script.now)
    (g.K.Sink.taken c.args.out.now) (g.K.Sink.faults c.args.out.now) in
    let new : Outside = outside (g.D.Disk.view c.finished-2.result.disk) (g.S.Source.left c.run-end.new.script) (g.S.Source.faults c.run-end.new.script)
    (g.K.Sink.taken c.run-end.new.out) (g.K.Sink.faults c.run-end.new.out) in
    let opened = open_here g.E.Engine g.E.Opens.says t g.D.Disk.told g.O.Presumes.presumed u (disk.refusing (g.D.Disk.view c.args.disk) 0) c.in-Ok-open.store.engine e
    (core_of c.in-Ok-open.store) (session_core s) c.marked-fuse.ensures.view c.over-session.ensures.engine c.over-session.ensures.core
    c.in-Ok-open.ensures.opens in
    inr (ran_of g.E.Engine g.E.Opens.says t g.D.Disk.told g.O.Presumes.presumed old new c.finished-2.result.refused c.finished-2.result.status c.run-end.result.end e f
    (session_core s) c.run-end.result.by_then c.run-end.result.stop
    opened (ap (λ (k : Core). k.names) c.over-session.ensures.core) c.run-end.ensures.ran c.run-end.ensures.heeds (g.E.Engine.waits f) c.run-end.ensures.full
    c.run-end.ensures.stays (sym c.into_disk.ensures ∙ c.finished-2.ensures.view)
    (g.met.E.Opens.sized t) (g.met.E.Opens.one t _) c.requires.presumed (λ is. g.met.D.Disk.reads c.finished-2.result.disk is)
    (c.finished-2.ensures.status ∙ (c.first_fault-status.ensures ∙ (ap (λ
    (a : code_status.Status). first_fault a c.status_of_end.result) c.status_of_stop-first.ensures ∙ ap
    (λ (a : code_status.Status). first_fault (status_of_stop c.run-end.result.stop) a) c.status_of_end.ensures)))
    (λ none tells i leaves. (let m = c.run-end.ensures.marked none tells in g.met.E.Opens.checkpointed i m.lsn m.estimate (m.still.ends i leaves))) c.run-end.ensures.cause)

pub returns-clause-heeded : goal.returns-clause-heeded
returns-clause-heeded g c =
    let t = table_of (λ z. (goal.RecordOp-dyn g z).record_meaning z.1) (λ z. (goal.RangeOp-dyn g z).range_meaning z.1) c.args.ops.now in
    let s = c.over-session.result in
    let e = session_engine s in
    let f = c.run-end.result.engine in
    let u = disk.refusing (g.D.Disk.view c.marked-fuse.result.inner) c.marked-fuse.result.refused in
    let old : Outside = outside (g.D.Disk.view c.args.disk) (g.S.Source.left c.args.script.now) (g.S.Source.faults c.args.script.now)
    (g.K.Sink.taken c.args.out.now) (g.K.Sink.faults c.args.out.now) in
    let new : Outside = outside (g.D.Disk.view c.finished-2.result.disk) (g.S.Source.left c.run-end.new.script) (g.S.Source.faults c.run-end.new.script)
    (g.K.Sink.taken c.run-end.new.out) (g.K.Sink.faults c.run-end.new.out) in
    let opened = open_here g.E.Engine g.E.Opens.says t g.D.Disk.told g.O.Presumes.presumed u (disk.refusing (g.D.Disk.view c.args.disk) 0) c.in-Ok-open.store.engine e
    (core_of c.in-Ok-open.store) (session_core s) c.marked-fuse.ensures.view c.over-session.ensures.engine c.over-session.ensures.core
    c.in-Ok-open.ensures.opens in
    heeded_of g.E.Engine g.E.Opens.says t g.D.Disk.told g.O.Presumes.presumed old new c.finished-2.result.refused c.finished-2.result.status c.run-end.result.end e f
    (session_core s) c.run-end.result.by_then c.run-end.result.stop
    opened (ap (λ (k : Core). k.names) c.over-session.ensures.core) c.run-end.ensures.ran c.run-end.ensures.heeds (g.E.Engine.waits f) c.run-end.ensures.full
    c.run-end.ensures.stays (sym c.into_disk.ensures ∙ c.finished-2.ensures.view)
    (c.finished-2.ensures.status ∙ (c.first_fault-status.ensures ∙ (ap (λ
    (a : code_status.Status). first_fault a c.status_of_end.result) c.status_of_stop-first.ensures ∙ ap
    (λ (a : code_status.Status). first_fault (status_of_stop c.run-end.result.stop) a) c.status_of_end.ensures)))
    (omega (arith, c.finished-2.ensures.later c.requires.known, c.requires.faults))

pub returns-in-Err-clause-heeded : goal.returns-in-Err-clause-heeded
returns-in-Err-clause-heeded g c =
    heeded_never g.E.Engine.basis g.E.Opens.says (table_of (λ z. (goal.RecordOp-dyn g z).record_meaning z.1)
    (λ z. (goal.RangeOp-dyn g z).range_meaning z.1) c.args.ops.now) g.D.Disk.told g.O.Presumes.presumed (g.D.Disk.view c.args.disk) (g.D.Disk.view c.finished.result.disk)
    c.finished.result.refused c.in-Err.field-0.why c.finished.result.status (c.finished.ensures.status ∙ c.status_of_refusal-status.ensures)
    (along (λ v w. StaysShut g.E.Engine.basis g.E.Opens.says (table_of (λ z. (goal.RecordOp-dyn g z).record_meaning z.1)
    (λ z. (goal.RangeOp-dyn g z).range_meaning z.1) c.args.ops.now) g.D.Disk.told g.O.Presumes.presumed v w c.in-Err.field-0.why) _ _ _ _ c.marked-fuse.ensures.view
    c.finished.ensures.view c.in-Err.ensures.refused) (omega (arith, c.finished.ensures.later c.requires.known, c.requires.faults))
