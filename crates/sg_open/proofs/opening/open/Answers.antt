use Rattle.std.proofs.Common.{◌≡◌, ◌⊎◌, ⊎_elim, ◌+◌, ◌≤◌, ℕ, length, sym, ◌∙◌, ap, subst, arith, Ok, inl, inr}
use Rattle.sg_base.specs.declared.area.Area.TheVariants.{Home}
use Rattle.sg_disk.specs.Accounts.{IsShownEnd}
use Rattle.sg_disk.specs.Disk.{Bytes, State, View, LeavesOnly}
use Rattle.sg_log.specs.Frames.{HasRecords}
use Rattle.sg_log.specs.Held.{Tail}
use Rattle.sg_pool.specs.Counts.{HasGrown}
use Rattle.sg_gate.specs.Superblock.{superblock}
use Rattle.sg_gate.specs.declared.superblock.Super.{Super}
use Rattle.sg_pool.specs.Pooled.{sizes}
use Rattle.sg_analysis.specs.Shown.{IsAnalysed}
use Rattle.sg_find.specs.Synced.{log_area, reads}
use Rattle.sg_find.specs.declared.fault.OpenFault.{OpenFault}
use Rattle.sg_open.specs.Refusals.{IsCause}
use Rattle.sg_open.proofs.Causes.{cause_same, accepted_same, late_cause}
use Rattle.sg_ops.specs.Table.{Table, table_of}
use Rattle.sg_engine.specs.Engine.{IsStanding}
use Rattle.sg_engine.specs.Running.{IsAllowed}
use Rattle.sg_places.specs.Placed.{places_in}
use Rattle.sg_open.proofs.Whole.{on_ok, opens1, opening_reads, opening_all, at_hand, not_found, reads_behind, goes_on}
use Rattle.sg_find.specs.declared.fault.OpenFault.TheVariants.{Disk, NotAStore}
use Rattle.sg_open.proofs.Able.{refused_synced, refused_memory, refused_disk}
use Rattle.sg_find.specs.Faults.{is_disk}
use Rattle.sg_find.proofs.Heeding.{on_false_then, heeds_none}
use Rattle.sg_open.proofs.opening.open.Goals as goal

pub returns-in-Err-clause-moments : goal.returns-in-Err-clause-moments
returns-in-Err-clause-moments g c o tail ds told effect opens =
    let t : Table = table_of (λ p. (goal.RecordOp-dyn g p).record_meaning p.1) (λ p. (goal.RangeOp-dyn g p).range_meaning p.1) c.args.ops.now in
    opening_reads t o tail ds (g.D.Disk.view c.args.disk.now) (g.D.Disk.view c.sync_all.new.disk) (g.D.Disk.view c.find.new.disk)
    (on_ok c.sync_all.result c.if-is_err.ensures.value (c.sync_all.ensures.synced told)) opens (c.sync_all.ensures.moments told) (c.find.ensures.reads.any_moment told)

pub returns-in-Err-take_pool-clause-moments : goal.returns-in-Err-take_pool-clause-moments
returns-in-Err-take_pool-clause-moments g c o tail ds told effect opens =
    let t : Table = table_of (λ p. (goal.RecordOp-dyn g p).record_meaning p.1) (λ p. (goal.RangeOp-dyn g p).range_meaning p.1) c.args.ops.now in
    opening_reads t o tail ds (g.D.Disk.view c.args.disk.now) (g.D.Disk.view c.sync_all.new.disk) (g.D.Disk.view c.find.new.disk)
    (on_ok c.sync_all.result c.if-is_err.ensures.value (c.sync_all.ensures.synced told)) opens (c.sync_all.ensures.moments told) (c.find.ensures.reads.any_moment told)

pub returns-in-Err-clause-stopped : goal.returns-in-Err-clause-stopped
returns-in-Err-clause-stopped g c told =
    let t : Table = table_of (λ p. (goal.RecordOp-dyn g p).record_meaning p.1) (λ p. (goal.RangeOp-dyn g p).range_meaning p.1) c.args.ops.now in
    inr (reads_behind t (g.D.Disk.view c.args.disk.now) (g.D.Disk.view c.sync_all.new.disk) (g.D.Disk.view c.find.new.disk)
    (on_ok c.sync_all.result c.if-is_err.ensures.value (c.sync_all.ensures.synced told)) (c.sync_all.ensures.moments told) (c.find.ensures.reads.any_moment told))

pub returns-in-Err-take_pool-clause-stopped : goal.returns-in-Err-take_pool-clause-stopped
returns-in-Err-take_pool-clause-stopped g c told =
    let t : Table = table_of (λ p. (goal.RecordOp-dyn g p).record_meaning p.1) (λ p. (goal.RangeOp-dyn g p).range_meaning p.1) c.args.ops.now in
    inr (reads_behind t (g.D.Disk.view c.args.disk.now) (g.D.Disk.view c.sync_all.new.disk) (g.D.Disk.view c.find.new.disk)
    (on_ok c.sync_all.result c.if-is_err.ensures.value (c.sync_all.ensures.synced told)) (c.sync_all.ensures.moments told) (c.find.ensures.reads.any_moment told))

pub returns-in-Ok-repeat-clause-behind : goal.returns-in-Ok-repeat-clause-behind
returns-in-Ok-repeat-clause-behind g c told =
    let t : Table = table_of (λ p. (goal.RecordOp-dyn g p).record_meaning p.1) (λ p. (goal.RangeOp-dyn g p).range_meaning p.1) c.args.ops.now in
    let v = g.D.Disk.view c.args.disk.now in
    let v1 = g.D.Disk.view c.sync_all.new.disk in
    let v2 = g.D.Disk.view c.find.new.disk in
    let w = g.D.Disk.view c.repeat.new.disk in
    let synced = on_ok c.sync_all.result c.if-is_err.ensures.value (c.sync_all.ensures.synced told) in
    record {
      mid = v1;
      synced = synced;
      before = c.sync_all.ensures.moments told;
      behind = λ o tail ds effect opens. (let found = c.in-Ok.ensures.found o tail ds told synced.settled (opens1 t o tail ds v v1 v2 synced opens) in
          goes_on t o tail ds v v1 v2 synced opens w (c.find.ensures.reads.any_moment told)
          (subst (λ (k : ℕ). LeavesOnly v2 w (IsStanding o ds ds k)) (c.max-point.ensures ∙ found.point) (c.repeat.ensures.moments o ds told (sym found.super)
          (at_hand t o tail ds v v1 v2 synced opens c.in-Ok.found c.in-Ok-take_pool.pool c.max-point.result (c.find.ensures.reads.unchanged told) effect found c.in-Ok-take_pool.ensures.new c.max-point.ensures))));
    }

pub returns-in-Err-repeat-clause-stopped : goal.returns-in-Err-repeat-clause-stopped
returns-in-Err-repeat-clause-stopped g c told =
    let t : Table = table_of (λ p. (goal.RecordOp-dyn g p).record_meaning p.1) (λ p. (goal.RangeOp-dyn g p).range_meaning p.1) c.args.ops.now in
    let v = g.D.Disk.view c.args.disk.now in
    let v1 = g.D.Disk.view c.sync_all.new.disk in
    let v2 = g.D.Disk.view c.find.new.disk in
    let w = g.D.Disk.view c.repeat.new.disk in
    let synced = on_ok c.sync_all.result c.if-is_err.ensures.value (c.sync_all.ensures.synced told) in
    inr (record {
      mid = v1;
      synced = synced;
      before = c.sync_all.ensures.moments told;
      behind = λ o tail ds effect opens. (let found = c.in-Ok.ensures.found o tail ds told synced.settled (opens1 t o tail ds v v1 v2 synced opens) in
          goes_on t o tail ds v v1 v2 synced opens w (c.find.ensures.reads.any_moment told)
          (subst (λ (k : ℕ). LeavesOnly v2 w (IsStanding o ds ds k)) (c.max-point.ensures ∙ found.point) (c.repeat.ensures.moments o ds told (sym found.super)
          (at_hand t o tail ds v v1 v2 synced opens c.in-Ok.found c.in-Ok-take_pool.pool c.max-point.result (c.find.ensures.reads.unchanged told) effect found c.in-Ok-take_pool.ensures.new c.max-point.ensures))));
    })

pub repeat-requires-clause-great : goal.repeat-requires-clause-great
repeat-requires-clause-great g c = let long = c.in-Ok.ensures.room.text in omega (arith, long, ap length c.deref_mut.ensures.value)

pub repeat-requires-clause-few : goal.repeat-requires-clause-few
repeat-requires-clause-few g c = let long = c.in-Ok.ensures.room.text in omega (arith, long, ap length c.deref_mut.ensures.value)

pub repeat-requires-clause-room : goal.repeat-requires-clause-room
repeat-requires-clause-room g c =
    let long = c.in-Ok.ensures.room.text in
    let many = c.in-Ok.ensures.room.places in
    omega (arith, long, many, ap length c.deref_mut.ensures.value)

pub returns-in-Ok-repeat-clause-opens : goal.returns-in-Ok-repeat-clause-opens
returns-in-Ok-repeat-clause-opens g c o tail ds told effect opens =
    let t : Table = table_of (λ p. (goal.RecordOp-dyn g p).record_meaning p.1) (λ p. (goal.RangeOp-dyn g p).range_meaning p.1) c.args.ops.now in
    let v = g.D.Disk.view c.args.disk.now in
    let v1 = g.D.Disk.view c.sync_all.new.disk in
    let v2 = g.D.Disk.view c.find.new.disk in
    let synced = on_ok c.sync_all.result c.if-is_err.ensures.value (c.sync_all.ensures.synced told) in
    let found = c.in-Ok.ensures.found o tail ds told synced.settled (opens1 t o tail ds v v1 v2 synced opens) in
    c.in-Ok-repeat.ensures.runs o ds told (sym found.super)
    (at_hand t o tail ds v v1 v2 synced opens c.in-Ok.found c.in-Ok-take_pool.pool c.max-point.result (c.find.ensures.reads.unchanged told) effect found c.in-Ok-take_pool.ensures.new c.max-point.ensures)

pub returns-in-Ok-repeat-clause-allowed : goal.returns-in-Ok-repeat-clause-allowed
returns-in-Ok-repeat-clause-allowed g c o tail ds told effect opens le =
    let t : Table = table_of (λ p. (goal.RecordOp-dyn g p).record_meaning p.1) (λ p. (goal.RangeOp-dyn g p).range_meaning p.1) c.args.ops.now in
    let v = g.D.Disk.view c.args.disk.now in
    let v1 = g.D.Disk.view c.sync_all.new.disk in
    let v2 = g.D.Disk.view c.find.new.disk in
    let synced = on_ok c.sync_all.result c.if-is_err.ensures.value (c.sync_all.ensures.synced told) in
    let found = c.in-Ok.ensures.found o tail ds told synced.settled (opens1 t o tail ds v v1 v2 synced opens) in
    let e = c.max-point.ensures ∙ found.point in
    let gate = found.gate in
    subst (λ (k : ℕ). IsAllowed o (g.D.Disk.view c.repeat.new.disk) c.repeat.new.log c.repeat.new.pool k) e
    (c.in-Ok-repeat.ensures.allowed o ds told (sym found.super) (at_hand t o tail ds v v1 v2 synced opens c.in-Ok.found c.in-Ok-take_pool.pool c.max-point.result (c.find.ensures.reads.unchanged told) effect found c.in-Ok-take_pool.ensures.new c.max-point.ensures) (omega (arith, e, gate, le)))

pub returns-in-Ok-repeat-clause-moments : goal.returns-in-Ok-repeat-clause-moments
returns-in-Ok-repeat-clause-moments g c o tail ds told effect opens =
    let t : Table = table_of (λ p. (goal.RecordOp-dyn g p).record_meaning p.1) (λ p. (goal.RangeOp-dyn g p).range_meaning p.1) c.args.ops.now in
    let v = g.D.Disk.view c.args.disk.now in
    let v1 = g.D.Disk.view c.sync_all.new.disk in
    let v2 = g.D.Disk.view c.find.new.disk in
    let synced = on_ok c.sync_all.result c.if-is_err.ensures.value (c.sync_all.ensures.synced told) in
    let found = c.in-Ok.ensures.found o tail ds told synced.settled (opens1 t o tail ds v v1 v2 synced opens) in
    opening_all t o tail ds v v1 v2 synced opens (g.D.Disk.view c.repeat.new.disk) (c.sync_all.ensures.moments told) (c.find.ensures.reads.any_moment told)
    (subst (λ (k : ℕ). LeavesOnly v2 (g.D.Disk.view c.repeat.new.disk) (IsStanding o ds ds k)) (c.max-point.ensures ∙ found.point) (c.repeat.ensures.moments o ds told (sym found.super)
    (at_hand t o tail ds v v1 v2 synced opens c.in-Ok.found c.in-Ok-take_pool.pool c.max-point.result (c.find.ensures.reads.unchanged told) effect found c.in-Ok-take_pool.ensures.new c.max-point.ensures)))

pub returns-in-Err-repeat-clause-moments : goal.returns-in-Err-repeat-clause-moments
returns-in-Err-repeat-clause-moments g c o tail ds told effect opens =
    let t : Table = table_of (λ p. (goal.RecordOp-dyn g p).record_meaning p.1) (λ p. (goal.RangeOp-dyn g p).range_meaning p.1) c.args.ops.now in
    let v = g.D.Disk.view c.args.disk.now in
    let v1 = g.D.Disk.view c.sync_all.new.disk in
    let v2 = g.D.Disk.view c.find.new.disk in
    let synced = on_ok c.sync_all.result c.if-is_err.ensures.value (c.sync_all.ensures.synced told) in
    let found = c.in-Ok.ensures.found o tail ds told synced.settled (opens1 t o tail ds v v1 v2 synced opens) in
    opening_all t o tail ds v v1 v2 synced opens (g.D.Disk.view c.repeat.new.disk) (c.sync_all.ensures.moments told) (c.find.ensures.reads.any_moment told)
    (subst (λ (k : ℕ). LeavesOnly v2 (g.D.Disk.view c.repeat.new.disk) (IsStanding o ds ds k)) (c.max-point.ensures ∙ found.point) (c.repeat.ensures.moments o ds told (sym found.super)
    (at_hand t o tail ds v v1 v2 synced opens c.in-Ok.found c.in-Ok-take_pool.pool c.max-point.result (c.find.ensures.reads.unchanged told) effect found c.in-Ok-take_pool.ensures.new c.max-point.ensures)))

pub returns-in-Ok-repeat-clause-shut : goal.returns-in-Ok-repeat-clause-shut
returns-in-Ok-repeat-clause-shut g c told first second =
    let synced = on_ok c.sync_all.result c.if-is_err.ensures.value (c.sync_all.ensures.synced told) in
    absurd (not_found (g.D.Disk.view c.args.disk.now) (g.D.Disk.view c.sync_all.new.disk) c.in-Ok.found NotAStore Disk synced first second (c.in-Ok.ensures.shut told))

pub returns-in-Err-repeat-clause-shut : goal.returns-in-Err-repeat-clause-shut
returns-in-Err-repeat-clause-shut g c told first second =
    let synced = on_ok c.sync_all.result c.if-is_err.ensures.value (c.sync_all.ensures.synced told) in
    absurd (not_found (g.D.Disk.view c.args.disk.now) (g.D.Disk.view c.sync_all.new.disk) c.in-Ok.found NotAStore Disk synced first second (c.in-Ok.ensures.shut told))

pub returns-in-Err-clause-refused : goal.returns-in-Err-clause-refused
returns-in-Err-clause-refused g c o tail ds told effect opens =
    let t : Table = table_of (λ p. (goal.RecordOp-dyn g p).record_meaning p.1) (λ p. (goal.RangeOp-dyn g p).range_meaning p.1) c.args.ops.now in
    let v = g.D.Disk.view c.args.disk.now in
    let v1 = g.D.Disk.view c.sync_all.new.disk in
    let v2 = g.D.Disk.view c.find.new.disk in
    let synced = on_ok c.sync_all.result c.if-is_err.ensures.value (c.sync_all.ensures.synced told) in
    refused_synced g.D.Disk.told t o ds v v1 v2 c.in-Err.fault synced c.sync_all.ensures.later (c.in-Err.ensures.refused o tail ds told synced.settled (opens1 t o tail ds v v1 v2 synced opens))

pub returns-in-Err-take_pool-clause-refused : goal.returns-in-Err-take_pool-clause-refused
returns-in-Err-take_pool-clause-refused g c o tail ds told effect opens =
    let t : Table = table_of (λ p. (goal.RecordOp-dyn g p).record_meaning p.1) (λ p. (goal.RangeOp-dyn g p).range_meaning p.1) c.args.ops.now in
    let v = g.D.Disk.view c.args.disk.now in
    let v1 = g.D.Disk.view c.sync_all.new.disk in
    let v2 = g.D.Disk.view c.find.new.disk in
    let synced = on_ok c.sync_all.result c.if-is_err.ensures.value (c.sync_all.ensures.synced told) in
    let found = c.in-Ok.ensures.found o tail ds told synced.settled (opens1 t o tail ds v v1 v2 synced opens) in
    refused_memory g.D.Disk.told t o ds v v2 c.in-Err-take_pool.fault c.in-Err-take_pool.ensures.memory

pub returns-in-Err-repeat-clause-refused : goal.returns-in-Err-repeat-clause-refused
returns-in-Err-repeat-clause-refused g c o tail ds told effect opens =
    let t : Table = table_of (λ p. (goal.RecordOp-dyn g p).record_meaning p.1) (λ p. (goal.RangeOp-dyn g p).range_meaning p.1) c.args.ops.now in
    let v = g.D.Disk.view c.args.disk.now in
    let v1 = g.D.Disk.view c.sync_all.new.disk in
    let v2 = g.D.Disk.view c.find.new.disk in
    let synced = on_ok c.sync_all.result c.if-is_err.ensures.value (c.sync_all.ensures.synced told) in
    let found = c.in-Ok.ensures.found o tail ds told synced.settled (opens1 t o tail ds v v1 v2 synced opens) in
    refused_disk g.D.Disk.told t o ds v v2 (g.D.Disk.view c.repeat.new.disk) c.in-Err-repeat.fault (omega (arith, c.sync_all.ensures.later, c.find.ensures.reads.later))
    (c.in-Err-repeat.ensures.refused o ds told (sym found.super)
    (at_hand t o tail ds v v1 v2 synced opens c.in-Ok.found c.in-Ok-take_pool.pool c.max-point.result (c.find.ensures.reads.unchanged told) effect found c.in-Ok-take_pool.ensures.new c.max-point.ensures))

pub returns-in-Err-clause-heeded : goal.returns-in-Err-clause-heeded
returns-in-Err-clause-heeded g c =
    let v = g.D.Disk.view c.args.disk.now in
    let v1 = g.D.Disk.view c.sync_all.new.disk in
    let v2 = g.D.Disk.view c.find.new.disk in
    let one : v1.faults ≡ v.faults = on_ok c.sync_all.result c.if-is_err.ensures.value c.sync_all.ensures.quiet in
    on_false_then (is_disk c.in-Err.fault) _ _ (λ (e : v2.faults ≡ v1.faults). e ∙ one) c.in-Err.ensures.heeded

pub returns-in-Err-take_pool-clause-heeded : goal.returns-in-Err-take_pool-clause-heeded
returns-in-Err-take_pool-clause-heeded g c =
    let v = g.D.Disk.view c.args.disk.now in
    let v1 = g.D.Disk.view c.sync_all.new.disk in
    let v2 = g.D.Disk.view c.find.new.disk in
    let one : v1.faults ≡ v.faults = on_ok c.sync_all.result c.if-is_err.ensures.value c.sync_all.ensures.quiet in
    let two : v2.faults ≡ v1.faults = c.in-Ok.ensures.heeded in
    heeds_none c.in-Err-take_pool.fault v v2 (two ∙ one)

pub returns-in-Err-repeat-clause-heeded : goal.returns-in-Err-repeat-clause-heeded
returns-in-Err-repeat-clause-heeded g c =
    let v = g.D.Disk.view c.args.disk.now in
    let v1 = g.D.Disk.view c.sync_all.new.disk in
    let v2 = g.D.Disk.view c.find.new.disk in
    let v3 = g.D.Disk.view c.repeat.new.disk in
    let one : v1.faults ≡ v.faults = on_ok c.sync_all.result c.if-is_err.ensures.value c.sync_all.ensures.quiet in
    let two : v2.faults ≡ v1.faults = c.in-Ok.ensures.heeded in
    on_false_then (is_disk c.in-Err-repeat.fault) _ _ (λ (e : v3.faults ≡ v2.faults). e ∙ (two ∙ one)) c.in-Err-repeat.ensures.heeded

pub returns-in-Ok-repeat-clause-heeded : goal.returns-in-Ok-repeat-clause-heeded
returns-in-Ok-repeat-clause-heeded g c =
    let v = g.D.Disk.view c.args.disk.now in
    let v1 = g.D.Disk.view c.sync_all.new.disk in
    let v2 = g.D.Disk.view c.find.new.disk in
    let v3 = g.D.Disk.view c.repeat.new.disk in
    let one : v1.faults ≡ v.faults = on_ok c.sync_all.result c.if-is_err.ensures.value c.sync_all.ensures.quiet in
    let two : v2.faults ≡ v1.faults = c.in-Ok.ensures.heeded in
    let three : v3.faults ≡ v2.faults = c.in-Ok-repeat.ensures.heeded in
    three ∙ (two ∙ one)

pub returns-in-Ok-repeat-clause-steps : goal.returns-in-Ok-repeat-clause-steps
returns-in-Ok-repeat-clause-steps g c o tail ds told effect opens =
    let t : Table = table_of (λ p. (goal.RecordOp-dyn g p).record_meaning p.1) (λ p. (goal.RangeOp-dyn g p).range_meaning p.1) c.args.ops.now in
    let v = g.D.Disk.view c.args.disk.now in
    let v1 = g.D.Disk.view c.sync_all.new.disk in
    let v2 = g.D.Disk.view c.find.new.disk in
    let synced = on_ok c.sync_all.result c.if-is_err.ensures.value (c.sync_all.ensures.synced told) in
    let found = c.in-Ok.ensures.found o tail ds told synced.settled (opens1 t o tail ds v v1 v2 synced opens) in
    subst (λ (k : ℕ). c.repeat.new.steps ≡ c.args.steps.now + length (places_in o.super.pages o.super.base k ds)) (c.max-point.ensures ∙ found.point)
    (c.in-Ok-repeat.ensures.steps o ds told (sym found.super) (at_hand t o tail ds v v1 v2 synced opens c.in-Ok.found c.in-Ok-take_pool.pool c.max-point.result (c.find.ensures.reads.unchanged told) effect found c.in-Ok-take_pool.ensures.new c.max-point.ensures))

pub returns-in-Err-clause-cause : goal.returns-in-Err-clause-cause
returns-in-Err-clause-cause g c told =
    let t : Table = table_of (λ p. (goal.RecordOp-dyn g p).record_meaning p.1) (λ p. (goal.RangeOp-dyn g p).range_meaning p.1) c.args.ops.now in
    let v = g.D.Disk.view c.args.disk.now in
    let v1 = g.D.Disk.view c.sync_all.new.disk in
    let v2 = g.D.Disk.view c.find.new.disk in
    let synced = on_ok c.sync_all.result c.if-is_err.ensures.value (c.sync_all.ensures.synced told) in
    inl (cause_same t (reads v1) (reads v) c.in-Err.fault synced.seen (c.in-Err.ensures.cause told synced.settled))

pub returns-in-Err-take_pool-clause-cause : goal.returns-in-Err-take_pool-clause-cause
returns-in-Err-take_pool-clause-cause g c told =
    let t : Table = table_of (λ p. (goal.RecordOp-dyn g p).record_meaning p.1) (λ p. (goal.RangeOp-dyn g p).range_meaning p.1) c.args.ops.now in
    let v = g.D.Disk.view c.args.disk.now in
    let v1 = g.D.Disk.view c.sync_all.new.disk in
    let v2 = g.D.Disk.view c.find.new.disk in
    let synced = on_ok c.sync_all.result c.if-is_err.ensures.value (c.sync_all.ensures.synced told) in
    inl (subst (λ (e : OpenFault). IsCause t (reads v) e) (sym c.in-Err-take_pool.ensures.memory) tt)

pub returns-in-Err-repeat-clause-cause : goal.returns-in-Err-repeat-clause-cause
returns-in-Err-repeat-clause-cause g c told =
    let t : Table = table_of (λ p. (goal.RecordOp-dyn g p).record_meaning p.1) (λ p. (goal.RangeOp-dyn g p).range_meaning p.1) c.args.ops.now in
    let v = g.D.Disk.view c.args.disk.now in
    let v1 = g.D.Disk.view c.sync_all.new.disk in
    let v2 = g.D.Disk.view c.find.new.disk in
    let synced = on_ok c.sync_all.result c.if-is_err.ensures.value (c.sync_all.ensures.synced told) in
    let accepted = accepted_same t (reads v1) (reads v) c.in-Ok.found.geometry synced.seen (c.in-Ok.ensures.accepted told synced.settled) in
    let super = subst (λ (s : Super). superblock (reads v Home) ≡ Ok s) accepted.1 accepted.0.counts in
    inr (late_cause g.D.Disk.told c.in-Ok.found.geometry (sizes c.in-Ok-take_pool.pool) (reads v) v2 c.in-Err-repeat.fault told
    (λ a. ap (λ (st : State). (st a).seen) (c.find.ensures.reads.unchanged told) ∙ synced.seen a) super c.in-Ok-take_pool.ensures.new.size c.in-Err-repeat.ensures.late)

pub returns-in-Ok-repeat-clause-accepted : goal.returns-in-Ok-repeat-clause-accepted
returns-in-Ok-repeat-clause-accepted g c told =
    let t : Table = table_of (λ p. (goal.RecordOp-dyn g p).record_meaning p.1) (λ p. (goal.RangeOp-dyn g p).range_meaning p.1) c.args.ops.now in
    let v = g.D.Disk.view c.args.disk.now in
    let v1 = g.D.Disk.view c.sync_all.new.disk in
    let v2 = g.D.Disk.view c.find.new.disk in
    let synced = on_ok c.sync_all.result c.if-is_err.ensures.value (c.sync_all.ensures.synced told) in
    accepted_same t (reads v1) (reads v) c.in-Ok.found.geometry synced.seen (c.in-Ok.ensures.accepted told synced.settled)

pub returns-in-Ok-repeat-clause-analysed : goal.returns-in-Ok-repeat-clause-analysed
returns-in-Ok-repeat-clause-analysed g c told =
    let synced = on_ok c.sync_all.result c.if-is_err.ensures.value (c.sync_all.ensures.synced told) in
    let f = c.in-Ok.found in
    subst (λ (b : Bytes). IsAnalysed b f.geometry.base f.analysis) (synced.seen (log_area f.geometry)) (c.in-Ok.ensures.analysed told)

pub returns-in-Err-clause-kept : goal.returns-in-Err-clause-kept
returns-in-Err-clause-kept g c = let a = c.sync_all.ensures.handed in let b = c.find.ensures.reads.handed in omega (arith, a, b)

pub returns-in-Err-take_pool-clause-kept : goal.returns-in-Err-take_pool-clause-kept
returns-in-Err-take_pool-clause-kept g c = let a = c.sync_all.ensures.handed in let b = c.find.ensures.reads.handed in omega (arith, a, b)

pub returns-in-Err-repeat-clause-kept : goal.returns-in-Err-repeat-clause-kept
returns-in-Err-repeat-clause-kept g c = let a = c.sync_all.ensures.handed in let b = c.find.ensures.reads.handed in let k = c.repeat.ensures.kept in omega (arith, a, b, k)

pub returns-in-Ok-repeat-clause-kept : goal.returns-in-Ok-repeat-clause-kept
returns-in-Ok-repeat-clause-kept g c = let a = c.sync_all.ensures.handed in let b = c.find.ensures.reads.handed in let k = c.repeat.ensures.kept in omega (arith, a, b, k)

-- a log that ended there and was written to
shown_from : (v w z : View) (log log' : Tail) (gate : ℕ) → w.handed ≡ v.handed → log.gate ≡ gate → HasGrown log log' w z → IsShownEnd v z gate log'.gate
shown_from v w z log log' gate same at grown = ⊎_elim (λ full. inl full) (λ more. inr (omega (arith, same, at, more))) grown

pub returns-in-Ok-repeat-clause-shown : goal.returns-in-Ok-repeat-clause-shown
returns-in-Ok-repeat-clause-shown g c told ds gate has =
    let v = g.D.Disk.view c.args.disk.now in
    let v1 = g.D.Disk.view c.sync_all.new.disk in
    let v2 = g.D.Disk.view c.find.new.disk in
    let s = c.in-Ok.found.geometry in
    let a = c.sync_all.ensures.handed in
    let b = c.find.ensures.reads.handed in
    let synced = on_ok c.sync_all.result c.if-is_err.ensures.value (c.sync_all.ensures.synced told) in
    let there = subst (λ (f : Bytes). HasRecords f s.base gate ds) (sym (synced.seen (log_area s))) has in
    shown_from v v2 (g.D.Disk.view c.repeat.new.disk) c.in-Ok.found.log c.repeat.new.log gate (omega (arith, a, b)) (c.in-Ok.ensures.ended told synced.settled ds gate there) c.repeat.ensures.grown

pub returns-in-Ok-repeat-clause-empty : goal.returns-in-Ok-repeat-clause-empty
returns-in-Ok-repeat-clause-empty g c = c.repeat.ensures.empty c.in-Ok.ensures.empty
