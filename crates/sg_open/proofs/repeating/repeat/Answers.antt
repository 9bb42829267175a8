use Rattle.std.proofs.Common.{◌≡◌, ◌≤◌, ℕ, List, Result, Ok, Err, IfErr, OnOk, sym, subst, arith}
use Rattle.std.specs.Bool.{OnFalse}
use Rattle.sg_base.specs.Ends.{HasRisen}
use Rattle.sg_base.specs.declared.area.Area.TheVariants.{Home}
use Rattle.sg_disk.specs.Disk.{View, LeavesOnly}
use Rattle.sg_disk.proofs.Moments.{weaker, joined}
use Rattle.sg_gate.specs.Layout.{HEADER}
use Rattle.sg_gate.specs.Batch.{IsWhole, IsBatch, IsSettled, laid, numbers_of}
use Rattle.sg_gate.specs.declared.superblock.Super.{Super}
use Rattle.sg_ops.specs.Table.{Table, table_of}
use Rattle.sg_log.specs.Frames.{Numbered}
use Rattle.sg_log.specs.Held.{Tail}
use Rattle.sg_pool.specs.declared.pool.Pool.{Pool}
use Rattle.sg_engine.specs.Engine.{Origin, IsStanding}
use Rattle.sg_find.specs.Faults.{is_disk}
use Rattle.sg_find.specs.declared.fault.OpenFault.{OpenFault}
use Rattle.sg_find.specs.declared.fault.OpenFault.TheVariants.{Disk}
use Rattle.sg_find.proofs.Heeding.{gate_heeds, heeds_then}
use Rattle.sg_pool.proofs.Counting.{grown_same, grown_then}
use Rattle.sg_pool.specs.Pooled.{sizes}
use Rattle.sg_open.specs.Refusals.{IsLate}
use Rattle.sg_open.proofs.Causes.{header_late, page_late, err_same}
use Rattle.sg_open.specs.Repeatable.{IsRepeatable}
use Rattle.sg_open.proofs.Over as over
use Rattle.sg_open.proofs.Late.{lay_refused}
use Rattle.sg_open.proofs.repeating.repeat.Goals as goal

-- the moments of the pages that are laid over
laying : (t : Table) (o : Origin) (r : ℕ) (ds : List Numbered) (v w : View) (pages : ℕ) (log : Tail) (pool : Pool) → o.super.pages ≡ pages → IsRepeatable t o r ds v log pool
    → (IsSettled (v.now Home) → ((v.now Home).seen HEADER ≡ 1 → IsBatch pages (numbers_of (v.now Home).seen)) → LeavesOnly v w (IsWhole v.now pages (laid (v.now Home).seen)))
    → LeavesOnly v w (IsStanding o ds ds r)
laying t o r ds v w pages log pool same is run =
    weaker (run (over.all_settled t o r ds v log pool is) (λ there. subst (λ (n : ℕ). IsBatch n (numbers_of (v.now Home).seen)) same (is.openable.header there)))
    (λ c whole. over.laid_stands t o r ds v log pool is c (subst (λ (n : ℕ). IsWhole v.now n (laid (v.now Home).seen) c) (sym same) whole))

pages_same : (s t : Super) → s ≡ t → s.pages ≡ t.pages
pages_same s t e = cc

-- what a refusal is behind a call before
risen_before : {T : Type 0} (r : Result T OpenFault) (v w z : View) → v.faults ≤ w.faults → IfErr r (λ e. (e ≡ Disk) × HasRisen w.faults z.faults) → IfErr r (λ e. (e ≡ Disk) × HasRisen v.faults z.faults)
risen_before (Ok x) v w z le h = tt
risen_before (Err e) v w z le h = let risen = h.1 in (h.0, λ few. omega (arith, le, risen few))

on_ok_then : {T E : Type 0} {P Q : Type 0} (r : Result T E) → OnOk r P → (P → Q) → OnOk r Q
on_ok_then (Ok x) p f = f p
on_ok_then (Err e) p f = tt

pub returns-in-Err-clause-moments : goal.returns-in-Err-clause-moments
returns-in-Err-clause-moments g c o ds told same is =
    let t : Table = table_of (λ p. (goal.RecordOp-dyn g p).record_meaning p.1) (λ p. (goal.RangeOp-dyn g p).range_meaning p.1) c.args.ops.now in
    laying t o c.args.point ds (g.D.Disk.view c.args.disk.now) (g.D.Disk.view c.lay_over.new.disk) c.args.s.now.pages c.args.log.now c.args.pool.now (pages_same o.super c.args.s.now same) is
    (c.lay_over.ensures.any_moment told)

pub returns-in-Err-clause-refused : goal.returns-in-Err-clause-refused
returns-in-Err-clause-refused g c o ds told same is =
    let v = g.D.Disk.view c.args.disk.now in
    lay_refused g.D.Disk.told c.args.s.now.pages v (g.D.Disk.view c.lay_over.new.disk) c.in-Err.fault c.of_gate.result c.of_gate.ensures told
    (λ there. subst (λ (n : ℕ). IsBatch n (numbers_of (v.now Home).seen)) (pages_same o.super c.args.s.now same) (is.openable.header there)) c.in-Err.ensures.faults

pub returns-in-Err-clause-heeded : goal.returns-in-Err-clause-heeded
returns-in-Err-clause-heeded g c =
    let v = g.D.Disk.view c.args.disk.now in
    let w = g.D.Disk.view c.lay_over.new.disk in
    subst (λ (e : OpenFault). OnFalse (is_disk e) (w.faults ≡ v.faults)) (sym c.of_gate.ensures) (gate_heeds c.in-Err.fault v w c.in-Err.ensures.heeded)

pub returns-clause-runs : goal.returns-clause-runs
returns-clause-runs g c o ds told same is =
    let t : Table = table_of (λ p. (goal.RecordOp-dyn g p).record_meaning p.1) (λ p. (goal.RangeOp-dyn g p).range_meaning p.1) c.args.ops.now in
    let v = g.D.Disk.view c.args.disk.now in
    let w0 = g.D.Disk.view c.lay_over.new.disk in
    let w = g.D.Disk.view c.replay.new.disk in
    let log = c.args.log.now in
    let pool = c.args.pool.now in
    let laid_is = c.in_default.ensures.done told in
    let run = laying t o c.args.point ds v w0 c.args.s.now.pages log pool (pages_same o.super c.args.s.now same) is (c.lay_over.ensures.any_moment told) in
    let begun = over.begins t o c.args.point ds v log pool is w0 laid_is run in
    let frames = (over.held t o c.args.point ds v log pool is w0 laid_is).frames in
    let may = over.may_repeat t o c.args.point ds v log pool is w0 laid_is in
    on_ok_then c.replay.result (c.replay.ensures.repeats o ds frames told same may begun) (λ x. over.runs t o c.args.point ds v log pool is w0 laid_is w c.replay.new.log c.replay.new.pool x.0 frames x.1)

pub returns-clause-allowed : goal.returns-clause-allowed
returns-clause-allowed g c o ds told same is le =
    let t : Table = table_of (λ p. (goal.RecordOp-dyn g p).record_meaning p.1) (λ p. (goal.RangeOp-dyn g p).range_meaning p.1) c.args.ops.now in
    let v = g.D.Disk.view c.args.disk.now in
    let w0 = g.D.Disk.view c.lay_over.new.disk in
    let w = g.D.Disk.view c.replay.new.disk in
    let log = c.args.log.now in
    let pool = c.args.pool.now in
    let laid_is = c.in_default.ensures.done told in
    let run = laying t o c.args.point ds v w0 c.args.s.now.pages log pool (pages_same o.super c.args.s.now same) is (c.lay_over.ensures.any_moment told) in
    let begun = over.begins t o c.args.point ds v log pool is w0 laid_is run in
    let frames = (over.held t o c.args.point ds v log pool is w0 laid_is).frames in
    let may = over.may_repeat t o c.args.point ds v log pool is w0 laid_is in
    on_ok_then c.replay.result (c.replay.ensures.repeats o ds frames told same may begun) (λ x. over.early t o c.args.point ds v log pool is w0 laid_is w c.replay.new.log c.replay.new.pool x.0 frames x.1 le)

pub returns-clause-refused : goal.returns-clause-refused
returns-clause-refused g c o ds told same is =
    let t : Table = table_of (λ p. (goal.RecordOp-dyn g p).record_meaning p.1) (λ p. (goal.RangeOp-dyn g p).range_meaning p.1) c.args.ops.now in
    let v = g.D.Disk.view c.args.disk.now in
    let w0 = g.D.Disk.view c.lay_over.new.disk in
    let w = g.D.Disk.view c.replay.new.disk in
    let log = c.args.log.now in
    let pool = c.args.pool.now in
    let laid_is = c.in_default.ensures.done told in
    let run = laying t o c.args.point ds v w0 c.args.s.now.pages log pool (pages_same o.super c.args.s.now same) is (c.lay_over.ensures.any_moment told) in
    let begun = over.begins t o c.args.point ds v log pool is w0 laid_is run in
    let frames = (over.held t o c.args.point ds v log pool is w0 laid_is).frames in
    let may = over.may_repeat t o c.args.point ds v log pool is w0 laid_is in
    risen_before c.replay.result v w0 w c.lay_over.ensures.later (c.replay.ensures.refused o ds frames told same may begun)

pub returns-clause-heeded : goal.returns-clause-heeded
returns-clause-heeded g c = heeds_then c.replay.result (g.D.Disk.view c.args.disk.now) (g.D.Disk.view c.lay_over.new.disk) (g.D.Disk.view c.replay.new.disk) c.in_default.ensures.heeded c.replay.ensures.heeded

pub returns-clause-steps : goal.returns-clause-steps
returns-clause-steps g c o ds told same is =
    let t : Table = table_of (λ p. (goal.RecordOp-dyn g p).record_meaning p.1) (λ p. (goal.RangeOp-dyn g p).range_meaning p.1) c.args.ops.now in
    let v = g.D.Disk.view c.args.disk.now in
    let w0 = g.D.Disk.view c.lay_over.new.disk in
    let w = g.D.Disk.view c.replay.new.disk in
    let log = c.args.log.now in
    let pool = c.args.pool.now in
    let laid_is = c.in_default.ensures.done told in
    let run = laying t o c.args.point ds v w0 c.args.s.now.pages log pool (pages_same o.super c.args.s.now same) is (c.lay_over.ensures.any_moment told) in
    let begun = over.begins t o c.args.point ds v log pool is w0 laid_is run in
    let frames = (over.held t o c.args.point ds v log pool is w0 laid_is).frames in
    let may = over.may_repeat t o c.args.point ds v log pool is w0 laid_is in
    c.replay.ensures.steps o ds frames told same may begun

pub returns-clause-moments : goal.returns-clause-moments
returns-clause-moments g c o ds told same is =
    let t : Table = table_of (λ p. (goal.RecordOp-dyn g p).record_meaning p.1) (λ p. (goal.RangeOp-dyn g p).range_meaning p.1) c.args.ops.now in
    let v = g.D.Disk.view c.args.disk.now in
    let w0 = g.D.Disk.view c.lay_over.new.disk in
    let w = g.D.Disk.view c.replay.new.disk in
    let log = c.args.log.now in
    let pool = c.args.pool.now in
    let laid_is = c.in_default.ensures.done told in
    let run = laying t o c.args.point ds v w0 c.args.s.now.pages log pool (pages_same o.super c.args.s.now same) is (c.lay_over.ensures.any_moment told) in
    let begun = over.begins t o c.args.point ds v log pool is w0 laid_is run in
    let frames = (over.held t o c.args.point ds v log pool is w0 laid_is).frames in
    let may = over.may_repeat t o c.args.point ds v log pool is w0 laid_is in
    joined run (c.replay.ensures.moments o ds frames told same may begun)

pub returns-in-Err-clause-late : goal.returns-in-Err-clause-late
returns-in-Err-clause-late g c =
    let v = g.D.Disk.view c.args.disk.now in
    subst (λ (e : OpenFault). IsLate g.D.Disk.told c.args.s.now.pages (sizes c.args.pool.now) v e) (sym c.of_gate.ensures)
    (header_late g.D.Disk.told c.args.s.now.pages (sizes c.args.pool.now) v (g.D.Disk.view c.lay_over.new.disk) c.in-Err.fault c.in-Err.ensures.faults)

pub returns-clause-late : goal.returns-clause-late
returns-clause-late g c = err_same c.replay.result c.replay.ensures.late (λ e h. page_late g.D.Disk.told c.args.s.now.pages (sizes c.args.pool.now) (g.D.Disk.view c.args.disk.now) e h)

pub returns-in-Err-clause-kept : goal.returns-in-Err-clause-kept
returns-in-Err-clause-kept g c = c.lay_over.ensures.kept

pub returns-in-Err-clause-grown : goal.returns-in-Err-clause-grown
returns-in-Err-clause-grown g c = grown_same c.args.log.now (g.D.Disk.view c.args.disk.now) (g.D.Disk.view c.lay_over.new.disk) c.lay_over.ensures.kept

pub returns-clause-kept : goal.returns-clause-kept
returns-clause-kept g c = let a = c.lay_over.ensures.kept in let b = c.replay.ensures.kept in omega (arith, a, b)

pub returns-clause-grown : goal.returns-clause-grown
returns-clause-grown g c =
    grown_then c.args.log.now c.args.log.now c.replay.new.log (g.D.Disk.view c.args.disk.now) (g.D.Disk.view c.lay_over.new.disk) (g.D.Disk.view c.replay.new.disk)
    (grown_same c.args.log.now (g.D.Disk.view c.args.disk.now) (g.D.Disk.view c.lay_over.new.disk) c.lay_over.ensures.kept) c.replay.ensures.grown c.replay.ensures.kept

pub returns-clause-empty : goal.returns-clause-empty
returns-clause-empty g c = c.replay.ensures.empty
