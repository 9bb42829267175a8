use Rattle.std.proofs.Common.{◌≡◌, ◌-◌, ◌≤◌, ℕ, List, [], refl, ap, ◌∙◌, subst, arith}
use Rattle.sg_base.specs.Ends.{HasRisen}
use Rattle.sg_disk.specs.Disk.{View}
use Rattle.sg_disk.proofs.Moments.{joined}
use Rattle.sg_gate.specs.declared.superblock.Super.{Super}
use Rattle.sg_ops.specs.Table.{Table, table_of}
use Rattle.sg_record.specs.Records.{Record}
use Rattle.sg_log.specs.Frames.{Numbered, LOG_END, gate_after}
use Rattle.sg_log.specs.Held.{Tail}
use Rattle.sg_pool.proofs.Counting.{grown_same, grown_then}
use Rattle.sg_pool.specs.declared.pool.Pool.{Pool}
use Rattle.sg_engine.specs.Engine.{Origin}
use Rattle.sg_pool.specs.Units.{Geometry}
use Rattle.sg_open.specs.Refusals.{IsPageFault}
use Rattle.sg_open.specs.Repeatable.{MayRepeat, IsRepeating}
use Rattle.sg_open.proofs.Going.{none_done, may_still, end_still, more_done, all_done, all_counted}
use Rattle.sg_open.proofs.repeating.replay.Goals as goal

reaches : (o : Origin) (r : ℕ) (ds : List Numbered) (frames : List (List Record)) (v : View) (log : Tail) (pool : Pool) (s : Super) (gate : ℕ) → IsRepeating o r ds [] frames v log pool → o.super ≡ s → gate ≡ log.gate → gate - s.base ≡ gate_after 0 frames
reaches o r ds frames v log pool s gate h same is =
    let base : o.super.base ≡ s.base = ap (λ (x : Super). x.base) same in
    omega (arith, is, h.at_gate, base)

-- a log that is being repeated has its gate in range
in_range : (t : Table) (o : Origin) (r : ℕ) (ds : List Numbered) (frames : List (List Record)) (v : View) (log : Tail) (pool : Pool) (s : Super) (gate : ℕ) → MayRepeat t o r log.gate ds → IsRepeating o r ds [] frames v log pool → o.super ≡ s → gate ≡ log.gate
    → (s.base ≤ gate) × (gate ≤ LOG_END)
in_range t o r ds frames v log pool s gate may h same is =
    let base : o.super.base ≡ s.base = ap (λ (x : Super). x.base) same in
    let within = may.openable.held.within in
    (omega (arith, is, h.at_gate, base), omega (arith, is, within))

pub stretches-init : goal.stretches-init
stretches-init g c = (
  omega arith,
  refl,
  refl,
  refl,
  omega arith,
  refl,
  λ o ds frames told same may h. none_done o c.args.point ds frames (g.D.Disk.view c.args.disk.now) c.args.log.now c.args.pool.now (c.args.steps.now - c.args.steps.now) h (omega arith),
  omega arith,
  grown_same c.args.log.now (g.D.Disk.view c.args.disk.now) (g.D.Disk.view c.args.disk.now) (omega arith),
  λ none. none,
)

pub stretches-preserved : goal.stretches-preserved
stretches-preserved g c = (
  c.in-Ok.ensures.some.1,
  c.repeat_stretch.ensures.long ∙ c.stretches.invariant.1,
  c.repeat_stretch.ensures.room ∙ c.stretches.invariant.2,
  c.in-Ok.ensures.heeded ∙ c.stretches.invariant.3,
  (let a = c.stretches.invariant.4 in let b = c.repeat_stretch.ensures.more_steps in omega (arith, a, b)),
  c.repeat_stretch.ensures.size ∙ c.stretches.invariant.5,
  λ o ds frames told same may h.
      let t : Table = table_of (λ p. (goal.RecordOp-dyn g p).record_meaning p.1) (λ p. (goal.RangeOp-dyn g p).range_meaning p.1) c.args.ops.now in
      let v = g.D.Disk.view c.args.disk.now in
      let w = g.D.Disk.view c.stretches.disk in
      let d = c.stretches.invariant.6 o ds frames told same may h in
      let D = c.stretches.steps - c.args.steps.now in
      let end : c.durable-gate.result - c.args.s.now.base ≡ gate_after 0 frames = reaches o c.args.point ds frames v c.args.log.now c.args.pool.now c.args.s.now c.durable-gate.result h same c.durable-gate.ensures in
      let a = c.stretches.invariant.4 in
      let b = c.repeat_stretch.ensures.more_steps in
      more_done t o c.args.point ds frames v w c.args.log.now c.stretches.log c.stretches.pool c.stretches.at (c.stretches.steps - c.args.steps.now) may d (g.D.Disk.view c.repeat_stretch.new.disk) c.repeat_stretch.new.log c.repeat_stretch.new.pool c.in-Ok.size (c.repeat_stretch.new.steps - c.stretches.steps) (c.repeat_stretch.new.steps - c.args.steps.now)
      (c.in-Ok.ensures.repeats o ds d.front d.back told same (may_still t o c.args.point ds frames v w c.args.log.now c.stretches.log c.stretches.pool c.stretches.at (c.stretches.steps - c.args.steps.now) may d) d.now d.here (end_still t o c.args.point ds frames v w c.args.log.now c.stretches.log c.stretches.pool c.stretches.at (c.stretches.steps - c.args.steps.now) may d (c.durable-gate.result - c.args.s.now.base) end))
      (c.repeat_stretch.ensures.moments o ds d.front d.back told same (may_still t o c.args.point ds frames v w c.args.log.now c.stretches.log c.stretches.pool c.stretches.at (c.stretches.steps - c.args.steps.now) may d) d.now d.here (end_still t o c.args.point ds frames v w c.args.log.now c.stretches.log c.stretches.pool c.stretches.at (c.stretches.steps - c.args.steps.now) may d (c.durable-gate.result - c.args.s.now.base) end)) (omega (arith, a, b)),
  (let a = c.stretches.invariant.7 in let b = c.repeat_stretch.ensures.kept in omega (arith, a, b)),
  grown_then c.args.log.now c.stretches.log c.repeat_stretch.new.log (g.D.Disk.view c.args.disk.now) (g.D.Disk.view c.stretches.disk) (g.D.Disk.view c.repeat_stretch.new.disk) c.stretches.invariant.8 c.repeat_stretch.ensures.grown c.repeat_stretch.ensures.kept,
  λ none. c.repeat_stretch.ensures.empty (c.stretches.invariant.9 none),
)

pub returns-in-Err-clause-refused : goal.returns-in-Err-clause-refused
returns-in-Err-clause-refused g c o ds frames told same may h =
    let t : Table = table_of (λ p. (goal.RecordOp-dyn g p).record_meaning p.1) (λ p. (goal.RangeOp-dyn g p).range_meaning p.1) c.args.ops.now in
    let v = g.D.Disk.view c.args.disk.now in
    let w = g.D.Disk.view c.stretches.disk in
    let d = c.stretches.invariant.6 o ds frames told same may h in
    let D = c.stretches.steps - c.args.steps.now in
    let end : c.durable-gate.result - c.args.s.now.base ≡ gate_after 0 frames = reaches o c.args.point ds frames v c.args.log.now c.args.pool.now c.args.s.now c.durable-gate.result h same c.durable-gate.ensures in
    let x = c.in-Err.ensures.refused o ds d.front d.back told same (may_still t o c.args.point ds frames v w c.args.log.now c.stretches.log c.stretches.pool c.stretches.at (c.stretches.steps - c.args.steps.now) may d) d.now d.here (end_still t o c.args.point ds frames v w c.args.log.now c.stretches.log c.stretches.pool c.stretches.at (c.stretches.steps - c.args.steps.now) may d (c.durable-gate.result - c.args.s.now.base) end) in
    (x.0, subst (λ (n : ℕ). HasRisen n (g.D.Disk.view c.repeat_stretch.new.disk).faults) c.stretches.invariant.3 x.1)

pub returns-in-Err-clause-moments : goal.returns-in-Err-clause-moments
returns-in-Err-clause-moments g c o ds frames told same may h =
    let t : Table = table_of (λ p. (goal.RecordOp-dyn g p).record_meaning p.1) (λ p. (goal.RangeOp-dyn g p).range_meaning p.1) c.args.ops.now in
    let v = g.D.Disk.view c.args.disk.now in
    let w = g.D.Disk.view c.stretches.disk in
    let d = c.stretches.invariant.6 o ds frames told same may h in
    let D = c.stretches.steps - c.args.steps.now in
    let end : c.durable-gate.result - c.args.s.now.base ≡ gate_after 0 frames = reaches o c.args.point ds frames v c.args.log.now c.args.pool.now c.args.s.now c.durable-gate.result h same c.durable-gate.ensures in
    joined d.run (c.repeat_stretch.ensures.moments o ds d.front d.back told same (may_still t o c.args.point ds frames v w c.args.log.now c.stretches.log c.stretches.pool c.stretches.at (c.stretches.steps - c.args.steps.now) may d) d.now d.here (end_still t o c.args.point ds frames v w c.args.log.now c.stretches.log c.stretches.pool c.stretches.at (c.stretches.steps - c.args.steps.now) may d (c.durable-gate.result - c.args.s.now.base) end))

pub returns-clause-repeats : goal.returns-clause-repeats
returns-clause-repeats g c o ds frames told same may h =
    let t : Table = table_of (λ p. (goal.RecordOp-dyn g p).record_meaning p.1) (λ p. (goal.RangeOp-dyn g p).range_meaning p.1) c.args.ops.now in
    let v = g.D.Disk.view c.args.disk.now in
    let w = g.D.Disk.view c.stretches.disk in
    let d = c.stretches.invariant.6 o ds frames told same may h in
    let D = c.stretches.steps - c.args.steps.now in
    let end : c.durable-gate.result - c.args.s.now.base ≡ gate_after 0 frames = reaches o c.args.point ds frames v c.args.log.now c.args.pool.now c.args.s.now c.durable-gate.result h same c.durable-gate.ensures in
    all_done t o c.args.point ds frames v w c.args.log.now c.stretches.log c.stretches.pool c.stretches.at (c.stretches.steps - c.args.steps.now) may d (c.durable-gate.result - c.args.s.now.base) end c.stretches-test.false

pub returns-clause-steps : goal.returns-clause-steps
returns-clause-steps g c o ds frames told same may h =
    let t : Table = table_of (λ p. (goal.RecordOp-dyn g p).record_meaning p.1) (λ p. (goal.RangeOp-dyn g p).range_meaning p.1) c.args.ops.now in
    let v = g.D.Disk.view c.args.disk.now in
    let w = g.D.Disk.view c.stretches.disk in
    let d = c.stretches.invariant.6 o ds frames told same may h in
    let D = c.stretches.steps - c.args.steps.now in
    let end : c.durable-gate.result - c.args.s.now.base ≡ gate_after 0 frames = reaches o c.args.point ds frames v c.args.log.now c.args.pool.now c.args.s.now c.durable-gate.result h same c.durable-gate.ensures in
    let count = all_counted t o c.args.point ds frames v w c.args.log.now c.stretches.log c.stretches.pool c.stretches.at (c.stretches.steps - c.args.steps.now) may d (c.durable-gate.result - c.args.s.now.base) end c.stretches-test.false in
    let more = c.stretches.invariant.4 in
    omega (arith, count, more)

pub returns-clause-moments : goal.returns-clause-moments
returns-clause-moments g c o ds frames told same may h = (c.stretches.invariant.6 o ds frames told same may h).run

pub returns-in-Err-clause-late : goal.returns-in-Err-clause-late
returns-in-Err-clause-late g c = subst (λ (x : Geometry). IsPageFault x c.in-Err.fault) c.stretches.invariant.5 c.in-Err.ensures.late

pub returns-in-Err-clause-kept : goal.returns-in-Err-clause-kept
returns-in-Err-clause-kept g c = let a = c.stretches.invariant.7 in let b = c.repeat_stretch.ensures.kept in omega (arith, a, b)

pub returns-in-Err-clause-grown : goal.returns-in-Err-clause-grown
returns-in-Err-clause-grown g c =
    grown_then c.args.log.now c.stretches.log c.repeat_stretch.new.log (g.D.Disk.view c.args.disk.now) (g.D.Disk.view c.stretches.disk) (g.D.Disk.view c.repeat_stretch.new.disk) c.stretches.invariant.8 c.repeat_stretch.ensures.grown c.repeat_stretch.ensures.kept

pub returns-clause-kept : goal.returns-clause-kept
returns-clause-kept g c = c.stretches.invariant.7

pub returns-clause-grown : goal.returns-clause-grown
returns-clause-grown g c = c.stretches.invariant.8

pub returns-in-Err-clause-empty : goal.returns-in-Err-clause-empty
returns-in-Err-clause-empty g c = λ none. c.repeat_stretch.ensures.empty (c.stretches.invariant.9 none)

pub returns-clause-empty : goal.returns-clause-empty
returns-clause-empty g c = c.stretches.invariant.9
