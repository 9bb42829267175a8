use Rattle.std.proofs.Common.{arith}
use Rattle.sg_base.specs.Op.{op_of}
use Rattle.sg_record.specs.Shown.{shown}
use Rattle.sg_log.specs.Held.{numbered, durable_after, waiting_after}
use Rattle.sg_ops.specs.Table.{Table, table_of}
use Rattle.std.proofs.Common.{sym, ◌∙◌, subst, le_trans}
use Rattle.sg_engine.specs.Calls.{WaitsFrame}
use Rattle.sg_pool.proofs.Counting.{grown_then}
use Rattle.sg_engine.proofs.Waits.{waits_appended, waits_kept, tail_kept, ok_no_err}
use Rattle.sg_engine.proofs.Pools.{apart1, backs1, logged1, well1, moments1, page1, page_early, append_moments, bring_failed}
use Rattle.sg_engine.proofs.engine.Engine.change_page.Goals as goal

pub returns-in-Err-clause-moments : goal.returns-in-Err-clause-moments
returns-in-Err-clause-moments g c o ds ps k told e early does =
    append_moments o (g.D.Disk.view c.args.self.now.disk) (g.D.Disk.view c.append.new.disk) c.args.self.now.log ds ps c.args.self.now.pool (numbered c.args.self.now.log (shown c.args.r.now)) k e early (c.append.ensures.any_moment ds ps told e.engine.held)

pub returns-in-Ok-change_page-clause-goes_on : goal.returns-in-Ok-change_page-clause-goes_on
returns-in-Ok-change_page-clause-goes_on g c o ds ps told e does =
    let v = g.D.Disk.view c.args.self.now.disk in
    let v1 = g.D.Disk.view c.append.new.disk in
    let log = c.args.self.now.log in
    let log1 = c.append.new.self in
    let pool = c.args.self.now.pool in
    let r = shown c.args.r.now in
    let is = c.in-Ok.ensures.log in
    let away = c.in-Ok.ensures.elsewhere told in
    let held = c.in-Ok.ensures.holds ds ps told e.engine.held in
    let D = durable_after log r ds ps in
    let W = waiting_after log r ps in
    let apart = apart1 o v v1 log log1 ds ps pool r c.requires.range e is away held in
    let backs = backs1 o v v1 log log1 ds ps pool r c.requires.range e is away held in
    let w = g.D.Disk.view c.change_page.new.disk in
    let t : Table = table_of (λ p. (goal.RecordOp-dyn g p).record_meaning p.1) (λ p. (goal.RangeOp-dyn g p).range_meaning p.1) c.args.ops.now in
    page1 o v v1 log log1 ds ps pool r c.requires.range e is away held w c.change_page.new.log c.change_page.new.self c.in-Ok.lsn c.in-Ok.ensures.lsn
    (c.in-Ok-change_page.ensures.log D W told apart backs.ready held)
    (c.change_page.ensures.moments D W told apart backs.ready held (logged1 o v v1 log log1 ds ps pool r c.requires.range e is away held))
    (g.met.D.Disk.reads c.change_page.new.disk told) c.change_page.ensures.size t c.args.p.0 (op_of c.args.op.now) does c.requires.page
    (c.in-Ok-change_page.ensures.changed told apart backs) (c.in-Ok-change_page.ensures.backed told apart backs) c.change_page.ensures.windows

pub returns-in-Ok-change_page-clause-moments : goal.returns-in-Ok-change_page-clause-moments
returns-in-Ok-change_page-clause-moments g c o ds ps k told e early does =
    let v = g.D.Disk.view c.args.self.now.disk in
    let v1 = g.D.Disk.view c.append.new.disk in
    let log = c.args.self.now.log in
    let log1 = c.append.new.self in
    let pool = c.args.self.now.pool in
    let r = shown c.args.r.now in
    let is = c.in-Ok.ensures.log in
    let away = c.in-Ok.ensures.elsewhere told in
    let held = c.in-Ok.ensures.holds ds ps told e.engine.held in
    let D = durable_after log r ds ps in
    let W = waiting_after log r ps in
    let apart = apart1 o v v1 log log1 ds ps pool r c.requires.range e is away held in
    let backs = backs1 o v v1 log log1 ds ps pool r c.requires.range e is away held in
    moments1 o v v1 log log1 ds ps pool r c.requires.range e is away held (g.D.Disk.view c.change_page.new.disk) k does.appends early (c.append.ensures.any_moment ds ps told e.engine.held)
    (c.change_page.ensures.moments D W told apart backs.ready held (logged1 o v v1 log log1 ds ps pool r c.requires.range e is away held))

pub returns-in-Err-change_page-clause-moments : goal.returns-in-Err-change_page-clause-moments
returns-in-Err-change_page-clause-moments g c o ds ps k told e early does =
    let v = g.D.Disk.view c.args.self.now.disk in
    let v1 = g.D.Disk.view c.append.new.disk in
    let log = c.args.self.now.log in
    let log1 = c.append.new.self in
    let pool = c.args.self.now.pool in
    let r = shown c.args.r.now in
    let is = c.in-Ok.ensures.log in
    let away = c.in-Ok.ensures.elsewhere told in
    let held = c.in-Ok.ensures.holds ds ps told e.engine.held in
    let D = durable_after log r ds ps in
    let W = waiting_after log r ps in
    let apart = apart1 o v v1 log log1 ds ps pool r c.requires.range e is away held in
    let backs = backs1 o v v1 log log1 ds ps pool r c.requires.range e is away held in
    moments1 o v v1 log log1 ds ps pool r c.requires.range e is away held (g.D.Disk.view c.change_page.new.disk) k does.appends early (c.append.ensures.any_moment ds ps told e.engine.held)
    (c.change_page.ensures.moments D W told apart backs.ready held (logged1 o v v1 log log1 ds ps pool r c.requires.range e is away held))

pub returns-in-Err-change_page-clause-failed : goal.returns-in-Err-change_page-clause-failed
returns-in-Err-change_page-clause-failed g c o ds ps told e is_disk near =
    let v = g.D.Disk.view c.args.self.now.disk in
    let v1 = g.D.Disk.view c.append.new.disk in
    let log = c.args.self.now.log in
    let log1 = c.append.new.self in
    let pool = c.args.self.now.pool in
    let r = shown c.args.r.now in
    let is = c.in-Ok.ensures.log in
    let away = c.in-Ok.ensures.elsewhere told in
    let held = c.in-Ok.ensures.holds ds ps told e.engine.held in
    let D = durable_after log r ds ps in
    let W = waiting_after log r ps in
    let apart = apart1 o v v1 log log1 ds ps pool r c.requires.range e is away held in
    let backs = backs1 o v v1 log log1 ds ps pool r c.requires.range e is away held in
    let w = g.D.Disk.view c.change_page.new.disk in
    let low = bring_failed g.D.Disk.told log1.area c.args.p.0 v1 w pool c.in-Err-change_page.field-0 c.in-Err-change_page.ensures.faults told apart backs
    (well1 o v v1 log log1 ds ps pool r c.requires.range e is away held c.args.p.0 c.requires.page) in
    let later = c.append.ensures.later in
    let more = low near in
    omega (arith, later, more)

pub returns-in-Ok-change_page-clause-allowed : goal.returns-in-Ok-change_page-clause-allowed
returns-in-Ok-change_page-clause-allowed g c o ds ps k told e early =
    let v = g.D.Disk.view c.args.self.now.disk in
    let v1 = g.D.Disk.view c.append.new.disk in
    let log = c.args.self.now.log in
    let log1 = c.append.new.self in
    let pool = c.args.self.now.pool in
    let r = shown c.args.r.now in
    let is = c.in-Ok.ensures.log in
    let away = c.in-Ok.ensures.elsewhere told in
    let held = c.in-Ok.ensures.holds ds ps told e.engine.held in
    let D = durable_after log r ds ps in
    let W = waiting_after log r ps in
    let apart = apart1 o v v1 log log1 ds ps pool r c.requires.range e is away held in
    let backs = backs1 o v v1 log log1 ds ps pool r c.requires.range e is away held in
    let w = g.D.Disk.view c.change_page.new.disk in
    let t : Table = table_of (λ p. (goal.RecordOp-dyn g p).record_meaning p.1) (λ p. (goal.RangeOp-dyn g p).range_meaning p.1) c.args.ops.now in
    page_early o v v1 log log1 ds ps pool r c.requires.range e is away held k early w c.change_page.new.log c.change_page.new.self c.in-Ok.lsn c.in-Ok.ensures.lsn (c.in-Ok-change_page.ensures.log D W told apart backs.ready held)
    t c.args.p.0 (op_of c.args.op.now) (c.in-Ok-change_page.ensures.changed told apart backs)

pub returns-in-Ok-change_page-clause-waits : goal.returns-in-Ok-change_page-clause-waits
returns-in-Ok-change_page-clause-waits g c = waits_kept c.append.new.self c.change_page.new.log c.change_page.ensures.log_kept (subst WaitsFrame (sym c.in-Ok.ensures.log) (waits_appended c.args.self.now.log (shown c.args.r.now) c.requires.range))

pub returns-in-Ok-change_page-clause-tail : goal.returns-in-Ok-change_page-clause-tail
returns-in-Ok-change_page-clause-tail g c = tail_kept c.append.new.self c.change_page.new.log c.change_page.ensures.log_kept ∙ c.in-Ok.ensures.tail

pub returns-in-Ok-change_page-clause-full : goal.returns-in-Ok-change_page-clause-full
returns-in-Ok-change_page-clause-full g c over = absurd (ok_no_err c.append.result _ _ c.in-Ok.is (c.append.ensures.full over))

pub returns-in-Err-change_page-clause-full : goal.returns-in-Err-change_page-clause-full
returns-in-Err-change_page-clause-full g c over = absurd (ok_no_err c.append.result _ _ c.in-Ok.is (c.append.ensures.full over))

pub returns-in-Ok-change_page-clause-heeded : goal.returns-in-Ok-change_page-clause-heeded
returns-in-Ok-change_page-clause-heeded g c = c.in-Ok-change_page.ensures.heeded ∙ c.in-Ok.ensures.heeded

pub returns-in-Ok-change_page-clause-later : goal.returns-in-Ok-change_page-clause-later
returns-in-Ok-change_page-clause-later g c = le_trans c.append.ensures.later c.change_page.ensures.later

pub returns-in-Err-change_page-clause-later : goal.returns-in-Err-change_page-clause-later
returns-in-Err-change_page-clause-later g c = le_trans c.append.ensures.later c.change_page.ensures.later

pub returns-in-Ok-change_page-clause-grown : goal.returns-in-Ok-change_page-clause-grown
returns-in-Ok-change_page-clause-grown g c = record {
  rising = le_trans c.append.ensures.kept c.change_page.ensures.kept;
  grown = grown_then c.args.self.now.log c.append.new.self c.change_page.new.log (g.D.Disk.view c.args.self.now.disk) (g.D.Disk.view c.append.new.disk) (g.D.Disk.view c.change_page.new.disk) c.append.ensures.grown c.change_page.ensures.grown c.change_page.ensures.kept;
}

pub returns-in-Err-change_page-clause-grown : goal.returns-in-Err-change_page-clause-grown
returns-in-Err-change_page-clause-grown g c = record {
  rising = le_trans c.append.ensures.kept c.change_page.ensures.kept;
  grown = grown_then c.args.self.now.log c.append.new.self c.change_page.new.log (g.D.Disk.view c.args.self.now.disk) (g.D.Disk.view c.append.new.disk) (g.D.Disk.view c.change_page.new.disk) c.append.ensures.grown c.change_page.ensures.grown c.change_page.ensures.kept;
}
