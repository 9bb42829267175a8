use Rattle.sg_record.specs.Shown.{shown}
use Rattle.sg_log.specs.Held.{numbered, durable_after, waiting_after}
use Rattle.std.proofs.Common.{sym, ◌∙◌, subst, le_trans}
use Rattle.sg_engine.specs.Calls.{WaitsFrame}
use Rattle.sg_pool.proofs.Counting.{grown_then}
use Rattle.sg_engine.proofs.Waits.{waits_appended, waits_kept, tail_kept, ok_no_err}
use Rattle.sg_engine.proofs.Pools.{apart1, backs1, logged1, moments1, band1, band_early, append_moments}
use Rattle.sg_engine.proofs.engine.Engine.change_band.Goals as goal

pub returns-in-Err-clause-moments : goal.returns-in-Err-clause-moments
returns-in-Err-clause-moments g c o ds ps k told e early does =
    append_moments o (g.D.Disk.view c.args.self.now.disk) (g.D.Disk.view c.append.new.disk) c.args.self.now.log ds ps c.args.self.now.pool (numbered c.args.self.now.log (shown c.args.r.now)) k e early (c.append.ensures.any_moment ds ps told e.engine.held)

pub returns-in-Ok-change_band-clause-goes_on : goal.returns-in-Ok-change_band-clause-goes_on
returns-in-Ok-change_band-clause-goes_on g c o ds ps told e does =
    let v = g.D.Disk.view c.args.self.now.disk in
    let v1 = g.D.Disk.view c.append.new.disk in
    let log = c.args.self.now.log in
    let log1 = c.append.new.self in
    let pool = c.args.self.now.pool in
    let r = shown c.args.r.now in
    let is = c.in-Ok.ensures.log in
    let away = c.in-Ok.ensures.elsewhere told in
    let held = c.in-Ok.ensures.holds ds ps told e.engine.held in
    let D = durable_after log r ds ps in
    let W = waiting_after log r ps in
    let apart = apart1 o v v1 log log1 ds ps pool r c.requires.range e is away held in
    let backs = backs1 o v v1 log log1 ds ps pool r c.requires.range e is away held in
    let w = g.D.Disk.view c.change_band.new.disk in
    let logged = logged1 o v v1 log log1 ds ps pool r c.requires.range e is away held in
    band1 o v v1 log log1 ds ps pool r c.requires.range e is away held w c.change_band.new.log c.change_band.new.self c.in-Ok.lsn c.in-Ok.ensures.lsn
    (c.in-Ok-change_band.ensures.log D W told apart held)
    (c.change_band.ensures.moments D W told apart backs.ready held logged)
    (g.met.D.Disk.reads c.change_band.new.disk told) c.change_band.ensures.size c.args.b.0 c.args.at c.args.bytes.now does
    (c.in-Ok-change_band.ensures.changed told apart backs) (c.in-Ok-change_band.ensures.backed told apart backs) (c.in-Ok-change_band.ensures.gone logged.bands) c.in-Ok-change_band.ensures.last c.change_band.ensures.lasts c.change_band.ensures.logged

pub returns-in-Ok-change_band-clause-moments : goal.returns-in-Ok-change_band-clause-moments
returns-in-Ok-change_band-clause-moments g c o ds ps k told e early does =
    let v = g.D.Disk.view c.args.self.now.disk in
    let v1 = g.D.Disk.view c.append.new.disk in
    let log = c.args.self.now.log in
    let log1 = c.append.new.self in
    let pool = c.args.self.now.pool in
    let r = shown c.args.r.now in
    let is = c.in-Ok.ensures.log in
    let away = c.in-Ok.ensures.elsewhere told in
    let held = c.in-Ok.ensures.holds ds ps told e.engine.held in
    let D = durable_after log r ds ps in
    let W = waiting_after log r ps in
    let apart = apart1 o v v1 log log1 ds ps pool r c.requires.range e is away held in
    let backs = backs1 o v v1 log log1 ds ps pool r c.requires.range e is away held in
    moments1 o v v1 log log1 ds ps pool r c.requires.range e is away held (g.D.Disk.view c.change_band.new.disk) k does.appends early (c.append.ensures.any_moment ds ps told e.engine.held)
    (c.change_band.ensures.moments D W told apart backs.ready held (logged1 o v v1 log log1 ds ps pool r c.requires.range e is away held))

pub returns-in-Err-change_band-clause-moments : goal.returns-in-Err-change_band-clause-moments
returns-in-Err-change_band-clause-moments g c o ds ps k told e early does =
    let v = g.D.Disk.view c.args.self.now.disk in
    let v1 = g.D.Disk.view c.append.new.disk in
    let log = c.args.self.now.log in
    let log1 = c.append.new.self in
    let pool = c.args.self.now.pool in
    let r = shown c.args.r.now in
    let is = c.in-Ok.ensures.log in
    let away = c.in-Ok.ensures.elsewhere told in
    let held = c.in-Ok.ensures.holds ds ps told e.engine.held in
    let D = durable_after log r ds ps in
    let W = waiting_after log r ps in
    let apart = apart1 o v v1 log log1 ds ps pool r c.requires.range e is away held in
    let backs = backs1 o v v1 log log1 ds ps pool r c.requires.range e is away held in
    moments1 o v v1 log log1 ds ps pool r c.requires.range e is away held (g.D.Disk.view c.change_band.new.disk) k does.appends early (c.append.ensures.any_moment ds ps told e.engine.held)
    (c.change_band.ensures.moments D W told apart backs.ready held (logged1 o v v1 log log1 ds ps pool r c.requires.range e is away held))

pub returns-in-Ok-change_band-clause-allowed : goal.returns-in-Ok-change_band-clause-allowed
returns-in-Ok-change_band-clause-allowed g c o ds ps k told e early =
    let v = g.D.Disk.view c.args.self.now.disk in
    let v1 = g.D.Disk.view c.append.new.disk in
    let log = c.args.self.now.log in
    let log1 = c.append.new.self in
    let pool = c.args.self.now.pool in
    let r = shown c.args.r.now in
    let is = c.in-Ok.ensures.log in
    let away = c.in-Ok.ensures.elsewhere told in
    let held = c.in-Ok.ensures.holds ds ps told e.engine.held in
    let D = durable_after log r ds ps in
    let W = waiting_after log r ps in
    let apart = apart1 o v v1 log log1 ds ps pool r c.requires.range e is away held in
    let backs = backs1 o v v1 log log1 ds ps pool r c.requires.range e is away held in
    let w = g.D.Disk.view c.change_band.new.disk in
    band_early o v v1 log log1 ds ps pool r c.requires.range e is away held k early w c.change_band.new.log c.change_band.new.self c.in-Ok.lsn c.in-Ok.ensures.lsn (c.in-Ok-change_band.ensures.log D W told apart held)
    c.args.b.0 c.args.at c.args.bytes.now (c.in-Ok-change_band.ensures.changed told apart backs)

pub returns-in-Ok-change_band-clause-waits : goal.returns-in-Ok-change_band-clause-waits
returns-in-Ok-change_band-clause-waits g c = waits_kept c.append.new.self c.change_band.new.log c.change_band.ensures.log_kept (subst WaitsFrame (sym c.in-Ok.ensures.log) (waits_appended c.args.self.now.log (shown c.args.r.now) c.requires.range))

pub returns-in-Ok-change_band-clause-tail : goal.returns-in-Ok-change_band-clause-tail
returns-in-Ok-change_band-clause-tail g c = tail_kept c.append.new.self c.change_band.new.log c.change_band.ensures.log_kept ∙ c.in-Ok.ensures.tail

pub returns-in-Ok-change_band-clause-full : goal.returns-in-Ok-change_band-clause-full
returns-in-Ok-change_band-clause-full g c over = absurd (ok_no_err c.append.result _ _ c.in-Ok.is (c.append.ensures.full over))

pub returns-in-Err-change_band-clause-full : goal.returns-in-Err-change_band-clause-full
returns-in-Err-change_band-clause-full g c over = absurd (ok_no_err c.append.result _ _ c.in-Ok.is (c.append.ensures.full over))

pub returns-in-Ok-change_band-clause-heeded : goal.returns-in-Ok-change_band-clause-heeded
returns-in-Ok-change_band-clause-heeded g c = c.in-Ok-change_band.ensures.heeded ∙ c.in-Ok.ensures.heeded

pub returns-in-Ok-change_band-clause-later : goal.returns-in-Ok-change_band-clause-later
returns-in-Ok-change_band-clause-later g c = le_trans c.append.ensures.later c.change_band.ensures.later

pub returns-in-Err-change_band-clause-later : goal.returns-in-Err-change_band-clause-later
returns-in-Err-change_band-clause-later g c = le_trans c.append.ensures.later c.change_band.ensures.later

pub returns-in-Ok-change_band-clause-grown : goal.returns-in-Ok-change_band-clause-grown
returns-in-Ok-change_band-clause-grown g c = record {
  rising = le_trans c.append.ensures.kept c.change_band.ensures.kept;
  grown = grown_then c.args.self.now.log c.append.new.self c.change_band.new.log (g.D.Disk.view c.args.self.now.disk) (g.D.Disk.view c.append.new.disk) (g.D.Disk.view c.change_band.new.disk) c.append.ensures.grown c.change_band.ensures.grown c.change_band.ensures.kept;
}

pub returns-in-Err-change_band-clause-grown : goal.returns-in-Err-change_band-clause-grown
returns-in-Err-change_band-clause-grown g c = record {
  rising = le_trans c.append.ensures.kept c.change_band.ensures.kept;
  grown = grown_then c.args.self.now.log c.append.new.self c.change_band.new.log (g.D.Disk.view c.args.self.now.disk) (g.D.Disk.view c.append.new.disk) (g.D.Disk.view c.change_band.new.disk) c.append.ensures.grown c.change_band.ensures.grown c.change_band.ensures.kept;
}
