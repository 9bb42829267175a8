use Rattle.std.proofs.Common.{sym, subst}
use Rattle.sg_base.specs.declared.area.Area.{Area}
use Rattle.sg_inspect.specs.Logs.{HasFrames}
use Rattle.sg_inspect.proofs.Read.{frames_of, listing_taken, listing_cut, heading_cut, on_ok, on_err}
use Rattle.sg_inspect.proofs.inspecting.write_listing.Goals as goal

pub returns-in-Ok-clause-took : goal.returns-in-Ok-clause-took
returns-in-Ok-clause-took g c sure log =
    let there = subst (λ (a : Area). HasFrames ((g.D.Disk.view c.args.disk.now).now a).seen c.args.s.now.base log.has.frames) (sym c.area_of.ensures) (frames_of log.has) in
    on_ok c.list_frames.result (c.list_frames.ensures.took log.has.frames sure there)
    (λ taken. listing_taken log (g.K.Sink.taken c.args.out.now) (g.K.Sink.taken c.write_heading.new.out) (g.K.Sink.taken c.list_frames.new.out) c.in-Ok.ensures.took taken)

pub returns-in-Ok-clause-cut : goal.returns-in-Ok-clause-cut
returns-in-Ok-clause-cut g c sure log =
    let there = subst (λ (a : Area). HasFrames ((g.D.Disk.view c.args.disk.now).now a).seen c.args.s.now.base log.has.frames) (sym c.area_of.ensures) (frames_of log.has) in
    on_err c.list_frames.result (c.list_frames.ensures.cut log.has.frames sure there)
    (λ cut. listing_cut log (g.K.Sink.taken c.args.out.now) (g.K.Sink.taken c.write_heading.new.out) (g.K.Sink.taken c.list_frames.new.out) c.in-Ok.ensures.took cut)

pub returns-in-Err-clause-cut : goal.returns-in-Err-clause-cut
returns-in-Err-clause-cut g c sure log = heading_cut log (g.K.Sink.taken c.args.out.now) (g.K.Sink.taken c.write_heading.new.out) c.in-Err.ensures.cut
