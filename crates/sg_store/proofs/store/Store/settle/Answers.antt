use Rattle.std.proofs.lemmas.Result.{on_ok_weaker}
use Rattle.std.proofs.Common.{ap, ◌∙◌, Option}
use Rattle.sg_model.specs.declared.stop.Stop.{Stop}
use Rattle.sg_run.specs.Run.{Run}
use Rattle.sg_store.specs.Engine.{led}
use Rattle.sg_store.specs.Seen.{core_of}
use Rattle.sg_store.specs.Stops.{stop_behind}
use Rattle.sg_store.proofs.Maintaining as maintaining
use Rattle.sg_store.proofs.Causing as causing
use Rattle.sg_store.proofs.Heeding as heeding
use Rattle.sg_store.proofs.store.Store.settle.Goals as goal

pub flush-requires : goal.flush-requires
flush-requires g c = let s = c.requires.serves in record { serves = (s.0, c.checkpoint.ensures.serves s.0 s.1) }

pub returns-in-Ok-clause-means : goal.returns-in-Ok-clause-means
returns-in-Ok-clause-means g c t z from m = c.flush.ensures.means t z from (c.checkpoint.ensures.means t z from m)

pub returns-in-Ok-clause-closes : goal.returns-in-Ok-clause-closes
returns-in-Ok-clause-closes g c t z from m told x lawful shows =
    let b = g.E.Engine.basis z in
    let v = led t z from (g.E.Engine.view c.args.self.now.engine) in
    let u = led t z from (g.E.Engine.view c.checkpoint.new.self.engine) in
    let w = led t z from (g.E.Engine.view c.flush.new.self.engine) in
    let h = c.in-Ok.ensures.marks t z from m told x lawful shows in
    let on = h.shows.stopped ∙ (ap (λ (r : Run). r.stopped) h.goes.1 ∙ h.goes.0) in
    maintaining.settled t b v u w (core_of c.checkpoint.new.self) (core_of c.flush.new.self) x c.flush.result h
    c.checkpoint.ensures.heeds.later c.flush.ensures.heeds.later
    (c.flush.ensures.flushes t z from (c.checkpoint.ensures.means t z from m) (c.checkpoint.ensures.heeds.tells on told) h.after lawful h.shows)

pub returns-in-Err-clause-closes : goal.returns-in-Err-clause-closes
returns-in-Err-clause-closes g c t z from m told x lawful shows =
    maintaining.unsettled t (g.E.Engine.basis z) (led t z from (g.E.Engine.view c.args.self.now.engine)) (led t z from (g.E.Engine.view c.checkpoint.new.self.engine)) (core_of c.checkpoint.new.self) x c.in-Err.why
    c.checkpoint.ensures.heeds.tail (c.in-Err.ensures.marks t z from m told x lawful shows)

pub returns-in-Ok-clause-causes : goal.returns-in-Ok-clause-causes
returns-in-Ok-clause-causes g c =
    causing.closes_for (g.E.Engine.view c.args.self.now.engine) (g.E.Engine.view c.checkpoint.new.self.engine) (g.E.Engine.view c.flush.new.self.engine)
    (core_of c.args.self.now) (core_of c.checkpoint.new.self) (core_of c.flush.new.self) c.in-Ok.ensures.causes
    c.checkpoint.ensures.heeds.later c.flush.ensures.heeds.later c.flush.result c.flush.ensures.causes

pub returns-in-Err-clause-causes : goal.returns-in-Err-clause-causes
returns-in-Err-clause-causes g c =
    causing.closes_not (g.E.Engine.view c.args.self.now.engine) (g.E.Engine.view c.checkpoint.new.self.engine) (core_of c.args.self.now) (core_of c.checkpoint.new.self) c.in-Err.why c.checkpoint.ensures.heeds.tail c.in-Err.ensures.causes

pub returns-in-Ok-clause-stop : goal.returns-in-Ok-clause-stop
returns-in-Ok-clause-stop g c = c.flush.ensures.stop ∙ ap (λ (s : Option Stop). stop_behind s c.flush.result) c.in-Ok.ensures.stop

pub returns-in-Ok-clause-heeds : goal.returns-in-Ok-clause-heeds
returns-in-Ok-clause-heeds g c =
    heeding.heeds_then c.args.self.now.stop c.checkpoint.new.self.stop c.flush.new.self.stop (g.E.Engine.view c.args.self.now.engine) (g.E.Engine.view c.checkpoint.new.self.engine) (g.E.Engine.view c.flush.new.self.engine)
    c.checkpoint.ensures.heeds c.flush.ensures.heeds

pub returns-in-Ok-clause-written : goal.returns-in-Ok-clause-written
returns-in-Ok-clause-written g c = c.flush.ensures.written

pub returns-in-Ok-clause-ends : goal.returns-in-Ok-clause-ends
returns-in-Ok-clause-ends g c =
    let on = c.in-Ok.ensures.stop ∙ c.in-Ok.ensures.causes.0 in
    on_ok_weaker c.flush.result (λ stays told. (let m = c.in-Ok.ensures.ends told in let e = m.ends in record {
      ends = record { lsn = e.lsn; estimate = e.estimate; appended = e.appended; still = stays (c.checkpoint.ensures.heeds.tells on told) e.lsn e.estimate e.still.last };
      estimates = m.estimates;
    })) c.flush.ensures.marked

pub returns-in-Ok-clause-stock : goal.returns-in-Ok-clause-stock
returns-in-Ok-clause-stock g c none t z from m told x lawful shows r shown =
    let on = (c.flush.ensures.heeds.quiet none).0 in
    let h = c.in-Ok.ensures.marks t z from m told x lawful shows in
    c.flush.ensures.stock none t z from (c.checkpoint.ensures.means t z from m) (c.checkpoint.ensures.heeds.tells on told) h.after lawful h.shows r
    (c.checkpoint.ensures.stock on t z from m told x lawful shows r shown)
