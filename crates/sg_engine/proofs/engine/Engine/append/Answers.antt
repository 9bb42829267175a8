use Rattle.std.proofs.Common.{[], ◌∷◌, ◌++◌, sym, subst}
use Rattle.sg_base.specs.declared.area.Area.TheVariants.{Home}
use Rattle.sg_record.specs.Shown.{shown}
use Rattle.sg_log.specs.Held.{Tail, Holds, numbered, durable_after, waiting_after}
use Rattle.sg_engine.specs.Running.{HasGoneOn}
use Rattle.sg_engine.proofs.Pools.{log_apart, append_call, append_early, rest_moments}
use Rattle.sg_engine.proofs.engine.Engine.append.Goals as goal

pub returns-in-Ok-clause-goes_on : goal.returns-in-Ok-clause-goes_on
returns-in-Ok-clause-goes_on g c o ds ps told e does =
    let v = g.D.Disk.view c.args.self.now.disk in
    let v1 = g.D.Disk.view c.append.new.disk in
    let log = c.args.self.now.log in
    let r = shown c.args.r.now in
    let is = c.in-Ok.ensures.log in
    let home = c.in-Ok.ensures.elsewhere told Home (λ at. log_apart o log e.engine.place (sym at)) in
    subst (λ (l : Tail). HasGoneOn o v1 l ds ((ds ++ ps) ++ numbered log r ∷ []) c.args.self.now.pool) (sym is)
    (append_call o v v1 log ds ps c.args.self.now.pool r c.requires.range e home (subst (λ (l : Tail). Holds v1 l (durable_after log r ds ps) (waiting_after log r ps)) is (c.in-Ok.ensures.holds ds ps told e.engine.held)) does)

pub returns-in-Ok-clause-moments : goal.returns-in-Ok-clause-moments
returns-in-Ok-clause-moments g c o ds ps k told e early =
    rest_moments o (g.D.Disk.view c.args.self.now.disk) (g.D.Disk.view c.append.new.disk) c.args.self.now.log ds ps c.args.self.now.pool e k early (c.append.ensures.any_moment ds ps told e.engine.held)

pub returns-in-Err-clause-moments : goal.returns-in-Err-clause-moments
returns-in-Err-clause-moments g c o ds ps k told e early =
    rest_moments o (g.D.Disk.view c.args.self.now.disk) (g.D.Disk.view c.append.new.disk) c.args.self.now.log ds ps c.args.self.now.pool e k early (c.append.ensures.any_moment ds ps told e.engine.held)

pub returns-in-Ok-clause-allowed : goal.returns-in-Ok-clause-allowed
returns-in-Ok-clause-allowed g c o ds ps k told e early =
    append_early o (g.D.Disk.view c.args.self.now.disk) (g.D.Disk.view c.append.new.disk) c.args.self.now.log c.append.new.self ds ps c.args.self.now.pool (shown c.args.r.now) c.requires.range e c.in-Ok.ensures.log (c.in-Ok.ensures.elsewhere told) (c.in-Ok.ensures.holds ds ps told e.engine.held) k early
