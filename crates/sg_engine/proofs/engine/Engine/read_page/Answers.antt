use Rattle.std.proofs.Common.{List, ◌∙◌, ap}
use Rattle.sg_log.specs.Frames.{Numbered}
use Rattle.sg_engine.specs.History.{made}
use Rattle.sg_engine.specs.Engine.{entries}
use Rattle.sg_engine.proofs.engine.Engine.read_page.Goals as goal

pub returns-in-Ok-clause-bytes : goal.returns-in-Ok-clause-bytes
returns-in-Ok-clause-bytes g c o ds ps told e =
    let on = c.in-Ok.ensures.goes_on o ds ps told e in
    c.copy_from_slice.ensures.after ∙ (c.page.ensures.bytes o on.durable on.waiting on.engine ∙ ap (λ (ns : List Numbered). (made (entries o ns) o.first).page c.args.p.0) on.is_all)
