use Rattle.std.proofs.Common.{ℕ, List, ◌∙◌, ap, get_or}
use Rattle.sg_log.specs.Frames.{Numbered}
use Rattle.sg_engine.specs.History.{made}
use Rattle.sg_engine.specs.Engine.{entries}
use Rattle.sg_engine.proofs.engine.Engine.read_band.Goals as goal

pub returns-in-Ok-clause-bytes : goal.returns-in-Ok-clause-bytes
returns-in-Ok-clause-bytes g c o ds ps told e i small =
    let on = c.in-Ok.ensures.goes_on o ds ps told e in
    ap (λ (xs : List ℕ). get_or xs i 0) c.copy_from_slice.ensures.after
    ∙ (c.band.ensures.bytes o on.durable on.waiting on.engine i small ∙ ap (λ (ns : List Numbered). (made (entries o ns) o.first).byte c.args.b.0 i) on.is_all)
