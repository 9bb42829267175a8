use Rattle.std.proofs.Common.{arith}
use Rattle.sg_log.specs.Held.{tail_of}
use Rattle.sg_pool.specs.Pooled.{IsUnwritten}
use Rattle.sg_phys.proofs.Cutting.{point_begun}
use Rattle.sg_pages.proofs.phys.Phys.cut_point.Goals as goal

pub returns-else-redo-begun-clause-point : goal.returns-else-redo-begun-clause-point
returns-else-redo-begun-clause-point g c = λ le. point_begun (IsUnwritten c.args.self.now.engine.pool) c.args.oldest c.args.checkpoint c.earlier-begun.result c.redo_point-redo.result (tail_of c.args.self.now.engine.log) c.redo_point-redo.ensures.least c.redo_point-redo.ensures.exact c.earlier-begun.ensures.marked c.earlier-begun.ensures.begun c.earlier-begun.ensures.least c.if-redo-begun.false le
