use Rattle.sg_linear.specs.Extent.{shape_of}
use Rattle.sg_linear.proofs.Growing.{level_divides, split_divides}
use Rattle.sg_linear.proofs.extent.Extent.grown.Goals as goal

pub returns-then-from-self-clause-divides : goal.returns-then-from-self-clause-divides
returns-then-from-self-clause-divides c = λ hash. level_divides (shape_of c.args.self.now) c.args.self.now.low c.from.result hash c.args.self.now.power c.from.ensures c.if-from-self.true c.args.self.now.within

pub returns-clause-divides : goal.returns-clause-divides
returns-clause-divides c = λ hash. split_divides (shape_of c.args.self.now) c.args.self.now.low c.from.result hash c.args.self.now.power c.from.ensures c.if-from-self.false c.args.self.now.within
