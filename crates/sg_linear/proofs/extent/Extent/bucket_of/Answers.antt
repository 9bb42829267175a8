use Rattle.sg_linear.specs.Extent.{shape_of}
use Rattle.sg_linear.proofs.Growing.{split_there}
use Rattle.sg_linear.proofs.extent.Extent.bucket_of.Goals as goal

pub returns-then-bucket-from-clause-there : goal.returns-then-bucket-from-clause-there
returns-then-bucket-from-clause-there c = split_there (shape_of c.args.self.now) c.args.self.now.low c.from.result c.args.hash c.args.self.now.power c.from.ensures c.if-bucket-from.true c.args.self.now.within
