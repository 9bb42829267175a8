use Rattle.std.proofs.Common.{ap}
use Rattle.sg_plain.specs.Shown.{objects_of}
use Rattle.sg_plain.proofs.objects.Objects.empty.Goals as goal

pub returns : goal.returns
returns c = ap objects_of c.new.ensures.empty
