use Rattle.std.proofs.Common.{sym}
use Rattle.std.specs.Option.{option_copied}
use Rattle.sg_plain.specs.Shown.{shown}
use Rattle.sg_plain.proofs.Found.{look}
use Rattle.sg_plain.proofs.objects.Objects.get.Goals as goal

pub returns : goal.returns
returns c = sym (look shown c.args.self.now c.self.inside.map.entries c.args.name.now (option_copied c.get.result) c.self.view_is c.get.ensures.value)
