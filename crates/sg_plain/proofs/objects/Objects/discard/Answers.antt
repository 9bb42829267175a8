use Rattle.sg_plain.specs.Shown.{shown}
use Rattle.sg_plain.proofs.Found.{gone_shown}
use Rattle.sg_plain.proofs.objects.Objects.discard.Goals as goal

pub returns : goal.returns
returns c = gone_shown shown c.args.self.now c.self.inside.map.entries c.remove.new.self.entries c.args.name c.self.view_is c.remove.ensures.updates.0
