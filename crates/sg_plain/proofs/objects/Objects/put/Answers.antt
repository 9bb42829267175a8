use Rattle.sg_plain.specs.Shown.{shown}
use Rattle.sg_plain.proofs.Found.{put_shown}
use Rattle.sg_plain.proofs.objects.Objects.put.Goals as goal

pub returns-in-Ok-clause-ok : goal.returns-in-Ok-clause-ok
returns-in-Ok-clause-ok c = put_shown shown c.args.self.now c.self.inside.map.entries c.insert.new.self.entries c.args.name c.args.object c.self.view_is c.in-Ok.ensures.updates.0
