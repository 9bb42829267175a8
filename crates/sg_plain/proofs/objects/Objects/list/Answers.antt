use Rattle.std.specs.Map.{keys_of}
use Rattle.sg_plain.specs.Shown.{shown}
use Rattle.sg_plain.proofs.Found.{keys_shown}
use Rattle.sg_plain.proofs.Steps.{listed_all}
use Rattle.sg_plain.proofs.objects.Objects.list.Goals as goal

pub returns : goal.returns
returns c =
    let es = c.self.inside.map.entries in
    listed_all c.args.self.now (keys_of es) c.all_keys.result (keys_shown shown c.args.self.now es c.self.view_is c.all_keys.ensures.ordered) c.all_keys.ensures.keys
