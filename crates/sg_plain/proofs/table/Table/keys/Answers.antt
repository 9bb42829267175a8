use Rattle.std.specs.FinMap.{keys}
use Rattle.std.specs.Map.{keys_of}
use Rattle.sg_plain.specs.Tables.{shown_value}
use Rattle.sg_plain.proofs.Found.{keys_shown, keys_answered}
use Rattle.sg_plain.proofs.table.Table.keys.Goals as goal

pub returns : goal.returns
returns c =
    let es = c.self.inside.map.entries in
    keys_answered (keys c.args.self.now) (keys_of es) c.all_keys.result (keys_shown shown_value c.args.self.now es c.self.view_is c.all_keys.ensures.ordered) c.all_keys.ensures.keys
