use Rattle.std.proofs.Common.{ap, ◌∙◌}
use Rattle.std.specs.Option.{is_some}
use Rattle.sg_plain.specs.Tables.{shown_value}
use Rattle.sg_plain.proofs.Found.{has, gone_shown}
use Rattle.sg_plain.proofs.table.Table.del.Goals as goal

pub returns-clause-there : goal.returns-clause-there
returns-clause-there c = has shown_value c.args.self.now c.self.inside.map.entries c.args.key c.is_some.result c.self.view_is (c.is_some.ensures ∙ ap is_some c.remove.ensures.value)

pub returns-clause-after : goal.returns-clause-after
returns-clause-after c = gone_shown shown_value c.args.self.now c.self.inside.map.entries c.remove.new.self.entries c.args.key c.self.view_is c.remove.ensures.updates.0
