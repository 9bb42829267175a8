use Rattle.std.proofs.Common.{ap, ◌∙◌}
use Rattle.std.specs.Option.{is_some}
use Rattle.std.specs.FinMap.{insert}
use Rattle.sg_plain.specs.Tables.{shown_value}
use Rattle.sg_plain.proofs.Found.{has, put_shown}
use Rattle.sg_plain.proofs.table.Table.put.Goals as goal

pub returns-in-Ok-insert-clause-old : goal.returns-in-Ok-insert-clause-old
returns-in-Ok-insert-clause-old c = has shown_value c.args.self.now c.self.inside.map.entries c.args.key c.is_some.result c.self.view_is (c.is_some.ensures ∙ ap is_some c.in-Ok-insert.ensures.old)

pub returns-in-Ok-insert-clause-after : goal.returns-in-Ok-insert-clause-after
returns-in-Ok-insert-clause-after c =
    put_shown shown_value c.args.self.now c.self.inside.map.entries c.insert.new.self.entries c.args.key _ c.self.view_is c.in-Ok-insert.ensures.updates.0
    ∙ ap (insert c.args.self.now c.args.key) c.in-Ok.ensures.items
