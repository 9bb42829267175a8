use Rattle.std.proofs.Common.{Some, None, sym, ap, ◌∙◌}
use Rattle.sg_plain.specs.Tables.{shown_value}
use Rattle.sg_plain.proofs.Found.{look}
use Rattle.sg_plain.proofs.table.Table.find.Goals as goal

pub returns-in-Some-clause-value : goal.returns-in-Some-clause-value
returns-in-Some-clause-value c =
    ap Some c.as_slice.ensures.value ∙ sym (look shown_value c.args.self.now c.self.inside.map.entries c.args.key (Some c.in-Some.entry.now) c.self.view_is c.in-Some.ensures.value)

pub returns-in-None-clause-value : goal.returns-in-None-clause-value
returns-in-None-clause-value c = sym (look shown_value c.args.self.now c.self.inside.map.entries c.args.key None c.self.view_is c.in-None.ensures.value)
