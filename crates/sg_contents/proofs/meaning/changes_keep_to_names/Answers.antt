use Rattle.std.proofs.Common.{ap}
use Rattle.std.specs.Prelude.{is_some}
use Rattle.sg_contents.proofs.After as after
use Rattle.sg_contents.proofs.Catalogued as catalogued
use Rattle.sg_contents.proofs.meaning.changes_keep_to_names.Goals as goal

pub returns-clause-turned : goal.returns-clause-turned
returns-clause-turned c = λ space s name row b h found. record {
  thing = after.turned_thing s row b h.once name found;
  things = after.other_thing s row b h.once name found;
  tomb = λ root. after.other_tomb s row b h.once name found root name;
  tombs = λ root other ne. after.other_tomb s row b h.once name found root other;
}

pub returns-clause-made : goal.returns-clause-made
returns-clause-made c = λ kept old mid new s row b d h object m t a. (
  catalogued.row_made h m t a,
  record {
    thing = catalogued.made_thing h m t a;
    things = catalogued.made_others h m t a;
    tomb = λ root. catalogued.made_tombs h m t a (ap is_some object) root row.name;
    tombs = λ root other ne. catalogued.made_tombs h m t a (ap is_some object) root other;
  },
)

pub returns-clause-buried : goal.returns-clause-buried
returns-clause-buried c = λ kept old new s name by d h t a. (
  catalogued.row_buried name by h t a,
  record {
    thing = catalogued.buried_thing name by h t a;
    things = catalogued.buried_others name by h t a;
    tomb = catalogued.buried_tomb name by h t a;
    tombs = catalogued.buried_tombs name by h t a;
  },
)

pub returns-clause-raised : goal.returns-clause-raised
returns-clause-raised c = λ kept old new s name root d h t a. (
  catalogued.row_raised name root h t a,
  record {
    thing = catalogued.raised_thing name root h t a;
    things = catalogued.raised_others name root h t a;
    tomb = catalogued.raised_tomb name root h t a;
    tombs = catalogued.raised_tombs name root h t a;
  },
)

pub returns-clause-unmade : goal.returns-clause-unmade
returns-clause-unmade c = λ kept old mid new s name d h t a g. (
  catalogued.row_gone name h t a g,
  record {
    thing = catalogued.unmade_thing name h t a;
    things = catalogued.unmade_others name h t a;
    tomb = λ root. catalogued.unmade_tombs name h t a root name;
    tombs = λ root other ne. catalogued.unmade_tombs name h t a root other;
  },
)
