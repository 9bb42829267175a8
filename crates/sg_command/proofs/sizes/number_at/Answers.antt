use Rattle.std.proofs.Common.{rules, ◌≡◌, ◌∙◌, sym, ap, option_and_then, w64, to_z, of_z}
use Rattle.std.proofs.lemmas.Int.{to_z-of_z}
use Rattle.toml.proofs.Views.{table_get}
use Rattle.sg_command.specs.Sizes.{in_field, number_or}
use Rattle.sg_command.proofs.sizes.number_at.Goals as goal

pub returns-in-Some-as_integer : goal.returns-in-Some-as_integer
returns-in-Some-as_integer c =
    let found = table_get c.get.result c.args.key.now c.args.table.now.entries c.get.ensures.value in
    let known = rw c.in-Some.is at found in
    let number = c.in-Some-as_integer.number in
    let whole : to_z w64 (of_z w64 number) ≡ number = to_z-of_z w64 number (search rules) in
    c.in_field.ensures ∙ ap in_field whole ∙ ap (option_and_then in_field) (sym c.in-Some-as_integer.is ∙ c.as_integer.ensures) ∙ ap (number_or c.args.default) known

pub returns-in-None-as_integer : goal.returns-in-None-as_integer
returns-in-None-as_integer c =
    let found = table_get c.get.result c.args.key.now c.args.table.now.entries c.get.ensures.value in
    let known = rw c.in-Some.is at found in
    ap (option_and_then in_field) (sym c.in-None-as_integer.is ∙ c.as_integer.ensures) ∙ ap (number_or c.args.default) known

pub returns-in-None : goal.returns-in-None
returns-in-None c =
    let found = table_get c.get.result c.args.key.now c.args.table.now.entries c.get.ensures.value in
    ap (number_or c.args.default) (rw c.in-None.is at found)
