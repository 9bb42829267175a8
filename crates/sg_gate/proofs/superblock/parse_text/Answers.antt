use Rattle.std.proofs.Common.{◌∙◌, sym}
use Rattle.sg_gate.proofs.Fields.{wrong_magic, wrong_version, wrong_field, is_text, behind}
use Rattle.sg_gate.proofs.superblock.parse_text.Goals as goal

pub returns-then-magic-ne-MAGIC_NUMBER-clause-wrong : goal.returns-then-magic-ne-MAGIC_NUMBER-clause-wrong
returns-then-magic-ne-MAGIC_NUMBER-clause-wrong c = wrong_magic c.args.text.now (λ is. c.if-magic-ne-MAGIC_NUMBER.true (c.read_u64-magic.ensures.value ∙ is))

pub returns-then-version-ne-VERSION-clause-wrong : goal.returns-then-version-ne-VERSION-clause-wrong
returns-then-version-ne-VERSION-clause-wrong c =
    let text = c.args.text.now in
    wrong_version text (sym c.read_u64-magic.ensures.value ∙ c.if-magic-ne-MAGIC_NUMBER.false) (λ is. c.if-version-ne-VERSION.true (c.read_u16-version.ensures.value ∙ behind 2 text 8 ∙ is))

pub returns-in-Some-clause-wrong : goal.returns-in-Some-clause-wrong
returns-in-Some-clause-wrong c =
    let text = c.args.text.now in
    wrong_field text c.read_fields-s.result (sym c.read_u64-magic.ensures.value ∙ c.if-magic-ne-MAGIC_NUMBER.false) (sym (c.read_u16-version.ensures.value ∙ behind 2 text 8) ∙ c.if-version-ne-VERSION.false) (sym c.read_fields-s.ensures)
    ∙ sym c.first_wrong.ensures ∙ c.in-Some.is

pub returns-in-None-clause-text : goal.returns-in-None-clause-text
returns-in-None-clause-text c =
    let text = c.args.text.now in
    is_text c.read_fields-s.result text (sym c.first_wrong.ensures ∙ c.in-None.is) (sym c.read_u64-magic.ensures.value ∙ c.if-magic-ne-MAGIC_NUMBER.false) (sym (c.read_u16-version.ensures.value ∙ behind 2 text 8) ∙ c.if-version-ne-VERSION.false) (sym c.read_fields-s.ensures)
