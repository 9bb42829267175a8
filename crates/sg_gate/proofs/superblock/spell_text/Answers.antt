use Rattle.std.proofs.Common.{◌∙◌}
use Rattle.sg_gate.proofs.Fields.{all_written}
use Rattle.sg_gate.proofs.superblock.spell_text.Goals as goal

pub returns : goal.returns
returns c =
    let l1 = c.put_u64-at.auto.into ∙ c.requires in
    let l2 = c.put_u16-at.auto.into ∙ l1 in
    let l3 = c.put_u64-at-2.auto.into ∙ l2 in
    let l4 = c.put_u32-at.auto.into ∙ l3 in
    let l5 = c.put_u32-at-2.auto.into ∙ l4 in
    let l6 = c.put_u32-at-3.auto.into ∙ l5 in
    let l7 = c.put_u32-at-4.auto.into ∙ l6 in
    all_written c.args.s.now c.requires c.put_u64-at.ensures c.put_u16-at.ensures c.put_u64-at-2.ensures c.put_u32-at.ensures c.put_u32-at-2.ensures c.put_u32-at-3.ensures c.put_u32-at-4.ensures c.put_u8-at.ensures c.put_u64.ensures
    l1 l2 l3 l4 l5 l6 l7
