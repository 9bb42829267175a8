use Rattle.std.proofs.Common.{◌≤◌, length, arith}
use Rattle.sg_base.proofs.Overwriting.{wrote_on}
use Rattle.sg_record.proofs.writer.put_page.Goals as goal

pub returns : goal.returns
returns c =
    let within : c.args.at ≤ length c.args.into.now = omega arith in
    wrote_on within (wrote_on within (wrote_on within (wrote_on within (wrote_on within (wrote_on within (wrote_on within
    c.put_u32-at.ensures c.put_u8-at.ensures) c.put_u16-at.ensures) c.put_u16-at-2.ensures) c.put_u16-at-3.ensures) c.put_u16-at-4.ensures) c.put_text-at.ensures) c.put_text.ensures
