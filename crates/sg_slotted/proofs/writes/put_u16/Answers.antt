use Rattle.std.proofs.Common.{◌+◌, ◌-◌, arith}
use Rattle.byteorder.specs.Endian.{little_bytes}
use Rattle.sg_base.proofs.Overwriting.{overwritten_by_front}
use Rattle.sg_slotted.proofs.Outside.{others_kept, number_is}
use Rattle.sg_slotted.proofs.writes.put_u16.Goals as goal

pub returns-clause-written : goal.returns-clause-written
returns-clause-written c = number_is c.args.page.now c.write_u16.new.into c.args.at 2 c.args.number c.requires c.write_u16.auto.into c.write_u16.ensures.back

pub returns-clause-others : goal.returns-clause-others
returns-clause-others c = others_kept c.args.page.now c.write_u16.new.into c.args.at 2 c.requires c.write_u16.auto.into

pub returns-clause-bytes : goal.returns-clause-bytes
returns-clause-bytes c = overwritten_by_front c.args.page.now c.write_u16.new.into (little_bytes 2 c.args.number) c.args.at (c.args.at + 2 - c.args.at) (omega arith) c.write_u16.ensures.bytes
