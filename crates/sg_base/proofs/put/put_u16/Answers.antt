use Rattle.std.proofs.Common.{◌+◌, ◌-◌, arith, refl}
use Rattle.byteorder.specs.Endian.{little_bytes}
use Rattle.sg_base.proofs.Overwriting.{overwritten_by_front}
use Rattle.sg_base.proofs.put.put_u16.Goals as goal

pub returns : goal.returns
returns c = record { written = overwritten_by_front c.args.into.now c.write_u16.new.into (little_bytes 2 c.args.number) c.args.at (c.args.at + 2 - c.args.at) (omega arith) c.write_u16.ensures.bytes; place = refl }
