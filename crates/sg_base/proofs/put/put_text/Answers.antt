use Rattle.std.proofs.Common.{◌+◌, ◌-◌, length, arith, refl}
use Rattle.sg_base.proofs.Overwriting.{overwritten_by_part}
use Rattle.sg_base.proofs.put.put_text.Goals as goal

pub returns : goal.returns
returns c = record { written = overwritten_by_part c.args.into.now c.copy_from_slice.new.self c.args.bytes.now c.args.at (c.args.at + length c.args.bytes.now - c.args.at) c.copy_from_slice.ensures.after (omega arith); place = refl }
