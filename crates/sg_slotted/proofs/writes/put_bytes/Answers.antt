use Rattle.std.proofs.Common.{length, ◌+◌, ◌-◌, ◌∙◌, arith}
use Rattle.sg_base.proofs.Overwriting.{overwritten_by_part}
use Rattle.sg_slotted.proofs.Outside.{others_kept, bytes_are}
use Rattle.sg_slotted.proofs.writes.put_bytes.Goals as goal

pub returns-clause-written : goal.returns-clause-written
returns-clause-written c = bytes_are c.args.page.now c.copy_from_slice.new.self c.args.at (length c.args.bytes.now) c.requires c.copy_from_slice.ensures.len ∙ c.copy_from_slice.ensures.after

pub returns-clause-others : goal.returns-clause-others
returns-clause-others c = others_kept c.args.page.now c.copy_from_slice.new.self c.args.at (length c.args.bytes.now) c.requires c.copy_from_slice.ensures.len

pub returns-clause-bytes : goal.returns-clause-bytes
returns-clause-bytes c = overwritten_by_part c.args.page.now c.copy_from_slice.new.self c.args.bytes.now c.args.at (c.args.at + length c.args.bytes.now - c.args.at) c.copy_from_slice.ensures.after (omega arith)
