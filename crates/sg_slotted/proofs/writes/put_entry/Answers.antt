use Rattle.std.proofs.Common.{arith, ◌+◌, ◌*◌, inl, ◌∙◌}
use Rattle.sg_slotted.proofs.Outside.{same_number}
use Rattle.sg_slotted.proofs.Layouts.{entry_written}
use Rattle.sg_slotted.proofs.writes.put_entry.Goals as goal

pub returns-clause-offset : goal.returns-clause-offset
returns-clause-offset c = same_number c.put_u16.new.page c.put_u16-2.new.page (24 + 4 * c.args.slot + 2) (24 + 4 * c.args.slot + 2 + 2) (24 + 4 * c.args.slot) 2 c.put_u16-2.ensures.others (inl (omega arith)) ∙ c.put_u16.ensures.written

pub returns-clause-bytes : goal.returns-clause-bytes
returns-clause-bytes c = entry_written c.args.page.now c.put_u16.new.page c.put_u16-2.new.page c.args.slot c.args.offset c.args.size c.put_u16.ensures.bytes c.put_u16-2.ensures.bytes
