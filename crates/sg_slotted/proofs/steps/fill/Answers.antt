use Rattle.std.proofs.Common.{◌≡◌, ℕ, List, ◌≤◌, ◌+◌, ◌-◌, ◌*◌, length, Some, arith, set}
use Rattle.sg_base.specs.Page.{slots_of, lost_of}
use Rattle.sg_slotted.proofs.Changes.{filled, IsChanged, below_count, entry_within}
use Rattle.sg_slotted.proofs.Layouts.{filled_is}
use Rattle.sg_slotted.proofs.steps.fill.Goals as goal

pub put_entry-requires : goal.put_entry-requires
put_entry-requires c =
    let p0 : List ℕ = c.args.page.now in
    let within : 28 + 4 * c.args.slot ≤ length p0 = entry_within p0 c.args.slot c.requires.slotted (below_count p0 c.args.slot c.requires.there) in
    omega arith

pub returns : goal.returns
returns c =
    let p0 : List ℕ = c.args.page.now in
    let p3 : List ℕ = c.put_entry.new.page in
    let all : IsChanged p0 p3 (set (slots_of p0) c.args.slot (Some c.args.bytes.now)) × (lost_of p3 ≡ lost_of p0) =
    filled p0 c.put_bytes.new.page c.put_u16.new.page p3 c.args.slot (c.number_u16.result - length c.args.bytes.now) c.args.bytes.now c.requires.slotted c.requires.there c.requires.empty (omega arith) (omega arith) c.put_bytes.ensures.written c.put_bytes.ensures.others c.put_u16.ensures.written c.put_u16.ensures.others c.put_entry.ensures.offset c.put_entry.ensures.size c.put_entry.ensures.others in
    record { slotted = all.0.slotted; slots = all.0.slots; header = all.0.header; lost = all.1; bytes = filled_is p0 c.put_bytes.new.page c.put_u16.new.page p3 c.args.slot c.number_u16.result c.args.bytes.now c.number_u16.ensures c.put_bytes.ensures.bytes c.put_u16.ensures.bytes c.put_entry.ensures.bytes }
