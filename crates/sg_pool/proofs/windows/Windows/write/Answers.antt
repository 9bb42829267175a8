use Rattle.std.proofs.Common.{◌≡◌, Some, get_or, set, ◌∙◌, ap, length-set}
use Rattle.std.specs.Prelude.{unwrap_or}
use Rattle.sg_pool.specs.declared.slot.Slot.{Slot}
use Rattle.sg_pool.specs.Held.{no_slot}
use Rattle.sg_pool.proofs.Slots.{slot_at}
use Rattle.sg_pool.proofs.Windowing.{windows_written}
use Rattle.sg_pool.proofs.windows.Windows.write.Goals as goal

pub invariant_of-self : goal.invariant_of-self
invariant_of-self c =
    let s = c.args.self.now in
    let is : c.index-slot.result.now ≡ get_or s.slots.items c.args.w no_slot = slot_at s.slots.items c.args.w c.index-slot.result.now c.requires.there c.index-slot.ensures in
    let page = ap (λ (x : Slot). x.number) is in
    record {
      windows = windows_written s.slots.items s.index.items s.marks.items _ s.next s.next s.windows (length-set s.marks.items c.args.w _) s.windows.next_there c.args.w c.requires.there
          c.changed.result c.requires.held.0 (ap (λ (x : Slot). x.number) c.changed.ensures ∙ page) c.requires.held.1;
    }

pub returns-clause-slots : goal.returns-clause-slots
returns-clause-slots c =
    let s = c.args.self.now in
    let slot = c.index-slot.result.now in
    let is : slot ≡ get_or s.slots.items c.args.w no_slot = slot_at s.slots.items c.args.w slot c.requires.there c.index-slot.ensures in
    ap (λ (x : Slot). set s.slots.items c.args.w x) c.changed.ensures
    ∙ ap (λ (x : Slot). set s.slots.items c.args.w (record { number = x.number; since = Some (unwrap_or x.since c.args.lsn) })) is
