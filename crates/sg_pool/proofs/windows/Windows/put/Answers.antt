use Rattle.std.proofs.Common.{◌≡◌, Some, None, length, get_or, set, sym, ◌∙◌, ap, arith, length-set}
use Rattle.sg_pool.specs.declared.slot.Slot.{Slot}
use Rattle.sg_pool.specs.declared.windows.Marks.{Marks}
use Rattle.sg_pool.specs.Held.{no_slot}
use Rattle.sg_pool.proofs.Slots.{slot_at}
use Rattle.sg_pool.proofs.Indexing.{emptied}
use Rattle.sg_pool.proofs.Windowing.{windows_put}
use Rattle.sg_pool.proofs.windows.Windows.put.Goals as goal

pub forget-requires : goal.forget-requires
forget-requires c =
    let s = c.args.self.now in
    let is : c.index-slot.result.now ≡ get_or s.slots.items c.args.w no_slot = slot_at s.slots.items c.args.w c.index-slot.result.now c.requires.there c.index-slot.ensures in
    record { listed = λ n held. s.windows.within c.args.w n c.requires.there (sym (ap (λ (x : Slot). x.number) is) ∙ held) }

pub index_mut-requires-2 : goal.index_mut-requires-2
index_mut-requires-2 c =
    let s = c.args.self.now in
    let is : c.index-slot.result.now ≡ get_or s.slots.items c.args.w no_slot = slot_at s.slots.items c.args.w c.index-slot.result.now c.requires.there c.index-slot.ensures in
    let page = ap (λ (x : Slot). x.number) is in
    let e : length c.forget.new.index.items ≡ length s.index.items = (emptied s.slots.items s.index.items c.args.w c.requires.there s.windows.apart s.windows.found c.forget.new.index.items (λ n held. s.windows.within c.args.w n c.requires.there held)
    (λ none. c.forget.ensures.none (page ∙ none)) (λ n held. c.forget.ensures.some n (page ∙ held))).0 in
    let small = c.requires.band in
    omega (arith, e, small)

pub invariant_of-self : goal.invariant_of-self
invariant_of-self c =
    let s = c.args.self.now in
    let is : c.index-slot.result.now ≡ get_or s.slots.items c.args.w no_slot = slot_at s.slots.items c.args.w c.index-slot.result.now c.requires.there c.index-slot.ensures in
    let page = ap (λ (x : Slot). x.number) is in
    let marks : Marks = record { last = 0; dirty = c.new.result } in
    let lt = c.requires.there in
    let long : length (set s.slots.items c.args.w (record { number = Some c.args.b; since = None })) ≡ length s.slots.items = length-set s.slots.items c.args.w (record { number = Some c.args.b; since = None }) in
    let len = c.len.ensures in
    record {
      windows = windows_put s.slots.items s.index.items s.marks.items (set s.marks.items c.args.w marks) s.next _ s.windows (length-set s.marks.items c.args.w marks) (omega (arith, lt, long, len))
          c.args.w lt c.args.b c.requires.band c.requires.absent c.forget.new.index.items (λ none. c.forget.ensures.none (page ∙ none)) (λ n held. c.forget.ensures.some n (page ∙ held));
    }

pub returns-clause-bands : goal.returns-clause-bands
returns-clause-bands c =
    let s = c.args.self.now in
    let is : c.index-slot.result.now ≡ get_or s.slots.items c.args.w no_slot = slot_at s.slots.items c.args.w c.index-slot.result.now c.requires.there c.index-slot.ensures in
    let page = ap (λ (x : Slot). x.number) is in
    length-set c.forget.new.index.items c.args.b (Some c.args.w)
    ∙ (emptied s.slots.items s.index.items c.args.w c.requires.there s.windows.apart s.windows.found c.forget.new.index.items (λ n held. s.windows.within c.args.w n c.requires.there held)
    (λ none. c.forget.ensures.none (page ∙ none)) (λ n held. c.forget.ensures.some n (page ∙ held))).0
