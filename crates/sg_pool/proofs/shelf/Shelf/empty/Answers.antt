use Rattle.std.proofs.Common.{◌≡◌, get_or, sym, ◌∙◌, ap, arith}
use Rattle.sg_pool.specs.declared.slot.Slot.{Slot}
use Rattle.sg_pool.specs.Held.{no_slot}
use Rattle.sg_pool.proofs.Slots.{slot_at}
use Rattle.sg_pool.proofs.Indexing.{shelf_emptied}
use Rattle.sg_pool.proofs.shelf.Shelf.empty.Goals as goal

pub forget-requires : goal.forget-requires
forget-requires c =
    let s = c.args.self.now in
    let is : c.index-slot.result.now ≡ get_or s.slots.items c.args.f no_slot = slot_at s.slots.items c.args.f c.index-slot.result.now c.requires.there c.index-slot.ensures in
    record { listed = λ n held. let low = s.shelf.within c.args.f n c.requires.there (sym (ap (λ (x : Slot). x.number) is) ∙ held) in let e = s.shelf.listed in omega (arith, low, e) }

pub invariant_of-self : goal.invariant_of-self
invariant_of-self c =
    let s = c.args.self.now in
    let is : c.index-slot.result.now ≡ get_or s.slots.items c.args.f no_slot = slot_at s.slots.items c.args.f c.index-slot.result.now c.requires.there c.index-slot.ensures in
    let page = ap (λ (x : Slot). x.number) is in
    record {
      shelf = shelf_emptied s.pages s.bands s.slots.items s.index.items s.wins s.frames s.shelf c.args.f c.requires.there c.forget.new.index.items
          (λ none. c.forget.ensures.none (page ∙ none)) (λ n held. c.forget.ensures.some n (page ∙ held));
    }
