use Rattle.std.proofs.Common.{◌≡◌, ℕ, List, [], length, get_or, set, refl, sym, ◌∙◌, ap, arith}
use Rattle.std.specs.List.{refill, length_refill}
use Rattle.std.specs.Prelude.{unwrap_or}
use Rattle.sg_pool.specs.declared.slot.Slot.{Slot}
use Rattle.sg_pool.proofs.Welling.{frame_well, well_of}
use Rattle.sg_pool.proofs.Slots.{slot_at, none_is_some}
use Rattle.sg_pool.proofs.Changing.{shelf_cleaned, shelf_frame}
use Rattle.sg_pool.proofs.Changes.{slots_not, slots_done}
use Rattle.sg_pool.proofs.shelf.Shelf.change.Goals as goal

pub returns-then-not-apply_page-clause-slots : goal.returns-then-not-apply_page-clause-slots
returns-then-not-apply_page-clause-slots g c =
    let s = c.args.self.now in
    slots_not _ _ c.args.lsn (get_or s.frames.pages c.args.f []) c.page_mut.result.now c.apply_page.result s.slots.items c.args.f c.page_mut.ensures.value c.apply_page.ensures.applied c.if-not-apply_page.true

pub invariant_of-self-2 : goal.invariant_of-self-2
invariant_of-self-2 g c =
    let s = c.args.self.now in
    let many = s.shelf.many in let there = c.requires.there in
    let here : length (get_or s.frames.pages c.args.f []) ≡ 4096 = s.shelf.here.pages c.args.f (omega (arith, many, there)) in
    let bytes : List ℕ = refill (length (get_or s.frames.pages c.args.f [])) (get_or s.frames.pages c.args.f []) c.apply_page.new.page in
    let long : length bytes ≡ 4096 = sym (length_refill (length (get_or s.frames.pages c.args.f [])) (get_or s.frames.pages c.args.f []) c.apply_page.new.page refl) ∙ here in
    let page = ap (λ (x : Slot). x.number) c.changed.ensures ∙ ap (λ (x : Slot). x.number) (slot_at s.slots.items c.args.f c.index-slot.result.now there c.index-slot.ensures) in
    let slot : Slot = c.changed.result in
    record {
      shelf = shelf_frame s.pages s.bands (set s.slots.items c.args.f slot) s.wins s.frames c.args.f bytes long
          (λ n less is. ∣ frame_well c.apply_page.result (get_or s.frames.pages c.args.f []) c.page_mut.result.now c.apply_page.new.page (well_of _ (s.shelf.well c.args.f c.requires.held.0 there c.requires.held.1)) c.page_mut.ensures.value c.apply_page.auto.page c.apply_page.ensures.slotted c.apply_page.ensures.same ∣₁)
          (shelf_cleaned s.pages s.bands s.slots.items s.wins s.frames s.shelf c.args.f there slot page (λ none. absurd (none_is_some c.requires.held.0 (sym none ∙ (page ∙ c.requires.held.1)))));
    }

pub returns-clause-slots : goal.returns-clause-slots
returns-clause-slots g c =
    let s = c.args.self.now in
    ap (λ (x : Slot). set s.slots.items c.args.f x) c.changed.ensures
    ∙ slots_done _ _ c.args.lsn (get_or s.frames.pages c.args.f []) c.page_mut.result.now c.apply_page.result s.slots.items c.args.f c.page_mut.ensures.value c.apply_page.ensures.applied c.if-not-apply_page.false
    c.index-slot.result.now (slot_at s.slots.items c.args.f c.index-slot.result.now c.requires.there c.index-slot.ensures) (unwrap_or c.index-slot.result.now.since c.args.lsn) refl

pub invariant_of-self : goal.invariant_of-self
invariant_of-self g c =
    let s = c.args.self.now in
    let many = s.shelf.many in let there = c.requires.there in
    let here : length (get_or s.frames.pages c.args.f []) ≡ 4096 = s.shelf.here.pages c.args.f (omega (arith, many, there)) in
    let bytes : List ℕ = refill (length (get_or s.frames.pages c.args.f [])) (get_or s.frames.pages c.args.f []) c.apply_page.new.page in
    let long : length bytes ≡ 4096 = sym (length_refill (length (get_or s.frames.pages c.args.f [])) (get_or s.frames.pages c.args.f []) c.apply_page.new.page refl) ∙ here in
    record {
      shelf = shelf_frame s.pages s.bands s.slots.items s.wins s.frames c.args.f bytes long
          (λ n less is. ∣ frame_well c.apply_page.result (get_or s.frames.pages c.args.f []) c.page_mut.result.now c.apply_page.new.page (well_of _ (s.shelf.well c.args.f c.requires.held.0 there c.requires.held.1)) c.page_mut.ensures.value c.apply_page.auto.page c.apply_page.ensures.slotted c.apply_page.ensures.same ∣₁)
          s.shelf;
    }
