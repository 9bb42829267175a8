use Rattle.std.proofs.Common.{◌≡◌, List, [], length, get_or, set, sym, ◌∙◌, ap, subst, arith}
use Rattle.sg_frames.specs.Held.{Held}
use Rattle.sg_ops.specs.Table.{Table, table_of}
use Rattle.sg_redo.specs.History.{repeated}
use Rattle.sg_redo.specs.Places.{page_records}
use Rattle.sg_pool.specs.declared.slot.Slot.{Slot}
use Rattle.sg_pool.specs.Frames.{IsShelf}
use Rattle.sg_pool.proofs.Welling.{repeated_well, well_of}
use Rattle.sg_pool.proofs.Slots.{slot_at, none_is_some}
use Rattle.sg_pool.proofs.Changing.{shelf_cleaned, shelf_frame, frame_long_after}
use Rattle.sg_pool.proofs.shelf.Shelf.repeat_page.Goals as goal

pub invariant_of-self : goal.invariant_of-self
invariant_of-self g c =
    let s = c.args.self.now in
    let many = s.shelf.many in let there = c.requires.there in
    let t : Table = table_of (λ p. (goal.RecordOp-dyn g p).record_meaning p.1) (λ p. (goal.RangeOp-dyn g p).range_meaning p.1) c.args.ops.now in
    let bytes : List _ = repeated (page_records t c.args.text.now c.args.places.now) (get_or s.frames.pages c.args.f []) in
    let long : length bytes ≡ 4096 = frame_long_after s.frames c.repeat_frame-since.new.frames c.args.f bytes (omega (arith, many, there)) c.repeat_frame-since.ensures.frames c.repeat_frame-since.ensures.here in
    let page = ap (λ (x : Slot). x.number) (slot_at s.slots.items c.args.f c.index-slot.result.now there c.index-slot.ensures) in
    let slot : Slot = record { number = c.index-slot.result.now.number; since = c.repeat_frame-since.result } in
    record {
      shelf = subst (λ (h : Held). IsShelf s.pages s.bands (set s.slots.items c.args.f slot) s.index.items s.wins h) (sym c.repeat_frame-since.ensures.frames)
          (shelf_frame s.pages s.bands (set s.slots.items c.args.f slot) s.wins s.frames c.args.f bytes long (λ n less is. ∣ repeated_well (get_or s.frames.pages c.args.f []) bytes (well_of _ (s.shelf.well c.args.f c.requires.held.0 there c.requires.held.1)) c.repeat_frame-since.ensures.well ∣₁)
          (shelf_cleaned s.pages s.bands s.slots.items s.wins s.frames s.shelf c.args.f there slot page (λ none. absurd (none_is_some c.requires.held.0 (sym none ∙ (page ∙ c.requires.held.1))))));
    }
