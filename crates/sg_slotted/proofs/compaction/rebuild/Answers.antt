use Rattle.std.proofs.Common.{◌≡◌, ◌<◌, ◌+◌, ◌++◌, ◌∷◌, [], ℕ, List, Option, None, Some, length, set, subst, arith, sym, ap, ◌∙◌}
use Rattle.sg_base.specs.Page.{slots_of, cell_in, header_of, lost_of, IsSlotted}
use Rattle.sg_slotted.proofs.Room.{IsBegun, IsGrown, grow_room, fill_room, next_full, next_empty}
use Rattle.sg_slotted.proofs.Layouts.{further, begun}
use Rattle.sg_slotted.proofs.compaction.rebuild.Goals as goal
use Rattle.sg_slotted.proofs.compaction.rebuild.Goals.{in-Some, in_default}

pub grow-requires-clause-room : goal.grow-requires-clause-room
grow-requires-clause-room c =
    let other : List ℕ = c.args.view.now.page.now in
    let below : c.slots.s < length (slots_of other) = omega arith in
    grow_room c.slots.page other c.slots.s c.args.view.now.slotted c.slots.invariant.begun below

-- a new slot behind the first ones
grown : (page other new : List ℕ) (i : ℕ) → IsBegun page other i → IsSlotted new → slots_of new ≡ slots_of page ++ (None ∷ []) → lost_of new ≡ lost_of page → IsGrown new other i
grown page other new i h slotted slots lost = record { slotted = slotted; slots = slots ∙ ap (λ (xs : List (Option (List ℕ))). xs ++ (None ∷ [])) h.slots; lost = lost ∙ h.lost }

pub fill-requires-clause-room : goal.fill-requires-clause-room
fill-requires-clause-room c =
    let other : List ℕ = c.args.view.now.page.now in
    let below : c.slots.s < length (slots_of other) = omega arith in
    let e = c.grow.ensures in
    fill_room c.grow.new.page other c.slots.s c.in-Some.cell.now c.args.view.now.slotted (grown c.slots.page other c.grow.new.page c.slots.s c.slots.invariant.begun e.slotted e.slots e.lost) below c.in-Some.ensures

-- one slot further, with a cell and without
further_full : (page other new final : List ℕ) (i : ℕ) (cell : List ℕ) → IsGrown page other i → i < length (slots_of other) → Some cell ≡ cell_in (slots_of other) i → IsSlotted new → slots_of new ≡ set (slots_of page) i (Some cell) → lost_of new ≡ lost_of page → final ≡ new → IsBegun final other (i + 1)
further_full page other new final i cell h below is slotted slots lost e =
    let P : List ℕ → Type 0 = λ p. IsBegun p other (i + 1) in
    subst P (sym e) (record { slotted = slotted; slots = next_full page other i cell (slots_of new) h below is slots; lost = lost ∙ h.lost })

further_empty : (page other final : List ℕ) (i : ℕ) → IsGrown page other i → i < length (slots_of other) → None ≡ cell_in (slots_of other) i → final ≡ page → IsBegun final other (i + 1)
further_empty page other final i h below is e =
    let P : List ℕ → Type 0 = λ p. IsBegun p other (i + 1) in
    subst P (sym e) (record { slotted = h.slotted; slots = next_empty page other i h below is; lost = h.lost })

pub slots-preserved : goal.slots-preserved
slots-preserved c =
    let other : List ℕ = c.args.view.now.page.now in
    let below : c.slots.s < length (slots_of other) = omega arith in
    let e = c.grow.ensures in
    let g : IsGrown c.grow.new.page other c.slots.s = grown c.slots.page other c.grow.new.page c.slots.s c.slots.invariant.begun e.slotted e.slots e.lost in
    elim c.match-slot.branch [
      | in-Some w ↦ record {
        begun = further_full c.grow.new.page other w.fill.new.page c.match-slot.page c.slots.s w.in-Some.cell.now g below w.in-Some.ensures w.fill.ensures.slotted w.fill.ensures.slots w.fill.ensures.lost w.page-is;
        header = ap header_of w.page-is ∙ (w.fill.ensures.header ∙ (e.header ∙ c.slots.invariant.header));
        bytes = further _ c.slots.page c.grow.new.page c.match-slot.page (slots_of other) c.slots.s (Some w.in-Some.cell.now) c.slots.invariant.bytes e.bytes (w.page-is ∙ w.fill.ensures.bytes) w.in-Some.ensures;
      }
      | in_default w ↦ record {
        begun = further_empty c.grow.new.page other c.match-slot.page c.slots.s g below w.in_default.ensures w.page-is;
        header = ap header_of w.page-is ∙ (e.header ∙ c.slots.invariant.header);
        bytes = further _ c.slots.page c.grow.new.page c.match-slot.page (slots_of other) c.slots.s None c.slots.invariant.bytes e.bytes w.page-is w.in_default.ensures;
      }
    ]

pub slots-init : goal.slots-init
slots-init c = record {
  begun = record { slotted = c.reset.ensures.slotted; slots = c.reset.ensures.slots; lost = c.reset.ensures.lost };
  header = c.reset.ensures.header;
  bytes = begun _ c.reset.new.page (slots_of c.args.view.now.page.now) c.reset.ensures.bytes;
}
