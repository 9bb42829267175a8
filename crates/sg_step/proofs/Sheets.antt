-- What a page says once the cell of a slot was changed, and that it can be.
use Rattle.std.specs.Prelude.{IsSomeAnd, slice_set}
use Rattle.std.proofs.Common.{◌≡◌, ℕ, List, length, Option, Some, None, ap, sym, refl, ◌∙◌}
use Rattle.sg_base.specs.Page.{Header, IsSlotted, header_of, slots_of, cell_in}
use Rattle.sg_base.specs.Sheet.{sheet_of}
use Rattle.sg_base.specs.Slots.{set_in}
use Rattle.sg_ops.specs.Steps.{change_in, with_slots}
use Rattle.sg_slotted.proofs.Refusals.{same_size_fits}

pub changed_sheet : (old new : List ℕ) (slot : ℕ) (change : List ℕ → Option (List ℕ)) → header_of new ≡ header_of old → change_in (slots_of old) slot change ≡ Some (slots_of new) → with_slots (sheet_of old) (change_in (slots_of old) slot change) ≡ Some (sheet_of new)
changed_sheet old new slot change header e = ap (with_slots (sheet_of old)) e ∙ ap (λ (h : Header). Some (record { kind = h.kind; links = h.links; slots = slots_of new })) (sym header)

pub same_sheet : (old : List ℕ) (slot : ℕ) (change : List ℕ → Option (List ℕ)) → change_in (slots_of old) slot change ≡ None → with_slots (sheet_of old) (change_in (slots_of old) slot change) ≡ None
same_sheet old slot change e = ap (with_slots (sheet_of old)) e

-- a cell of as many bytes as a full slot's is set, and never refused
pub set_again : (page : List ℕ) (slot : ℕ) (cell : List ℕ) → IsSlotted page → IsSomeAnd (cell_in (slots_of page) slot) (λ old. length cell ≡ length old) → set_in (slots_of page) slot cell ≡ Some (slice_set (slots_of page) slot (Some cell))
set_again page slot cell g h = by (cell_in (slots_of page) slot) refl h
  where
    by : (o : Option (List ℕ)) → o ≡ cell_in (slots_of page) slot → IsSomeAnd o (λ old. length cell ≡ length old) → set_in (slots_of page) slot cell ≡ Some (slice_set (slots_of page) slot (Some cell))
    by None e long = absurd long
    by (Some old) e long = same_size_fits page slot old cell g e long
