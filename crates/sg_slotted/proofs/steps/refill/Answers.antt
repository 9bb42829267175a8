use Rattle.std.proofs.Common.{◌≡◌, ◌≤◌, ◌+◌, ◌*◌, ℕ, List, length, Some, arith, set, ap, ◌∙◌, subst}
use Rattle.sg_base.specs.Overwritten.{overwritten}
use Rattle.sg_base.specs.Page.{slots_of, count_of, offset_at, start_of, length_at, bytes_at, HasCell, IsWhole, IsSlotted}
use Rattle.sg_slotted.specs.Writes.{KeepsOutside}
use Rattle.sg_slotted.proofs.Changes.{IsChanged, has_cell, entry_within}
use Rattle.sg_slotted.proofs.InPlace.{refilled}
use Rattle.sg_slotted.proofs.steps.refill.Goals as goal

pub number_u16-offset-requires : goal.number_u16-offset-requires
number_u16-offset-requires c =
    let p0 : List ℕ = c.args.page.now in
    let within : 28 + 4 * c.args.slot ≤ length p0 = entry_within p0 c.args.slot c.requires.slotted (has_cell p0 c.args.slot c.requires.full).below in
    omega arith

pub put_bytes-requires : goal.put_bytes-requires
put_bytes-requires c =
    let p0 : List ℕ = c.args.page.now in
    let w : IsWhole p0 (start_of p0) c.args.slot = c.requires.slotted.cells.whole c.args.slot (has_cell p0 c.args.slot c.requires.full) in
    let size = c.requires.slotted.size in
    let offset : c.number_u16-offset.result ≡ offset_at p0 c.args.slot = c.number_u16-offset.ensures in
    omega arith

-- where the number that was read is the offset
at_offset : (p0 p1 cell : List ℕ) (s at : ℕ) → at ≡ offset_at p0 s → IsSlotted p0 → HasCell p0 (count_of p0) s → length cell ≡ length_at p0 s → p1 ≡ overwritten p0 at cell → bytes_at p1 at (length cell) ≡ cell → KeepsOutside p0 p1 at (at + length cell) → IsChanged p0 p1 (set (slots_of p0) s (Some cell))
at_offset p0 p1 cell s at e slotted has size bytes written others =
    refilled p0 p1 s cell slotted has size (bytes ∙ ap (λ (n : ℕ). overwritten p0 n cell) e) (subst (λ (n : ℕ). bytes_at p1 n (length cell) ≡ cell) e written) (subst (λ (n : ℕ). KeepsOutside p0 p1 n (n + length cell)) e others)

pub returns : goal.returns
returns c =
    let p0 : List ℕ = c.args.page.now in
    let put = c.put_bytes.ensures in
    let all : IsChanged p0 c.put_bytes.new.page (set (slots_of p0) c.args.slot (Some c.args.bytes.now)) =
    at_offset p0 c.put_bytes.new.page c.args.bytes.now c.args.slot c.number_u16-offset.result c.number_u16-offset.ensures c.requires.slotted (has_cell p0 c.args.slot c.requires.full) c.requires.size put.bytes put.written put.others in
    record { slotted = all.slotted; slots = all.slots; header = all.header; bytes = put.bytes ∙ ap (λ (n : ℕ). overwritten p0 n c.args.bytes.now) c.number_u16-offset.ensures }
