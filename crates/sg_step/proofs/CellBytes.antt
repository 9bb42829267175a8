-- The cells of a page of bytes.
use Rattle.std.proofs.Common.{◌≡◌, ℕ, ◌+◌, ◌<◌, ◌≤◌, List, length, take, drop, Option, IfSome, sym, ◌∙◌, subst, arith, inl, inr}
use Rattle.std.proofs.lemmas.Bool.{cases_lt}
use Rattle.std.proofs.lemmas.List.{length-take, length-drop, get_or-take, get_or-drop}
use Rattle.sg_base.specs.Bytes.{IsBytes}
use Rattle.sg_base.specs.Page.{bytes_at, slot_at, offset_at, length_at, count_of}
use Rattle.sg_base.specs.Sheet.{HasBytes, sheet_of}
use Rattle.sg_base.proofs.Slots.{cell_in-slots_below, cell_in_past, slot_at_empty, slot_at_full}

-- a part of bytes is bytes
part_bytes : (page : List ℕ) (at size : ℕ) → IsBytes page → IsBytes (bytes_at page at size)
unfolding bytes_at
part_bytes page at size h k d below =
    let a : length (take size (drop at page)) ≤ length (drop at page) = omega (arith, length-take size (drop at page)) in
    let b : k < size = omega (arith, length-take size (drop at page)) in
    let c : at + k < length page = omega (arith, length-drop at page) in
    subst (λ (x : ℕ). x < 256) (sym (get_or-take size (drop at page) k d b ∙ get_or-drop at page k d)) (h (at + k) d c)

-- the cells of a page of bytes are bytes
pub has_bytes : (page : List ℕ) → IsBytes page → HasBytes (sheet_of page)
has_bytes page h slot = elim (cases_lt slot (count_of page)) [
  | inl below ↦ subst (λ (o : Option (List ℕ)). IfSome o IsBytes) (sym (cell_in-slots_below page (count_of page) slot below)) (by_offset)
  | inr past ↦ subst (λ (o : Option (List ℕ)). IfSome o IsBytes) (sym (cell_in_past page (count_of page) slot past)) tt
]
  where
    by_offset : IfSome (slot_at page slot) IsBytes
    by_offset = elim (cases_lt 0 (offset_at page slot)) [
      | inl full ↦ subst (λ (o : Option (List ℕ)). IfSome o IsBytes) (sym (slot_at_full page slot full)) (part_bytes page (offset_at page slot) (length_at page slot) h)
      | inr none ↦ let zero_off : offset_at page slot ≡ 0 = omega arith in subst (λ (o : Option (List ℕ)). IfSome o IsBytes) (sym (slot_at_empty page slot zero_off)) tt
    ]
