-- The cells of a page of bytes are bytes.
use Rattle.std.proofs.Common.{◌≡◌, ℕ, ◌+◌, ◌<◌, ◌≤◌, List, length, take, drop, Option, IfSome, sym, ◌∙◌, subst, arith, inl, inr}
use Rattle.std.proofs.lemmas.Bool.{cases_lt}
use Rattle.std.proofs.lemmas.List.{length-take, length-drop, get_or-take, get_or-drop}
use Rattle.sg_base.specs.Bytes.{IsBytes}
use Rattle.sg_base.specs.Page.{bytes_at, slot_at, offset_at, length_at, count_of}
use Rattle.sg_base.specs.Sheet.{sheet_of, HasBytes}
use Rattle.sg_base.proofs.Slots.{cell_in-slots_below, cell_in_past, slot_at_empty, slot_at_full}

part_bytes : (page : List ℕ) (at size : ℕ) → IsBytes page → IsBytes (bytes_at page at size)
unfolding bytes_at
part_bytes page at size h k d below =
    let a : length (take size (drop at page)) ≤ length (drop at page) = omega (arith, length-take size (drop at page)) in
    let b : k < size = omega (arith, length-take size (drop at page)) in
    let c : at + k < length page = omega (arith, length-drop at page) in
    subst (λ (x : ℕ). x < 256) (sym (get_or-take size (drop at page) k d b ∙ get_or-drop at page k d)) (h (at + k) d c)

slot_bytes : (page : List ℕ) (slot : ℕ) → IsBytes page → IfSome (slot_at page slot) IsBytes
slot_bytes page slot h = elim (cases_lt 0 (offset_at page slot)) [
  | inl full ↦ subst (λ (o : Option (List ℕ)). IfSome o IsBytes) (sym (slot_at_full page slot full)) (part_bytes page (offset_at page slot) (length_at page slot) h)
  | inr none ↦ let empty : offset_at page slot ≡ 0 = omega arith in subst (λ (o : Option (List ℕ)). IfSome o IsBytes) (sym (slot_at_empty page slot empty)) tt
]

pub has_bytes : (page : List ℕ) → IsBytes page → HasBytes (sheet_of page)
has_bytes page h slot = elim (cases_lt slot (count_of page)) [
  | inl below ↦ subst (λ (o : Option (List ℕ)). IfSome o IsBytes) (sym (cell_in-slots_below page (count_of page) slot below)) (slot_bytes page slot h)
  | inr past ↦ subst (λ (o : Option (List ℕ)). IfSome o IsBytes) (sym (cell_in_past page (count_of page) slot past)) tt
]
