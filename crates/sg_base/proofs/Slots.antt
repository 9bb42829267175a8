-- The list of a page's slots.
use Rattle.std.proofs.Common.{◌≡◌, ℕ, zero, suc, ◌+◌, ◌-◌, ◌*◌, ◌<◌, ◌≤◌, ◌==◌, false, List, [], ◌∷◌, ◌++◌, length, Some, None, refl, ap, ◌∙◌, arith, add-one, inl, inr}
use Rattle.std.proofs.lemmas.List.{length_push, get_or_push, get_or_append_left, get_or_past}
use Rattle.std.proofs.lemmas.Bool.{cases_lt}
use Rattle.std.proofs.lemmas.Bool.Decides.{nat_tests}
use Rattle.sg_base.specs.Page.{bytes_at, slot_at, slots_below, slots_of, cell_in, room_of, offset_at, length_at, count_of, start_of, lost_of, IsSlotted}

pub length-slots_below : (page : List ℕ) (n : ℕ) → length (slots_below page n) ≡ n
unfolding slots_below
length-slots_below page zero = refl
length-slots_below page (suc n) = length_push (slots_below page n) (slot_at page n) ∙ (ap (λ (m : ℕ). m + 1) (length-slots_below page n) ∙ add-one n)

pub slots_below-more : (page : List ℕ) (n : ℕ) → slots_below page (n + 1) ≡ slots_below page n ++ (slot_at page n ∷ [])
unfolding slots_below
slots_below-more page n = ap (slots_below page) (add-one n)

pub cell_in-slots_below : (page : List ℕ) (n i : ℕ) → i < n → cell_in (slots_below page n) i ≡ slot_at page i
unfolding slots_below
cell_in-slots_below page zero i h = absurd (omega arith)
cell_in-slots_below page (suc n) i h =
    let long : length (slots_below page n) ≡ n = length-slots_below page n in
    elim (cases_lt i n) [
      | inl b ↦ get_or_append_left (slots_below page n) (slot_at page n ∷ []) None i (omega arith) ∙ cell_in-slots_below page n i b
      | inr e ↦ let same : n ≡ i = omega arith in get_or_push (slots_below page n) (slot_at page n) None i (long ∙ same) ∙ ap (slot_at page) same
    ]

-- behind the last slot there is no cell
pub cell_in_past : (page : List ℕ) (n i : ℕ) → n ≤ i → cell_in (slots_below page n) i ≡ None
cell_in_past page n i h = let long = length-slots_below page n in get_or_past (slots_below page n) i None (omega (arith, long))

pub slot_at_empty : (page : List ℕ) (i : ℕ) → offset_at page i ≡ 0 → slot_at page i ≡ None
unfolding slot_at
slot_at_empty page i h = rw h refl

pub slot_at_full : (page : List ℕ) (i : ℕ) → 0 < offset_at page i → slot_at page i ≡ Some (bytes_at page (offset_at page i) (length_at page i))
unfolding slot_at
slot_at_full page i h = let e : (offset_at page i == 0) ≡ false = grind (arith, nat_tests, h) in rw e refl

-- the room by the fields alone
pub room_by_fields : (page : List ℕ) → IsSlotted page → start_of page - (24 + 4 * count_of page) + lost_of page ≡ room_of (slots_of page)
room_by_fields page h =
    let long : length (slots_of page) ≡ count_of page = length-slots_below page (count_of page) in
    let filled = h.filled in
    let directory = h.directory in
    omega arith
