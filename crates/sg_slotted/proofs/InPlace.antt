-- A cell of as many bytes in the place of a slot's: each cell stands where it stood.
use Rattle.std.proofs.Common.{◌≡◌, ◌≢◌, ℕ, ◌+◌, ◌*◌, ◌<◌, ◌≤◌, List, length, get_or, set, Some, None, refl, sym, ap, ◌∙◌, subst, arith, ◌⊎◌, inl, inr}
use Rattle.std.proofs.lemmas.Bool.{cases_lt, cases_eq}
use Rattle.std.proofs.lemmas.List.{ext_get_or, length-set, get_or-set_same, get_or-set_other}
use Rattle.std.proofs.lemmas.List.Sums.{sum_by-set}
use Rattle.sg_base.specs.Overwritten.{overwritten}
use Rattle.sg_base.specs.Page.{bytes_at, number_at, count_of, start_of, lost_of, directory_end, offset_at, length_at, slot_at, slots_of, cell_in, cell_size, stored, header_of, HasCell, IsInCell, IsWhole, IsSlotted}
use Rattle.sg_base.proofs.Overwriting.{overwritten_none}
use Rattle.sg_base.proofs.Slots.{length-slots_below, cell_in-slots_below, slot_at_empty, slot_at_full}
use Rattle.sg_slotted.specs.Writes.{KeepsOutside}
use Rattle.sg_slotted.proofs.Outside.{same_number, same_byte}
use Rattle.sg_slotted.proofs.Kept.{same_header}
use Rattle.sg_slotted.proofs.Step.{no_bytes}
use Rattle.sg_slotted.proofs.Changes.{IsChanged, size_is}

-- all but one slot's cell is as it was
record Leaves (old new : List ℕ) (s : ℕ) : Type 0 where
  pub size : length new ≡ length old
  pub unused : get_or new 9 0 ≡ get_or old 9 0
  pub header : header_of new ≡ header_of old
  pub counts : (a : ℕ) → 10 ≤ a → a + 2 ≤ 16 → number_at new a 2 ≡ number_at old a 2
  pub entries : (a : ℕ) → 24 ≤ a → a + 2 ≤ directory_end old → number_at new a 2 ≡ number_at old a 2
  pub cells : (i : ℕ) → i < count_of old → i ≢ s → 0 < offset_at old i → bytes_at new (offset_at old i) (length_at old i) ≡ bytes_at old (offset_at old i) (length_at old i)

-- two cells that share no byte lie one before the other
before_or_behind : (page : List ℕ) (s i : ℕ) → IsSlotted page → HasCell page (count_of page) s → HasCell page (count_of page) i → i ≢ s → 0 < length_at page s → 0 < length_at page i
    → (offset_at page i + length_at page i ≤ offset_at page s) ⊎ (offset_at page s + length_at page s ≤ offset_at page i)
before_or_behind page s i g hs hi ne some more =
    elim (cases_lt (offset_at page s) (offset_at page i + length_at page i)) [
      | inl over ↦ elim (cases_lt (offset_at page i) (offset_at page s + length_at page s)) [
        | inl under ↦ elim (cases_lt (offset_at page s) (offset_at page i)) [
          | inl first ↦ absurd (g.cells.apart i s (offset_at page i) hi hs ne (record { from = omega arith; to = omega arith }) (record { from = omega arith; to = omega arith }))
          | inr later ↦ absurd (g.cells.apart i s (offset_at page s) hi hs ne (record { from = omega arith; to = omega arith }) (record { from = omega arith; to = omega arith }))
        ]
        | inr behind ↦ inr behind
      ]
      | inr before ↦ inl before
    ]

leaves_some : (old new : List ℕ) (s size : ℕ) → IsSlotted old → HasCell old (count_of old) s → size ≡ length_at old s → 0 < size → KeepsOutside old new (offset_at old s) (offset_at old s + size) → Leaves old new s
leaves_some old new s size g has is some k =
    let w : IsWhole old (start_of old) s = g.cells.whole s has in
    let from : start_of old ≤ offset_at old s = w.from (omega arith) in
    let directory : 24 + 4 * count_of old ≤ start_of old = g.directory in
    let to : ℕ = offset_at old s + size in
    let number : (a n : ℕ) → a + n ≤ 24 → number_at new a n ≡ number_at old a n = λ a n within. same_number old new (offset_at old s) to a n k (inl (omega arith)) in
    record {
      size = k.size;
      unused = same_byte old new (offset_at old s) to 9 k (inl (omega arith));
      header = same_header old new (same_byte old new (offset_at old s) to 8 k (inl (omega arith))) (number 0 8 (omega arith)) (number 16 4 (omega arith)) (number 20 4 (omega arith));
      counts = λ a low high. number a 2 (omega arith);
      entries = λ a low high. same_number old new (offset_at old s) to a 2 k (inl (omega arith));
      cells = λ i below ne full. elim (cases_lt 0 (length_at old i)) [
        | inl more ↦ elim (before_or_behind old s i g has (record { below = below; full = full }) ne (omega arith) more)
            [ inl before ↦ k.same (offset_at old i) (length_at old i) (inl before) | inr behind ↦ k.same (offset_at old i) (length_at old i) (inr (omega arith)) ]
        | inr none ↦ no_bytes old new (offset_at old i) (length_at old i) (omega arith)
      ];
    }

leaves_none : (old new : List ℕ) (s : ℕ) → new ≡ old → Leaves old new s
leaves_none old new s e =
    let P : List ℕ → Type 0 = λ p. Leaves old p s in
    subst P (sym e) (record { size = refl; unused = refl; header = refl; counts = λ a low high. refl; entries = λ a low high. refl; cells = λ i below ne full. refl })

-- what the entries say of each slot
offset_kept : (old new : List ℕ) (s i : ℕ) → Leaves old new s → i < count_of old → offset_at new i ≡ offset_at old i
offset_kept old new s i h below = h.entries (24 + 4 * i) (omega arith) (omega arith)

length_kept : (old new : List ℕ) (s i : ℕ) → Leaves old new s → i < count_of old → length_at new i ≡ length_at old i
length_kept old new s i h below = h.entries (26 + 4 * i) (omega arith) (omega arith)

slot_kept : (old new : List ℕ) (s i : ℕ) → Leaves old new s → i < count_of old → i ≢ s → slot_at new i ≡ slot_at old i
slot_kept old new s i h below ne =
    let o : offset_at new i ≡ offset_at old i = offset_kept old new s i h below in
    let l : length_at new i ≡ length_at old i = length_kept old new s i h below in
    elim (cases_lt 0 (offset_at old i)) [
      | inl full ↦ slot_at_full new i (omega arith) ∙ (ap (λ (a : ℕ). Some (bytes_at new a (length_at new i))) o ∙ (ap (λ (n : ℕ). Some (bytes_at new (offset_at old i) n)) l ∙ (ap (λ (xs : List ℕ). Some xs) (h.cells i below ne full) ∙ sym (slot_at_full old i full))))
      | inr empty ↦ slot_at_empty new i (omega arith) ∙ sym (slot_at_empty old i (omega arith))
    ]

slots_but : (old new : List ℕ) (s : ℕ) → Leaves old new s → s < count_of old → slots_of new ≡ set (slots_of old) s (slot_at new s)
slots_but old new s h here =
    let count : count_of new ≡ count_of old = h.counts 10 (omega arith) (omega arith) in
    let n : length (slots_of new) ≡ count_of new = length-slots_below new (count_of new) in
    let m : length (slots_of old) ≡ count_of old = length-slots_below old (count_of old) in
    ext_get_or None (slots_of new) (set (slots_of old) s (slot_at new s)) (n ∙ (count ∙ (sym m ∙ sym (length-set (slots_of old) s (slot_at new s)))))
    (λ i below. let b : i < count_of old = omega arith in
    cell_in-slots_below new (count_of new) i (omega arith) ∙ (elim (cases_eq i s) [
      | inl e ↦ ap (slot_at new) e ∙ (sym (get_or-set_same (slots_of old) s (slot_at new s) None (omega arith)) ∙ ap (λ (k : ℕ). get_or (set (slots_of old) s (slot_at new s)) k None) (sym e))
      | inr ne ↦ slot_kept old new s i h b ne ∙ (sym (cell_in-slots_below old (count_of old) i b) ∙ sym (get_or-set_other (slots_of old) s i (slot_at new s) None ne))
    ]))

has_kept : (old new : List ℕ) (s i : ℕ) → Leaves old new s → HasCell new (count_of new) i → HasCell old (count_of old) i
has_kept old new s i h has =
    let count : count_of new ≡ count_of old = h.counts 10 (omega arith) (omega arith) in
    let below = has.below in
    let full = has.full in
    let o : offset_at new i ≡ offset_at old i = offset_kept old new s i h (omega arith) in
    record { below = omega arith; full = omega arith }

in_kept : (old new : List ℕ) (s i place : ℕ) → Leaves old new s → i < count_of old → IsInCell new i place → IsInCell old i place
in_kept old new s i place h below is_in =
    let o : offset_at new i ≡ offset_at old i = offset_kept old new s i h below in
    let l : length_at new i ≡ length_at old i = length_kept old new s i h below in
    record { from = omega arith; to = omega arith }

slotted_but : (old new : List ℕ) (s : ℕ) → IsSlotted old → Leaves old new s → stored (slots_of new) ≡ stored (slots_of old) → IsSlotted new
slotted_but old new s g h sums =
    let count : count_of new ≡ count_of old = h.counts 10 (omega arith) (omega arith) in
    let start : start_of new ≡ start_of old = h.counts 12 (omega arith) (omega arith) in
    let lost : lost_of new ≡ lost_of old = h.counts 14 (omega arith) (omega arith) in
    let directory : 24 + 4 * count_of old ≤ start_of old = g.directory in
    let filled = g.filled in
    record {
      size = h.size ∙ g.size;
      unused = h.unused ∙ g.unused;
      directory = omega arith;
      cells = record {
        whole = λ i has.
            (let was = has_kept old new s i h has in
            let o : offset_at new i ≡ offset_at old i = offset_kept old new s i h was.below in
            let l : length_at new i ≡ length_at old i = length_kept old new s i h was.below in
            let w : IsWhole old (start_of old) i = g.cells.whole i was in
            record { behind_fields = omega arith; from = λ some. (let f : start_of old ≤ offset_at old i = w.from (omega arith) in omega arith); to = omega arith });
        apart = λ i j place hi hj ne in_i in_j.
            (let a = has_kept old new s i h hi in let b = has_kept old new s j h hj in
            g.cells.apart i j place a b ne (in_kept old new s i place h a.below in_i) (in_kept old new s j place h b.below in_j));
      };
      filled = omega arith;
    }

-- the page afterwards
pub refilled : (old new : List ℕ) (s : ℕ) (cell : List ℕ) → IsSlotted old → HasCell old (count_of old) s → length cell ≡ length_at old s → new ≡ overwritten old (offset_at old s) cell
    → bytes_at new (offset_at old s) (length cell) ≡ cell → KeepsOutside old new (offset_at old s) (offset_at old s + length cell) → IsChanged old new (set (slots_of old) s (Some cell))
refilled old new s cell g has same e written k =
    let h : Leaves old new s = elim (cases_lt 0 (length cell))
    [ inl some ↦ leaves_some old new s (length cell) g has same some k | inr none ↦ leaves_none old new s (e ∙ overwritten_none old (offset_at old s) cell (omega arith)) ] in
    let below = has.below in
    let full = has.full in
    let o : offset_at new s ≡ offset_at old s = offset_kept old new s s h below in
    let l : length_at new s ≡ length cell = length_kept old new s s h below ∙ sym same in
    let here : slot_at new s ≡ Some cell = slot_at_full new s (omega arith) ∙ (ap (λ (a : ℕ). Some (bytes_at new a (length_at new s))) o ∙ (ap (λ (n : ℕ). Some (bytes_at new (offset_at old s) n)) l ∙ ap (λ (xs : List ℕ). Some xs) written)) in
    let changed : slots_of new ≡ set (slots_of old) s (Some cell) = slots_but old new s h below ∙ ap (set (slots_of old) s) here in
    let long : length (slots_of old) ≡ count_of old = length-slots_below old (count_of old) in
    let sums : stored (set (slots_of old) s (Some cell)) + cell_size (cell_in (slots_of old) s) ≡ stored (slots_of old) + length cell = sum_by-set cell_size (slots_of old) s (Some cell) None (omega arith) in
    let size : cell_size (cell_in (slots_of old) s) ≡ length_at old s = size_is old s g has in
    let same_sum : stored (slots_of new) ≡ stored (slots_of old) = ap stored changed ∙ omega arith in
    record { slotted = slotted_but old new s g h same_sum; slots = changed; header = h.header }
