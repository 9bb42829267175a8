-- Cells that name pages or bands, and how many bytes such cells have.
use Rattle.std.proofs.Common.{◌≡◌, ℕ, suc, ◌+◌, ◌*◌, ◌<◌, ◌≤◌, ◌^◌, List, [], ◌∷◌, ◌++◌, length, Option, Some, None, refl, sym, ap, ◌∙◌, arith, slice_get, get_or}
use Rattle.std.proofs.lemmas.List.Sums.{sum_by-cons}
use Rattle.std.proofs.lemmas.Option.{slice_get-get_or}
use Rattle.byteorder.specs.Endian.{little_bytes, little_number}
use Rattle.byteorder.specs.Numbers.{little_number-reads_back}
use Rattle.sg_base.specs.Page.{cell_in, cell_size, stored}
use Rattle.sg_base.specs.Slots.{Slots}
use Rattle.sg_space.specs.Links.{link_cell}
use Rattle.sg_space.proofs.Known.{same_some}

-- the number of 4 bytes that was read is the one that was written
pub number_is : (m n : ℕ) → m < 2 ^ 32 → n < 2 ^ 32 → little_bytes 4 m ≡ little_bytes 4 n → m ≡ n
number_is m n hm hn e =
    let a = little_number-reads_back 4 m [] hm in
    let b = little_number-reads_back 4 n [] hn in
    sym a ∙ (ap (λ (xs : List ℕ). little_number 4 (xs ++ [])) e ∙ b)

pub link_is : (o : Option ℕ) (n : ℕ) → ((p : ℕ) → o ≡ Some p → p < 2 ^ 32) → n < 2 ^ 32 → link_cell o ≡ Some (little_bytes 4 n) → o ≡ Some n
link_is None n fit hn e = cc
link_is (Some p) n fit hn e = ap Some (number_is p n (fit p refl) hn (same_some _ _ e))

pub there : (ps : List ℕ) (i : ℕ) → i < length ps → slice_get ps i ≡ Some (get_or ps i 0)
there ps i h = slice_get-get_or ps i 0 h

pub link_size : (o : Option ℕ) → cell_size (link_cell o) ≤ 4
link_size None = omega arith
link_size (Some x) = omega arith

pub stored_most : (slots : Slots) (size : ℕ) → ((m : ℕ) → cell_size (cell_in slots m) ≤ size) → stored slots ≤ size * length slots
stored_most [] size h = omega arith
stored_most (x ∷ xs) size h =
    let first : cell_size x ≤ size = h 0 in
    let rest : stored xs ≤ size * length xs = stored_most xs size (λ m. h (suc m)) in
    let sum : stored (x ∷ xs) ≡ cell_size x + stored xs = sum_by-cons cell_size x xs in
    let more : size * suc (length xs) ≡ size * length xs + size = omega arith in
    rw sum (rw more (omega arith))
