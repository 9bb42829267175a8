-- The root's page.
use Rattle.std.proofs.Common.{◌≡◌, ℕ, ◌<◌, ◌≤◌, ◌^◌, List, [], ◌++◌, length, drop, Option, Some, subst, inl, inr, refl, sym, ap, ◌∙◌, arith}
use Rattle.byteorder.specs.Endian.{little_bytes, little_number}
use Rattle.byteorder.specs.Numbers.{little_number-reads_back}
use Rattle.sg_base.specs.Page.{cell_in}
use Rattle.sg_base.specs.Op.Op.{Set}
use Rattle.sg_base.specs.Sheet.{Sheet}
use Rattle.sg_ops.specs.Steps.{step}
use Rattle.sg_ops.specs.Table.{Table}
use Rattle.std.proofs.lemmas.Bool.{cases_lt}
use Rattle.sg_linear.specs.Extent.{shape_of}
use Rattle.sg_linear.specs.declared.extent.Extent.{Extent}
use Rattle.std.proofs.Math.Pow.{pow_mono}
use Rattle.sg_linear.proofs.Growing.{low_fits}
use Rattle.sg_space.specs.Pages.{IsPossible}
use Rattle.sg_space.specs.Reads.{HasCell, HasSized}
use Rattle.sg_space.proofs.Known.{same_some}
use Rattle.sg_space.specs.Units.{HasAt}
use Rattle.sg_space.specs.View.{View}
use Rattle.sg_space.proofs.Changing.{set_possible}
use Rattle.sg_space.proofs.Putting.{set_step}
use Rattle.sg_hash.specs.Table.{Numbers, IsInRange, root_cell, root_sheet}

-- another cell of 25 bytes in the root
pub root_step : (t : Table) (n : Numbers) (cell : List ℕ) (directory : ℕ) → length cell ≡ 25 → step t (Set 0 cell) (root_sheet (root_cell n) directory) ≡ Some (root_sheet cell directory)
root_step t n cell directory long = set_step t (root_sheet (root_cell n) directory) 0 (root_cell n) cell refl (omega arith)

pub root_possible : (t : Table) (v : View) {root directory : ℕ} (n : Numbers) (cell : List ℕ) → v.space.pages.at root ≡ Some (root_sheet (root_cell n) directory) → length cell ≡ 25 → HasAt v.space.pages.at root (IsPossible t v root (Set 0 cell))
root_possible t v {root} {directory} n cell is long = record { what = root_sheet (root_cell n) directory; is = is; has = set_possible t v root 0 cell (root_step t n cell directory long) }

-- what is read of the root
pub root_sized : {at : ℕ → Option Sheet} {root directory : ℕ} (n : Numbers) → at root ≡ Some (root_sheet (root_cell n) directory) → HasAt at root (HasSized 5 0 25)
root_sized n is = record { what = _; is = is; has = record { kind_is = refl; cell = _; is = refl; size_is = refl } }

pub root_read : {at : ℕ → Option Sheet} {root directory : ℕ} {cell : List ℕ} (n : Numbers) → at root ≡ Some (root_sheet (root_cell n) directory) → HasAt at root (HasCell 5 0 cell) → cell ≡ root_cell n
root_read {root = root} {directory = directory} {cell = cell} n is read =
    let same : read.what ≡ root_sheet (root_cell n) directory = same_some _ _ (sym read.is ∙ is) in
    let there : cell_in (root_sheet (root_cell n) directory).slots 0 ≡ Some cell = subst (λ (s : Sheet). cell_in s.slots 0 ≡ Some cell) same read.has.is in
    sym (same_some _ _ there)

-- numbers that are spelled alike are the same
pub same_numbers : (m n : Numbers) → IsInRange m → IsInRange n → root_cell m ≡ root_cell n → m ≡ n
same_numbers m n h k e = λ i. record { shape = record { level = level i; split = split i }; entries = entries i; bytes = bytes i; peak = peak i }
  where
    small : (x : Numbers) → IsInRange x → x.shape.split < 2 ^ 32
    small x r = let pow : 2 ^ x.shape.level ≤ 1048576 = low_fits x.shape.level r.level in let within = r.split in omega arith

    low : (x : Numbers) → IsInRange x → x.shape.level < 2 ^ 8
    low x r = let l = r.level in omega arith

    level_of : (x : Numbers) → IsInRange x → little_number 1 (root_cell x) ≡ x.shape.level
    level_of x r = little_number-reads_back 1 x.shape.level (little_bytes 4 x.shape.split ++ (little_bytes 4 x.entries ++ (little_bytes 8 x.bytes ++ little_bytes 8 x.peak))) (low x r)

    split_of : (x : Numbers) → IsInRange x → little_number 4 (drop 1 (root_cell x)) ≡ x.shape.split
    split_of x r = little_number-reads_back 4 x.shape.split (little_bytes 4 x.entries ++ (little_bytes 8 x.bytes ++ little_bytes 8 x.peak)) (small x r)

    entries_of : (x : Numbers) → IsInRange x → little_number 4 (drop 5 (root_cell x)) ≡ x.entries
    entries_of x r = little_number-reads_back 4 x.entries (little_bytes 8 x.bytes ++ little_bytes 8 x.peak) r.entries

    bytes_of : (x : Numbers) → IsInRange x → little_number 8 (drop 9 (root_cell x)) ≡ x.bytes
    bytes_of x r = little_number-reads_back 8 x.bytes (little_bytes 8 x.peak) r.bytes

    peak_of : (x : Numbers) → IsInRange x → little_number 8 (drop 17 (root_cell x)) ≡ x.peak
    peak_of x r = little_number-reads_back 8 x.peak [] r.peak

    level : m.shape.level ≡ n.shape.level
    level = sym (level_of m h) ∙ (ap (λ (xs : List ℕ). little_number 1 xs) e ∙ level_of n k)

    split : m.shape.split ≡ n.shape.split
    split = sym (split_of m h) ∙ (ap (λ (xs : List ℕ). little_number 4 (drop 1 xs)) e ∙ split_of n k)

    entries : m.entries ≡ n.entries
    entries = sym (entries_of m h) ∙ (ap (λ (xs : List ℕ). little_number 4 (drop 5 xs)) e ∙ entries_of n k)

    bytes : m.bytes ≡ n.bytes
    bytes = sym (bytes_of m h) ∙ (ap (λ (xs : List ℕ). little_number 8 (drop 9 xs)) e ∙ bytes_of n k)

    peak : m.peak ≡ n.peak
    peak = sym (peak_of m h) ∙ (ap (λ (xs : List ℕ). little_number 8 (drop 17 xs)) e ∙ peak_of n k)

-- the numbers of an extent are in their ranges
level_small : (k : ℕ) → 2 ^ k ≤ 1048576 → k ≤ 20
level_small k h = elim (cases_lt 20 k) as (λ _. k ≤ 20) [
  | inl more ↦ absurd (let large : 2 ^ 21 ≤ 2 ^ k = pow_mono {i = 21} {j = k} (omega arith) in omega arith)
  | inr few ↦ few
]

pub numbers_range : (e : Extent) (count bytes peak : ℕ) → count < 2 ^ 32 → bytes < 2 ^ 64 → peak < 2 ^ 64 → IsInRange (record { shape = shape_of e; entries = count; bytes = bytes; peak = peak })
numbers_range e count bytes peak a b c =
    let power = e.power in
    let most = e.most in
    let within = e.within in
    record { level = level_small e.level (omega arith); split = omega arith; entries = a; bytes = b; peak = c }
