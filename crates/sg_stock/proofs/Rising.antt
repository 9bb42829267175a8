-- The bounds rise with the peaks.
use Rattle.std.proofs.Common.{ℕ, ◌+◌, ◌-◌, ◌*◌, ◌/◌, ◌≤◌, inl, inr, arith}
use Rattle.std.proofs.lemmas.Bool.{cases_eq}
use Rattle.std.proofs.lemmas.Nat.{le-div}
use Rattle.std.proofs.Math.Nat.{div-mul-le_self, div-zero}
use Rattle.sg_array.specs.Array.{per_page, rounded_up, pages_for}
use Rattle.sg_room.specs.Marks.{Form, extent_of}
use Rattle.sg_room.specs.Marks.Form.{ArrayOf, TableOf, BlobOf}
use Rattle.sg_room.specs.Bounds.{page_bound, band_bound}

-- a number that is no less wants no fewer parts
rounded_rising : (m n each : ℕ) → m ≤ n → rounded_up m each ≤ rounded_up n each
rounded_rising m n each h = elim (cases_eq each 0) [
  | inl z ↦ rw (z, div-zero (m + (0 - 1)), div-zero (n + (0 - 1))) (omega arith)
  | inr some ↦
      let back : (m + (each - 1)) / each * each ≤ m + (each - 1) = div-mul-le_self (m + (each - 1)) each in
      le-div ((m + (each - 1)) / each) (n + (each - 1)) each (omega arith) (omega arith)
]

pages_rising : (size m n : ℕ) → m ≤ n → pages_for size m ≤ pages_for size n
pages_rising size m n h =
    let leaves : rounded_up m (per_page size) ≤ rounded_up n (per_page size) = rounded_rising m n (per_page size) h in
    let index : rounded_up (rounded_up m (per_page size)) 509 ≤ rounded_up (rounded_up n (per_page size)) 509
    = rounded_rising (rounded_up m (per_page size)) (rounded_up n (per_page size)) 509 leaves in
    omega arith

pub rising : (f : Form) (m n : ℕ) → m ≤ n
    → (page_bound (extent_of f m) ≤ page_bound (extent_of f n)) × (band_bound (extent_of f m) ≤ band_bound (extent_of f n))
rising (ArrayOf size) m n h = (pages_rising size m n h, omega arith)
rising (TableOf count) m n h = (omega arith, omega arith)
rising BlobOf m n h = (omega arith, rounded_rising m n 32768 h)
