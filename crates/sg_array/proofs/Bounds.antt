-- How many pages an array has, and how many more it wants for one item more.
use Rattle.std.proofs.Common.{◌≡◌, ℕ, ◌+◌, ◌-◌, ◌*◌, ◌/◌, ◌<◌, ◌≤◌, max, length, Option, ap, ◌∙◌, refl, arith, inl, inr}
use Rattle.std.proofs.lemmas.Bool.{cases_eq}
use Rattle.std.proofs.lemmas.Nat.{le-div}
use Rattle.std.proofs.Math.Nat.{div-mul-le_self, div-zero, add-div_right}
use Rattle.sg_base.specs.Sheet.{Sheet}
use Rattle.sg_array.specs.Array.{Array, IsArray, per_page, page_count, rounded_up, pages_for}
use Rattle.sg_array.proofs.Places.{per_page-least}
use Rattle.sg_array.proofs.Wanting.{leaves_wanted, index_wanted}

-- an array has exactly the pages that its size and its peak want
pub array_exact : {pages : ℕ → Option Sheet} {root : ℕ} (a : Array) → IsArray pages root a → page_count a ≡ pages_for a.size a.peak
array_exact a h =
    let leaves : length a.leaves ≡ rounded_up a.peak (per_page a.size) = leaves_wanted h refl refl refl in
    let index : length a.index ≡ rounded_up (rounded_up a.peak (per_page a.size)) 509 = index_wanted h leaves refl in
    omega arith

-- a number that is no less wants no fewer parts
pub rounded_rising : (m n each : ℕ) → m ≤ n → rounded_up m each ≤ rounded_up n each
rounded_rising m n each h = elim (cases_eq each 0) [
  | inl z ↦ rw (z, div-zero (m + (0 - 1)), div-zero (n + (0 - 1))) (omega arith)
  | inr some ↦
      let back : (m + (each - 1)) / each * each ≤ m + (each - 1) = div-mul-le_self (m + (each - 1)) each in
      le-div ((m + (each - 1)) / each) (n + (each - 1)) each (omega arith) (omega arith)
]

pub pages_rising : (size m n : ℕ) → m ≤ n → pages_for size m ≤ pages_for size n
pages_rising size m n h =
    let leaves : rounded_up m (per_page size) ≤ rounded_up n (per_page size) = rounded_rising m n (per_page size) h in
    let index : rounded_up (rounded_up m (per_page size)) 509 ≤ rounded_up (rounded_up n (per_page size)) 509 = rounded_rising (rounded_up m (per_page size)) (rounded_up n (per_page size)) 509 leaves in
    omega arith

-- one more wants at most one part more
pub rounded_more : (n each : ℕ) → 0 < each → rounded_up (n + 1) each ≤ rounded_up n each + 1
rounded_more n each some =
    let step : rounded_up (n + 1) each ≤ rounded_up (n + each) each = rounded_rising (n + 1) (n + each) each (omega arith) in
    let turned : n + each + (each - 1) ≡ n + (each - 1) + each = omega arith in
    let one : rounded_up (n + each) each ≡ rounded_up n each + 1 = ap (λ (x : ℕ). x / each) turned ∙ add-div_right (n + (each - 1)) some in
    omega (arith, step, one)

-- an array that gets one item more wants at most two pages more
pub pushed_pages : (size count peak : ℕ) → size ≤ 256 → count ≤ peak → pages_for size (max peak (count + 1)) ≤ pages_for size peak + 2
pushed_pages size count peak small most =
    let some : 15 ≤ per_page size = per_page-least size small in
    let rise : pages_for size (max peak (count + 1)) ≤ pages_for size (peak + 1) = pages_rising size (max peak (count + 1)) (peak + 1) (omega arith) in
    let leaves : rounded_up (peak + 1) (per_page size) ≤ rounded_up peak (per_page size) + 1 = rounded_more peak (per_page size) (omega arith) in
    let next : rounded_up (rounded_up (peak + 1) (per_page size)) 509 ≤ rounded_up (rounded_up peak (per_page size) + 1) 509 = rounded_rising (rounded_up (peak + 1) (per_page size)) (rounded_up peak (per_page size) + 1) 509 leaves in
    let index : rounded_up (rounded_up peak (per_page size) + 1) 509 ≤ rounded_up (rounded_up peak (per_page size)) 509 + 1 = rounded_more (rounded_up peak (per_page size)) 509 (omega arith) in
    omega arith
