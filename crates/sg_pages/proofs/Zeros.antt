-- What a band has that there isn't.
use Rattle.std.proofs.Common.{◌≡◌, ◌<◌, ◌≤◌, ℕ, Bool, true, false, List, length, get_or, sum_by, refl, sym, ap, ◌∙◌, arith}
use Rattle.std.specs.Prelude.{if◌then◌else◌, nat_lt}
use Rattle.std.proofs.lemmas.Bool.{ltb-true}
use Rattle.std.proofs.lemmas.List.{ext_get_or}
use Rattle.std.proofs.lemmas.List.Sums.{get_or-le-sum_by}
use Rattle.sg_base.specs.declared.page.TheConstants.{BAND_SIZE}
use Rattle.sg_disk.specs.Disk.{View}
use Rattle.sg_pool.specs.Pooled.{sizes, contents}
use Rattle.sg_pool.specs.declared.pool.Pool.{Pool}
use Rattle.sg_phys_laws.specs.Listed.{listed}
use Rattle.sg_phys_laws.specs.Recovers.{no_band}
use Rattle.sg_phys_laws.proofs.Listing.{length-listed, get_or-listed}
use Rattle.sg_phys.specs.Phys.{pool_says}

-- bytes whose sum is zero are zeros
pub zeros_listed : (n : ℕ) (xs : List ℕ) → length xs ≡ n → sum_by (λ (x : ℕ). x) xs ≡ 0 → listed n (λ i. 0) ≡ xs
zeros_listed n xs long none = ext_get_or 0 (listed n (λ i. 0)) xs (length-listed n (λ i. 0) ∙ sym long) (λ i below.
    let lt : i < n = (let e = length-listed n (λ i. 0) in omega (arith, below, e)) in
    let has : i < length xs = omega (arith, lt, long) in
    let least = get_or-le-sum_by (λ (x : ℕ). x) xs i 0 has in
    let same : 0 ≡ get_or xs i 0 = omega (arith, least, none) in
    get_or-listed n (λ i. 0) i lt ∙ same)

-- a band beyond the last is zeros
pub shown_none : (v : View) (pool : Pool) (b : ℕ) → (sizes pool).bands ≤ b → (pool_says v pool).bands b ≡ no_band
shown_none v pool b past = by (nat_lt b (sizes pool).bands) refl
  where
    by : (c : Bool) → nat_lt b (sizes pool).bands ≡ c → (if c then listed BAND_SIZE ((contents v pool).byte b) else no_band) ≡ no_band
    by true is = absurd (let lt = ltb-true b (sizes pool).bands is in omega (arith, lt, past))
    by false is = refl
