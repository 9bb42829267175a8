-- Counts that rise.
use Rattle.std.proofs.Common.{◌≡◌, ⊎_elim, ◌<◌, ◌+◌, ◌*◌, ℕ, min, subst, arith}
use Rattle.std.proofs.lemmas.Bool.{cases_lt}
use Rattle.sg_gate.specs.Layout.{PAGE}

-- a count after k rounds that each raise it, and one round more
pub raised_more : (before now after k by more top : ℕ) → (0 < k → now ≡ min (before + by) top) → (k ≡ 0 → now ≡ before) → (k ≡ 0 → by ≡ 0) → after ≡ min (now + more) top → after ≡ min (before + (by + more)) top
raised_more before now after k by more top on start none is = ⊎_elim
    (λ some. let e = on some in omega arith)
    (λ le. let zero : k ≡ 0 = omega arith in let e = start zero in let n = none zero in omega arith)
    (cases_lt 0 k)

-- the calls and the bytes of a batch of n pages: its header's, and then its homes'
pub batch_calls : (before mid now n top : ℕ) → mid ≡ min (before + 4) top → now ≡ min (mid + 2 * n + 3) top → now ≡ min (before + 2 * n + 7) top
batch_calls before mid now n top first second = omega (arith, first, second)

pub batch_bytes : (before mid now n top : ℕ) → mid ≡ min (before + 4 * n + 5) top → now ≡ min (mid + PAGE * n + 1) top → now ≡ min (before + (PAGE + 4) * n + 6) top
batch_bytes before mid now n top first second = omega (arith, first, second)

-- and of n pages that are laid over their homes: their header is read first
pub laid_calls : (before mid now n top : ℕ) → mid ≡ min (before + 1) top → now ≡ min (mid + 2 * n + 3) top → now ≡ min (before + 2 * n + 4) top
laid_calls before mid now n top first second = omega (arith, first, second)

pub laid_bytes : (before mid now n top : ℕ) → mid ≡ before → now ≡ min (mid + PAGE * n + 1) top → now ≡ min (before + PAGE * n + 1) top
laid_bytes before mid now n top same wrote = subst (λ (k : ℕ). now ≡ min (k + PAGE * n + 1) top) same wrote

-- the calls of n pages that are copied home, and of the three that close the batch
pub page_calls : (before mid now k n top : ℕ) → k ≡ n → (0 < k → mid ≡ min (before + 2 * k) top) → (k ≡ 0 → mid ≡ before) → now ≡ min (mid + 3) top → now ≡ min (before + 2 * n + 3) top
page_calls before mid now k n top last on start three =
    let sum : before + (2 * k + 3) ≡ before + 2 * n + 3 = omega (arith, last) in
    subst (λ (total : ℕ). now ≡ min total top) sum (raised_more before mid now k (2 * k) 3 top on start (λ none. omega (arith, none)) three)
