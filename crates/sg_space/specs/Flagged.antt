-- Things with flags, of which those are shown that are taken.
use Rattle.std.proofs.Common.{◌≡◌, ℕ, zero, suc, ◌+◌, ◌<◌, ◌≤◌, List, [], ◌∷◌, length, Option, Some, None, IsSome, is_none, option_map, Bool, true, false, not, sym, ap, ◌∙◌, refl, arith, slice_get, cond, count_by}
use Rattle.std.specs.List.{range_with_len}
use Rattle.std.proofs.lemmas.List.Sums.{sum_by-cons}
use Rattle.std.proofs.lemmas.Option.{slice_get_within}
use Rattle.sg_alloc.specs.Flags.{free_of}
use Rattle.sg_space.specs.Units.{Units, IsExact}

-- what one contains, where its flag says that it's taken
abbrev pub shown : {X A : Type 0} → (X → A) → Option Bool → Option X → Option A
shown f None x = None
shown f (Some false) x = None
shown f (Some true) x = option_map f x

-- those of a list with their flags, each of which contains what the function says
abbrev pub units_of : {X A : Type 0} → (X → A) → List Bool → List X → Units A
units_of f taken xs = record { at = λ n. shown f (slice_get taken n) (slice_get xs n); free = free_of taken; count = length xs }

pub slice_get_past : {X : Type 0} (xs : List X) (i : ℕ) → length xs ≤ i → slice_get xs i ≡ None
slice_get_past [] i h = refl
slice_get_past (y ∷ ys) zero h = absurd (omega arith)
slice_get_past (y ∷ ys) (suc i) h = slice_get_past ys i (omega arith)

pub none_past : {X A : Type 0} (f : X → A) (taken : List Bool) (xs : List X) (n : ℕ) → length taken ≤ n → (units_of f taken xs).at n ≡ None
none_past f taken xs n past = ap (λ (b : Option Bool). shown f b (slice_get xs n)) (slice_get_past taken n past)

is_none_shown : {X A : Type 0} (f : X → A) (b : Bool) (x : Option X) → IsSome x → is_none (shown f (Some b) x) ≡ not b
is_none_shown f false x h = refl
is_none_shown f true None h = cc
is_none_shown f true (Some y) h = refl

some_below : {X : Type 0} (xs : List X) (k : ℕ) → k < length xs → IsSome (slice_get xs k)
some_below [] k h = absurd (omega arith)
some_below (x ∷ xs) zero h = refl
some_below (x ∷ xs) (suc k) h = some_below xs k (omega arith)

count_from : (taken : List Bool) (a : ℕ) (g : ℕ → Bool) → ((k : ℕ) (b : Bool) → slice_get taken k ≡ Some b → g (a + k) ≡ not b) → free_of taken ≡ count_by g (range_with_len a (length taken))
count_from [] a g h = refl
count_from (x ∷ xs) a g h =
    let first : g a ≡ not x = ap g (let e : a ≡ a + 0 = omega arith in e) ∙ h 0 x refl in
    let rest : free_of xs ≡ count_by g (range_with_len (a + 1) (length xs)) = count_from xs (a + 1) g (λ k b e. ap g (let e : (a + 1) + k ≡ a + suc k = omega arith in e) ∙ h (suc k) b e) in
    let left : free_of (x ∷ xs) ≡ cond {A = ℕ} (not x) 1 0 + free_of xs = sum_by-cons (λ (b : Bool). cond {A = ℕ} (not b) 1 0) x xs in
    let right : count_by g (a ∷ range_with_len (a + 1) (length xs)) ≡ cond {A = ℕ} (g a) 1 0 + count_by g (range_with_len (a + 1) (length xs)) = sum_by-cons (λ (n : ℕ). cond {A = ℕ} (g n) 1 0) a (range_with_len (a + 1) (length xs)) in
    let same : cond {A = ℕ} (g a) 1 0 ≡ cond {A = ℕ} (not x) 1 0 = ap (λ (b : Bool). cond {A = ℕ} b 1 0) first in
    left ∙ (let e : cond {A = ℕ} (not x) 1 0 + free_of xs ≡ cond {A = ℕ} (g a) 1 0 + count_by g (range_with_len (a + 1) (length xs)) = omega arith in e) ∙ sym right

-- the count of free ones is exact
pub units_exact : {X A : Type 0} (f : X → A) (taken : List Bool) (xs : List X) → length taken ≡ length xs → IsExact (units_of f taken xs)
units_exact f taken xs long = record {
  free = count_from taken 0 (λ n. is_none ((units_of f taken xs).at n)) each ∙ ap (λ n. count_by (λ n. is_none ((units_of f taken xs).at n)) (range_with_len 0 n)) long;
  past = λ n past. none_past f taken xs n (omega arith);
}
  where
    each : (k : ℕ) (b : Bool) → slice_get taken k ≡ Some b → is_none ((units_of f taken xs).at (0 + k)) ≡ not b
    each k b e =
        let at : slice_get taken (0 + k) ≡ Some b = ap (slice_get taken) (let z : 0 + k ≡ k = omega arith in z) ∙ e in
        let below : k < length taken = slice_get_within taken k b e in
        ap (λ (o : Option Bool). is_none (shown f o (slice_get xs (0 + k)))) at ∙ is_none_shown f b (slice_get xs (0 + k)) (some_below xs (0 + k) (omega arith))
