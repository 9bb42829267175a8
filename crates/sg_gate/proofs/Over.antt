-- Pages laid over their homes.
use Rattle.std.proofs.Common.{◌≡◌, ◌⊎◌, inl, inr, ⊎_elim, ◌<◌, ◌≤◌, ◌+◌, ◌-◌, ◌*◌, ℕ, zero, suc, true, false, if◌then◌else◌, List, [], ◌∷◌, ◌++◌, length, refl, sym, ◌∙◌, ap, arith, add-zero}
use Rattle.std.proofs.lemmas.Bool.{cases_lt}
use Rattle.std.proofs.lemmas.Bool.Decides.{nat_tests}
use Rattle.byteorder.specs.Endian.{little_number}
use Rattle.sg_disk.specs.Disk.{Bytes, window}
use Rattle.sg_gate.proofs.Windows.{window_shift}
use Rattle.sg_gate.specs.Layout.{PAGE, HEADER, PLACES, HOMES, place_at, home_at}
use Rattle.sg_gate.specs.Batch.{numbers_from, count_at, numbers_at, numbers_of, in_page, over, homed, laid, InHomes}

-- a byte in that page, or not
pub in_or_out : (base i : ℕ) → ((in_page base i ≡ true) × (base ≤ i) × (i < base + PAGE)) ⊎ ((in_page base i ≡ false) × ((base ≤ i) → (i < base + PAGE) → ⊥))
in_or_out base i = ⊎_elim
    (λ lt. inr (grind (arith, nat_tests), λ low high. absurd (omega arith)))
    (λ low. ⊎_elim (λ high. inl (grind (arith, nat_tests), low, high)) (λ high. inr (grind (arith, nat_tests), λ l h. absurd (omega arith))) (cases_lt i (base + PAGE)))
    (cases_lt i base)

-- one page laid over
abbrev pub step : ℕ → ℕ → Bytes → Bytes → Bytes
step n k f g i = if in_page (home_at n) i then f (place_at k + (i - home_at n)) else g i

pub step_in : (n k : ℕ) (f g : Bytes) (i : ℕ) → home_at n ≤ i → i < home_at n + PAGE → step n k f g i ≡ f (place_at k + (i - home_at n))
step_in n k f g i low high = ⊎_elim (λ is. rw (is.0) refl) (λ out. absurd (out.1 low high)) (in_or_out (home_at n) i)

pub step_out : (n k : ℕ) (f g : Bytes) (i : ℕ) → (home_at n ≤ i → i < home_at n + PAGE → ⊥) → step n k f g i ≡ g i
step_out n k f g i out = ⊎_elim (λ is. absurd (out is.1 is.2)) (λ is. rw (is.0) refl) (in_or_out (home_at n) i)

-- below the homes nothing is laid over
pub over_low : (ns : List ℕ) (k : ℕ) (f g : Bytes) (i : ℕ) → i < HOMES → over ns k f g i ≡ g i
over_low [] k f g i low = refl
over_low (n ∷ ns) k f g i low = over_low ns (suc k) f (step n k f g) i low ∙ step_out n k f g i (λ a b. absurd (omega arith))

pub over_out : (ns : List ℕ) (k : ℕ) (f g : Bytes) (i : ℕ) → (InHomes ns i → ⊥) → over ns k f g i ≡ g i
over_out [] k f g i out = refl
over_out (n ∷ ns) k f g i out = over_out ns (suc k) f (step n k f g) i (λ there. out (inr there)) ∙ step_out n k f g i (λ a b. out (inl (a, b)))

-- one page more
pub over_more : (xs : List ℕ) (n k : ℕ) (f g : Bytes) (i : ℕ) → over (xs ++ n ∷ []) k f g i ≡ step n (k + length xs) f (over xs k f g) i
over_more [] n k f g i = ap (λ (j : ℕ). step n j f g i) (sym (add-zero k))
over_more (x ∷ xs) n k f g i =
    let sum : suc k + length xs ≡ k + suc (length xs) = omega arith in
    over_more xs n (suc k) f (step x k f g) i ∙ ap (λ (j : ℕ). step n j f (over xs (suc k) f (step x k f g)) i) sum

-- what is laid over depends on the places, and elsewhere on the bytes there
pub over_agree : (ns : List ℕ) (k : ℕ) (f f' g g' : Bytes) (i : ℕ) → ((j : ℕ) → PLACES ≤ j → j < HOMES → f j ≡ f' j) → k + length ns ≤ 32 → ((InHomes ns i → ⊥) → g i ≡ g' i) → over ns k f g i ≡ over ns k f' g' i
over_agree [] k f f' g g' i places short same = same (λ none. none)
over_agree (n ∷ ns) k f f' g g' i places short same = over_agree ns (suc k) f f' (step n k f g) (step n k f' g') i places (omega arith)
    (λ out. ⊎_elim
    (λ is. step_in n k f g i is.1 is.2 ∙ places (place_at k + (i - home_at n)) (let low = is.1 in omega arith) (let low = is.1 in let high = is.2 in omega arith) ∙ sym (step_in n k f' g' i is.1 is.2))
    (λ not. step_out n k f g i not.1 ∙ same (λ there. ⊎_elim (λ here. not.1 here.0 here.1) (λ later. out later) there) ∙ sym (step_out n k f' g' i not.1))
    (in_or_out (home_at n) i))

pub in_homes_or : (ns : List ℕ) (i : ℕ) → InHomes ns i ⊎ (InHomes ns i → ⊥)
in_homes_or [] i = inr (λ none. none)
in_homes_or (n ∷ ns) i = ⊎_elim
    (λ is. inl (inl (is.1, is.2)))
    (λ not. ⊎_elim (λ there. inl (inr there)) (λ nowhere. inr (λ is. ⊎_elim (λ here. not.1 here.0 here.1) (λ there. nowhere there) is)) (in_homes_or ns i))
    (in_or_out (home_at n) i)

pub homes_high : (ns : List ℕ) (i : ℕ) → InHomes ns i → HOMES ≤ i
homes_high [] i is = absurd is
homes_high (n ∷ ns) i is = ⊎_elim (λ here. let low = here.0 in omega arith) (λ there. homes_high ns i there) is

-- the header's numbers
later : (a k : ℕ) → a + 4 + k ≡ a + (4 + k)
later a k = omega arith

pub numbers_agree_from : (f g : Bytes) (a b m : ℕ) → ((k : ℕ) → k < 4 * m → f (a + k) ≡ g (b + k)) → numbers_from f a m ≡ numbers_from g b m
numbers_agree_from f g a b zero same = refl
numbers_agree_from f g a b (suc m) same =
    let number : little_number 4 (window f a 4) ≡ little_number 4 (window g b 4) = ap (little_number 4) (window_shift f g a b 4 (λ k lt. same k (omega arith))) in
    let rest = numbers_agree_from f g (a + 4) (b + 4) m (λ k lt. ap f (later a k) ∙ same (4 + k) (omega arith) ∙ ap g (sym (later b k))) in
    λ i. number i ∷ rest i

-- and one number more
pub numbers_more : (f : Bytes) (at m : ℕ) → numbers_from f at (suc m) ≡ numbers_from f at m ++ little_number 4 (window f (at + 4 * m) 4) ∷ []
numbers_more f at zero = ap (λ (a : ℕ). little_number 4 (window f a 4) ∷ []) (sym (add-zero at))
numbers_more f at (suc m) =
    let place : at + 4 + 4 * m ≡ at + 4 * suc m = omega arith in
    ap (λ (l : List ℕ). little_number 4 (window f at 4) ∷ l) (numbers_more f (at + 4) m ∙ ap (λ (a : ℕ). numbers_from f (at + 4) m ++ little_number 4 (window f a 4) ∷ []) place)

pub numbers_length : (f : Bytes) (at m : ℕ) → length (numbers_from f at m) ≡ m
numbers_length f at zero = refl
numbers_length f at (suc m) = ap suc (numbers_length f (at + 4) m)

-- the numbers are those that stand in the header
pub numbers_agree_at : (f g : Bytes) (a b : ℕ) → length (numbers_at f a) ≤ 32 → ((k : ℕ) → k < 132 → g (b + k) ≡ f (a + k)) → numbers_at g b ≡ numbers_at f a
unfolding numbers_at
numbers_agree_at f g a b short same =
    let n = count_at f a in
    let long = numbers_length f (a + 4) n in
    let count : count_at g b ≡ n = ap (little_number 4) (window_shift g f b a 4 (λ k lt. same k (omega arith))) in
    ap (numbers_from g (b + 4)) count ∙ numbers_agree_from g f (b + 4) (a + 4) n (λ k lt. ap g (later b k) ∙ same (4 + k) (omega arith) ∙ ap f (sym (later a k)))

pub numbers_at_length : (f : Bytes) (at : ℕ) → length (numbers_at f at) ≡ count_at f at
unfolding numbers_at
numbers_at_length f at = numbers_length f (at + 4) (count_at f at)

pub numbers_agree : (f g : Bytes) → length (numbers_of f) ≤ 32 → ((i : ℕ) → HEADER < i → i < PLACES → g i ≡ f i) → numbers_of g ≡ numbers_of f
numbers_agree f g short same = numbers_agree_at f g (HEADER + 1) (HEADER + 1) short (λ k lt. same (HEADER + 1 + k) (omega arith) (omega arith))

pub numbers_are : (f : Bytes) (at : ℕ) (ns : List ℕ) → count_at f at ≡ length ns → numbers_from f (at + 4) (length ns) ≡ ns → numbers_at f at ≡ ns
unfolding numbers_at
numbers_are f at ns count is = ap (numbers_from f (at + 4)) count ∙ is

-- what opening sees
pub laid_open : (f : Bytes) (i : ℕ) → f HEADER ≡ 1 → laid f i ≡ homed (numbers_of f) f i
unfolding laid
laid_open f i is = rw is refl

pub laid_shut : (f : Bytes) (i : ℕ) → (f HEADER ≡ 1 → ⊥) → laid f i ≡ f i
unfolding laid
laid_shut f i shut = grind (arith, nat_tests)
