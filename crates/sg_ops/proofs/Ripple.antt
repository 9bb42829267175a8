-- Sums and differences byte by byte, with a carry, and the numbers that they spell.
use Rattle.std.proofs.Common.{◌≡◌, ℕ, ◌+◌, ◌-◌, ◌*◌, ◌/◌, ◌%◌, ◌^◌, ◌<◌, ◌≤◌, zero, suc, List, [], ◌∷◌, ◌++◌, take, drop, length, sym, ◌∙◌, ap, arith, rules, refl}
use Rattle.std.proofs.Math.Nat.{pow-succ', mul_assoc, mod-add-div}
use Rattle.std.proofs.lemmas.List.{drop_all, take_all, append-nil}
use Rattle.std.proofs.lemmas.Nat.{mod_below}
use Rattle.sg_base.specs.Bytes.{IsBytes}
use Rattle.sg_ops.specs.Shipped.{value_of, bytes_of, after_add, before_add}
use Rattle.sg_ops.specs.AddLaw.{bytes_of-more, bytes_of-value_of, power_positive}

-- the bytes of a sum, given the carry into the first
abbrev pub added : ℕ → List ℕ → List ℕ → List ℕ
added c [] ys = []
added c (x ∷ xs) [] = x ∷ xs
added c (x ∷ xs) (y ∷ ys) = ((x + y + c) % 256) ∷ added ((x + y + c) / 256) xs ys

added-value : (c : ℕ) (xs ys : List ℕ) → length xs ≡ length ys → bytes_of (length xs) (value_of xs + value_of ys + c) ≡ added c xs ys
added-value c [] ys h = refl
added-value c (x ∷ xs) [] h = absurd (omega (arith, h))
added-value c (x ∷ xs) (y ∷ ys) h =
    let v : ℕ = x + 256 * value_of xs + (y + 256 * value_of ys) + c in
    let first : v % 256 ≡ (x + y + c) % 256 = omega arith in
    let rest : v / 256 ≡ value_of xs + value_of ys + (x + y + c) / 256 = omega arith in
    let after : bytes_of (length xs) (value_of xs + value_of ys + (x + y + c) / 256) ≡ added ((x + y + c) / 256) xs ys = added-value ((x + y + c) / 256) xs ys (omega (arith, h)) in
    ap (λ b. b ∷ bytes_of (length xs) (v / 256)) first ∙ ap (λ bs. ((x + y + c) % 256) ∷ bs) (ap (bytes_of (length xs)) rest ∙ after)

-- added byte by byte, the numbers are added
pub added-after_add : (xs ys : List ℕ) → length xs ≡ length ys → added 0 xs ys ≡ after_add xs ys
added-after_add xs ys h = sym (ap (bytes_of (length xs)) (omega arith) ∙ added-value 0 xs ys h)

-- where all bytes were added, all is done
pub added-ended : (c k : ℕ) (xs ys : List ℕ) → length xs ≤ k → take k xs ++ added c (drop k xs) (drop k ys) ≡ xs
added-ended c k xs ys h = ap (λ d. take k xs ++ added c d (drop k ys)) (drop_all k xs h) ∙ append-nil (take k xs) ∙ take_all k xs h

-- the bytes of a difference, given what is borrowed from the first; missing bytes count as 0
abbrev pub subtracted : ℕ → List ℕ → List ℕ → List ℕ
subtracted c [] ys = []
subtracted c (x ∷ xs) [] = ((x + 256 - (0 + c)) % 256) ∷ subtracted (1 - (x + 256 - (0 + c)) / 256) xs []
subtracted c (x ∷ xs) (y ∷ ys) = ((x + 256 - (y + c)) % 256) ∷ subtracted (1 - (x + 256 - (y + c)) / 256) xs ys

-- where all bytes were subtracted, all is done
pub subtracted-ended : (c k : ℕ) (xs ys : List ℕ) → length xs ≤ k → take k xs ++ subtracted c (drop k xs) (drop k ys) ≡ xs
subtracted-ended c k xs ys h = ap (λ d. take k xs ++ subtracted c d (drop k ys)) (drop_all k xs h) ∙ append-nil (take k xs) ∙ take_all k xs h

length-subtracted : (c : ℕ) (xs ys : List ℕ) → length (subtracted c xs ys) ≡ length xs
length-subtracted c [] ys = refl
length-subtracted c (x ∷ xs) [] = omega (arith, length-subtracted (1 - (x + 256 - (0 + c)) / 256) xs [])
length-subtracted c (x ∷ xs) (y ∷ ys) = omega (arith, length-subtracted (1 - (x + 256 - (y + c)) / 256) xs ys)

bytes-subtracted : (c : ℕ) (xs ys : List ℕ) → IsBytes (subtracted c xs ys)
bytes-subtracted c [] ys k d h = absurd (omega (arith, h))
bytes-subtracted c (x ∷ xs) [] zero d h = omega arith
bytes-subtracted c (x ∷ xs) [] (suc k) d h = bytes-subtracted (1 - (x + 256 - (0 + c)) / 256) xs [] k d (omega (arith, h))
bytes-subtracted c (x ∷ xs) (y ∷ ys) zero d h = omega arith
bytes-subtracted c (x ∷ xs) (y ∷ ys) (suc k) d h = bytes-subtracted (1 - (x + 256 - (y + c)) / 256) xs ys k d (omega (arith, h))

-- what is taken away and what is left make the item, but for whole counts
Completes : ℕ → List ℕ → List ℕ → Type 0
Completes c xs ys = (q : ℕ) × (value_of (subtracted c xs ys) + (value_of ys + c) ≡ value_of xs + 256 ^ length xs * q)

one_more : (x y c v w z n q : ℕ) → x < 256 → y < 256 → c ≤ 1 → v + (w + (1 - (x + 256 - (y + c)) / 256)) ≡ z + 256 ^ n * q → (x + 256 - (y + c)) % 256 + 256 * v + (y + 256 * w + c) ≡ x + 256 * z + 256 ^ suc n * q
one_more x y c v w z n q small_x small_y small_c h =
    let e : 256 ^ suc n * q ≡ 256 * (256 ^ n * q) = ap (λ p. p * q) (pow-succ' 256 n) ∙ mul_assoc 256 (256 ^ n) q in
    omega (arith, e, h)

completes : (c : ℕ) (xs ys : List ℕ) → c ≤ 1 → IsBytes xs → IsBytes ys → Completes c xs ys
unfolding Completes
completes c [] ys small _ _ = (value_of ys + c, omega arith)
completes c (x ∷ xs) [] small bx by =
    let rest : Completes (1 - (x + 256 - (0 + c)) / 256) xs [] = completes (1 - (x + 256 - (0 + c)) / 256) xs [] (omega arith) (λ k d i. bx (suc k) d (omega (arith, i))) by in
    (rest.0, one_more x 0 c _ 0 (value_of xs) (length xs) rest.0 (bx 0 0 (omega arith)) (omega arith) small rest.1)
completes c (x ∷ xs) (y ∷ ys) small bx by =
    let rest : Completes (1 - (x + 256 - (y + c)) / 256) xs ys = completes (1 - (x + 256 - (y + c)) / 256) xs ys (omega arith) (λ k d i. bx (suc k) d (omega (arith, i))) (λ k d i. by (suc k) d (omega (arith, i))) in
    (rest.0, one_more x y c _ (value_of ys) (value_of xs) (length xs) rest.0 (bx 0 0 (omega arith)) (by 0 0 (omega arith)) small rest.1)

-- subtracted byte by byte, the numbers are subtracted
pub subtracted-before_add : (xs ys : List ℕ) → IsBytes xs → IsBytes ys → subtracted 0 xs ys ≡ before_add xs ys
unfolding Completes
subtracted-before_add xs ys bx by =
    let n : ℕ = length xs in
    let count : ℕ = 256 ^ n in
    let left : List ℕ = subtracted 0 xs ys in
    let done : Completes 0 xs ys = completes 0 xs ys (omega arith) bx by in
    let split : value_of ys % count + count * (value_of ys / count) ≡ value_of ys = mod-add-div (value_of ys) count in
    let below : value_of ys % count < count = mod_below (value_of ys) count (power_positive n) in
    let more : count * (value_of ys / count + 1) ≡ count * (value_of ys / count) + count = search rules in
    let sum : value_of xs + (count - value_of ys % count) + count * done.0 ≡ value_of left + count * (value_of ys / count + 1) = omega (arith, done.1, split, below, more) in
    sym (bytes_of-value_of left (bytes-subtracted 0 xs ys))
    ∙ ap (λ m. bytes_of m (value_of left)) (length-subtracted 0 xs ys)
    ∙ sym (bytes_of-more n (value_of left) (value_of ys / count + 1))
    ∙ ap (bytes_of n) (sym sum)
    ∙ bytes_of-more n (value_of xs + (count - value_of ys % count)) done.0
