-- A turned item as two parts.
use Rattle.std.proofs.Common.{◌≡◌, ℕ, ◌+◌, ◌-◌, ◌%◌, ◌<◌, ◌≤◌, zero, suc, List, ◌++◌, length, slice_index, take, drop, sym, ◌∙◌, ap, arith, inl, inr, ◌⊎◌, length-append, length-drop}
use Rattle.std.proofs.Math.Nat.{add-mod-mod, add-mod_right, mod-eq_of_lt}
use Rattle.std.proofs.lemmas.List.{length-take, get_or-drop, get_or-take, get_or_append_left, get_or-append_right}
use Rattle.std.proofs.lemmas.Grind.{same_number_lists}
use Rattle.sg_ops.specs.Shipped.{turned}
use Rattle.sg_ops.specs.RotateLaw.{slice_index-turned, length-turned}

below_or_past : (a b : ℕ) → (a < b) ⊎ (b ≤ a)
below_or_past zero zero = inr (omega arith)
below_or_past zero (suc b) = inl (omega arith)
below_or_past (suc a) zero = inr (omega arith)
below_or_past (suc a) (suc b) = elim (below_or_past a b) [ inl h ↦ inl (omega (arith, h)) | inr h ↦ inr (omega (arith, h)) ]

length-parts : (m : ℕ) (xs : List ℕ) → m ≤ length xs → length (drop m xs ++ take m xs) ≡ length xs
length-parts m xs le = length-append (drop m xs) (take m xs) ∙ omega (arith, length-drop m xs, length-take m xs)

place_in_front : (m : ℕ) (xs : List ℕ) (k : ℕ) → k < length xs - m → slice_index xs ((k + m) % length xs) ≡ slice_index (drop m xs ++ take m xs) k
place_in_front m xs k h =
    let same : (k + m) % length xs ≡ m + k = mod-eq_of_lt (omega (arith, h)) ∙ omega arith in
    ap (slice_index xs) same
    ∙ sym (get_or-drop m xs k 0)
    ∙ sym (get_or_append_left (drop m xs) (take m xs) 0 k (omega (arith, length-drop m xs)))

place_behind : (m : ℕ) (xs : List ℕ) (k : ℕ) → m ≤ length xs → k < length xs → length xs - m ≤ k → slice_index xs ((k + m) % length xs) ≡ slice_index (drop m xs ++ take m xs) k
place_behind m xs k le within past =
    let n : ℕ = length xs in
    let sum : k + m ≡ (k - (n - m)) + n = omega arith in
    let wrapped : (k + m) % n ≡ k - (n - m) = ap (λ s. s % n) sum ∙ add-mod_right (k - (n - m)) n ∙ mod-eq_of_lt (omega arith) in
    ap (slice_index xs) wrapped
    ∙ sym (get_or-take m xs (k - (n - m)) 0 (omega arith))
    ∙ sym (get_or-append_right (drop m xs) (take m xs) (n - m) k 0 (length-drop m xs) past)

-- a turn by no more than the length puts the part from there on in front
pub turned-parts : (m : ℕ) (xs : List ℕ) → m ≤ length xs → turned m xs ≡ drop m xs ++ take m xs
turned-parts m xs le =
    same_number_lists (turned m xs) (drop m xs ++ take m xs) (length-turned m xs ∙ sym (length-parts m xs le)) (λ k h.
    let within : k < length xs = omega (arith, length-turned m xs) in
    slice_index-turned m xs k within
    ∙ elim (below_or_past k (length xs - m)) [ inl front ↦ place_in_front m xs k front | inr behind ↦ place_behind m xs k le within behind ])

-- whole rounds make no difference
pub turned-mod : (r : ℕ) (xs : List ℕ) → turned (r % length xs) xs ≡ turned r xs
turned-mod r xs = simp add-mod-mod

-- what a rotation by the rest of whole rounds leaves
pub rotated-turned : (r by : ℕ) (xs : List ℕ) → by ≡ r % length xs → by ≤ length xs → drop by xs ++ take by xs ≡ turned r xs
rotated-turned r by xs rest le = sym (turned-parts by xs le) ∙ ap (λ m. turned m xs) rest ∙ turned-mod r xs
