-- The bytes of a list of which some were written over.
use Rattle.std.proofs.Common.{◌≡◌, ℕ, ◌+◌, ◌-◌, ◌<◌, ◌≤◌, List, [], ◌++◌, length, slice_index, take, drop, sym, ap, ◌∙◌, refl, arith, inl, inr, max}
use Rattle.std.proofs.lemmas.Bool.{cases_lt}
use Rattle.std.proofs.lemmas.Grind.{same_number_lists}
use Rattle.std.proofs.lemmas.List.{length-take-le, length-drop, length-append, get_or-take, get_or-drop, get_or_append_left, get_or-append_right, append_assoc}
use Rattle.sg_base.specs.Overwritten.{overwritten}

shape : (xs ys : List ℕ) (at : ℕ) → overwritten xs at ys ≡ take at xs ++ (ys ++ drop (at + length ys) xs)
shape xs ys at = append_assoc (take at xs) ys (drop (at + length ys) xs)

front_long : (xs : List ℕ) (at : ℕ) → at ≤ length xs → length (take at xs) ≡ at
front_long xs at h = length-take-le at xs h

tail_long : (xs ys : List ℕ) (at : ℕ) → length (ys ++ drop (at + length ys) xs) ≡ length ys + (length xs - (at + length ys))
tail_long xs ys at = length-append ys (drop (at + length ys) xs) ∙ ap (λ (n : ℕ). length ys + n) (length-drop (at + length ys) xs)

pub length_over : (xs ys : List ℕ) (at : ℕ) → at ≤ length xs → length (overwritten xs at ys) ≡ max (length xs) (at + length ys)
length_over xs ys at h =
    let a : length (overwritten xs at ys) ≡ length (take at xs) + length (ys ++ drop (at + length ys) xs) = ap (λ (zs : List ℕ). length zs) (shape xs ys at) ∙ length-append (take at xs) (ys ++ drop (at + length ys) xs) in
    let f = front_long xs at h in
    let t = tail_long xs ys at in
    omega arith

pub over_before : (xs ys : List ℕ) (at k : ℕ) → at ≤ length xs → k < at → slice_index (overwritten xs at ys) k ≡ slice_index xs k
over_before xs ys at k h below =
    let f = front_long xs at h in
    ap (λ (zs : List ℕ). slice_index zs k) (shape xs ys at) ∙ get_or_append_left (take at xs) (ys ++ drop (at + length ys) xs) 0 k (omega arith) ∙ get_or-take at xs k 0 below

pub over_inside : (xs ys : List ℕ) (at k : ℕ) → at ≤ length xs → k < length ys → slice_index (overwritten xs at ys) (at + k) ≡ slice_index ys k
over_inside xs ys at k h below =
    let e : at + k - at ≡ k = omega arith in
    ap (λ (zs : List ℕ). slice_index zs (at + k)) (shape xs ys at) ∙ get_or-append_right (take at xs) (ys ++ drop (at + length ys) xs) at (at + k) 0 (front_long xs at h) (omega arith)
    ∙ (ap (λ (n : ℕ). slice_index (ys ++ drop (at + length ys) xs) n) e
    ∙ get_or_append_left ys (drop (at + length ys) xs) 0 k below)

pub over_after : (xs ys : List ℕ) (at k : ℕ) → at ≤ length xs → at + length ys ≤ k → slice_index (overwritten xs at ys) k ≡ slice_index xs k
over_after xs ys at k h above =
    let e : at + length ys + (k - at - length ys) ≡ k = omega arith in
    ap (λ (zs : List ℕ). slice_index zs k) (shape xs ys at) ∙ get_or-append_right (take at xs) (ys ++ drop (at + length ys) xs) at k 0 (front_long xs at h) (omega arith)
    ∙ (get_or-append_right ys (drop (at + length ys) xs) (length ys) (k - at) 0 refl (omega arith)
    ∙ (get_or-drop (at + length ys) xs (k - at - length ys) 0
    ∙ ap (λ (n : ℕ). slice_index xs n) e))

-- two writes, the second right behind the first
pub over_twice : (xs ys zs : List ℕ) (at d : ℕ) → at ≤ length xs → d ≡ length ys → overwritten (overwritten xs at ys) (at + d) zs ≡ overwritten xs at (ys ++ zs)
over_twice xs ys zs at d h is =
    let one = length_over xs ys at h in
    let mid : at + d ≤ length (overwritten xs at ys) = omega arith in
    let two = length_over (overwritten xs at ys) zs (at + d) mid in
    let both = length_over xs (ys ++ zs) at h in
    let long : length (ys ++ zs) ≡ length ys + length zs = length-append ys zs in
    same_number_lists (overwritten (overwritten xs at ys) (at + d) zs) (overwritten xs at (ys ++ zs)) (omega arith) (λ k below.
    elim (cases_lt k at) [
      | inl a ↦ over_before (overwritten xs at ys) zs (at + d) k mid (omega arith) ∙ (over_before xs ys at k h a ∙ sym (over_before xs (ys ++ zs) at k h a))
      | inr a ↦
          let e : at + (k - at) ≡ k = omega arith in
          elim (cases_lt k (at + d)) [
            | inl b ↦
                over_before (overwritten xs at ys) zs (at + d) k mid b
                ∙ (ap (λ (n : ℕ). slice_index (overwritten xs at ys) n) (sym e)
                ∙ (over_inside xs ys at (k - at) h (omega arith)
                ∙ (sym (get_or_append_left ys zs 0 (k - at) (omega arith))
                ∙ (sym (over_inside xs (ys ++ zs) at (k - at) h (omega arith))
                ∙ ap (λ (n : ℕ). slice_index (overwritten xs at (ys ++ zs)) n) e))))
            | inr b ↦ elim (cases_lt k (at + d + length zs)) [
              | inl c ↦
                  let f : at + d + (k - at - d) ≡ k = omega arith in
                  ap (λ (n : ℕ). slice_index (overwritten (overwritten xs at ys) (at + d) zs) n) (sym f)
                  ∙ (over_inside (overwritten xs at ys) zs (at + d) (k - at - d) mid (omega arith)
                  ∙ (sym (get_or-append_right ys zs d (k - at) 0 (sym is) (omega arith))
                  ∙ (sym (over_inside xs (ys ++ zs) at (k - at) h (omega arith))
                  ∙ ap (λ (n : ℕ). slice_index (overwritten xs at (ys ++ zs)) n) e)))
              | inr c ↦
                  over_after (overwritten xs at ys) zs (at + d) k mid (omega arith)
                  ∙ (over_after xs ys at k h (omega arith)
                  ∙ sym (over_after xs (ys ++ zs) at k h (omega arith)))
            ]
          ]
    ])

pub over_none : (xs : List ℕ) (at : ℕ) → at ≤ length xs → overwritten xs at [] ≡ xs
over_none xs at h =
    let long = length_over xs [] at h in
    same_number_lists (overwritten xs at []) xs (omega arith) (λ k below. elim (cases_lt k at) [
      | inl a ↦ over_before xs [] at k h a
      | inr a ↦ over_after xs [] at k h (omega arith)
    ])
