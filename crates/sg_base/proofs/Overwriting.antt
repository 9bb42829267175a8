-- A part of a list written over.
use Rattle.std.proofs.Common.{◌≡◌, ℕ, ◌+◌, ◌<◌, ◌≤◌, List, [], ◌∷◌, ◌++◌, length, take, drop, inl, inr, sym, ap, ◌∙◌, arith, append-nil, add-zero, take-append-drop}
use Rattle.std.proofs.lemmas.List.{drop-drop, append_assoc, ext_get_or, length-take, length-drop, length-append, get_or-take, get_or-drop}
use Rattle.std.proofs.Math.ListN.{drop_of_length-le}
use borrow.Rule.Slice.PartMut.{put_mid}
use Rattle.sg_base.specs.Overwritten.{overwritten, IsSameOutside, Wrote}
use Rattle.std.proofs.Common.{subst}
use Rattle.std.proofs.Math.Seq.{take-append_seam, drop-append-add}
use Rattle.std.proofs.lemmas.List.{length-take-le}

-- a write to a part of a list, as a whole
pub overwritten_by_part : (xs written bytes : List ℕ) (at size : ℕ) → written ≡ bytes → size ≡ length bytes → put_mid at size xs written ≡ overwritten xs at bytes
overwritten_by_part xs written bytes at size e s =
    ap (λ (ys : List ℕ). take at xs ++ (ys ++ drop size (drop at xs))) e
    ∙ (ap (λ (n : ℕ). take at xs ++ (bytes ++ drop n (drop at xs))) s
    ∙ (ap (λ (ys : List ℕ). take at xs ++ (bytes ++ ys)) (drop-drop (length bytes) at xs)
    ∙ sym (append_assoc (take at xs) bytes (drop (at + length bytes) xs))))

-- and to a front of the part, which is all of it
pub overwritten_by_front : (xs written bytes : List ℕ) (at size : ℕ) → size ≡ length bytes → written ≡ bytes ++ drop (length bytes) (take size (drop at xs)) → put_mid at size xs written ≡ overwritten xs at bytes
overwritten_by_front xs written bytes at size s e =
    let none : drop (length bytes) (take size (drop at xs)) ≡ [] = drop_of_length-le (take size (drop at xs)) (omega (arith, length-take size (drop at xs))) in
    overwritten_by_part xs written bytes at size (e ∙ (ap (λ (ys : List ℕ). bytes ++ ys) none ∙ append-nil bytes)) s

pub length-overwritten : (xs : List ℕ) (at : ℕ) (bytes : List ℕ) → at + length bytes ≤ length xs → length (overwritten xs at bytes) ≡ length xs
length-overwritten xs at bytes within =
    omega (arith, length-append (take at xs ++ bytes) (drop (at + length bytes) xs), length-append (take at xs) bytes, length-take at xs, length-drop (at + length bytes) xs)

-- what stood in the part doesn't show in what is left
pub overwritten_blind : (xs ys : List ℕ) (at : ℕ) (bytes : List ℕ) → at ≤ length xs → IsSameOutside at (length bytes) xs ys → overwritten xs at bytes ≡ overwritten ys at bytes
overwritten_blind xs ys at bytes fits same =
    let end : ℕ = at + length bytes in
    let front : take at xs ≡ take at ys =
    ext_get_or 0 (take at xs) (take at ys) (omega (arith, length-take at xs, length-take at ys, same.long))
    (λ k h. let lt : k < at = omega (arith, length-take at xs) in
    get_or-take at xs k 0 lt ∙ (same.same k (inl lt) ∙ sym (get_or-take at ys k 0 lt))) in
    let back : drop end xs ≡ drop end ys =
    ext_get_or 0 (drop end xs) (drop end ys) (omega (arith, length-drop end xs, length-drop end ys, same.long))
    (λ k h. get_or-drop end xs k 0 ∙ (same.same (end + k) (inr (omega arith)) ∙ sym (get_or-drop end ys k 0))) in
    ap (λ (zs : List ℕ). zs ++ bytes ++ drop end xs) front ∙ ap (λ (zs : List ℕ). take at ys ++ bytes ++ zs) back

-- a part without bytes changes none
pub overwritten_none : (xs : List ℕ) (at : ℕ) (bytes : List ℕ) → length bytes ≡ 0 → overwritten xs at bytes ≡ xs
overwritten_none xs at [] none = ap (λ (ys : List ℕ). ys ++ drop (at + 0) xs) (append-nil (take at xs)) ∙ (ap (λ (n : ℕ). take at xs ++ drop n xs) (add-zero at) ∙ take-append-drop at xs)
overwritten_none xs at (x ∷ bytes) none = absurd (omega (arith, none))

-- a write behind another one: both are one write
pub wrote_on : {old one two : List ℕ} {at next end : ℕ} {a b : List ℕ} → at ≤ length old → Wrote old at a one next → Wrote one next b two end → Wrote old at (a ++ b) two end
wrote_on {old = old} {one = one} {two = two} {at = at} {next = next} {end = end} {a = a} {b = b} within first second =
    let front : List ℕ = take at old ++ a in
    let long : length front ≡ at + length a = length-append (take at old) a ∙ ap (λ (n : ℕ). n + length a) (length-take-le at old within) in
    let is : one ≡ front ++ drop (at + length a) old = first.written in
    let kept : take next one ≡ front = ap (take next) is ∙ (ap (λ (n : ℕ). take n (front ++ drop (at + length a) old)) (first.place ∙ sym long) ∙ take-append_seam front (drop (at + length a) old)) in
    let both : at + (length a + length b) ≡ at + length (a ++ b) = ap (λ (n : ℕ). at + n) (sym (length-append a b)) in
    let left : drop (next + length b) one ≡ drop (at + length (a ++ b)) old =
    ap (drop (next + length b)) is
    ∙ (ap (λ (n : ℕ). drop (n + length b) (front ++ drop (at + length a) old)) (first.place ∙ sym long)
    ∙ (drop-append-add front (drop (at + length a) old) (length b)
    ∙ (drop-drop (length b) (at + length a) old ∙ ap (λ (n : ℕ). drop n old) (omega (arith, both))))) in
    record {
      written =
          second.written
          ∙ (ap (λ (xs : List ℕ). xs ++ b ++ drop (next + length b) one) kept
          ∙ (ap (λ (xs : List ℕ). front ++ b ++ xs) left
          ∙ ap (λ (xs : List ℕ). xs ++ drop (at + length (a ++ b)) old) (append_assoc (take at old) a b)));
      place = second.place ∙ (ap (λ (n : ℕ). n + length b) first.place ∙ omega (arith, both));
    }

-- nothing written behind a write
pub wrote_end : {old new : List ℕ} {at next : ℕ} {a : List ℕ} → Wrote old at a new next → Wrote old at (a ++ []) new next
wrote_end {old = old} {new = new} {at = at} {next = next} {a = a} w = subst (λ (xs : List ℕ). Wrote old at xs new next) (sym (append-nil a)) w

-- what was written at the front, and what stands behind it
pub wrote_front : {old new bytes : List ℕ} {next : ℕ} → Wrote old 0 bytes new next → new ≡ bytes ++ drop (length bytes) old
wrote_front {old = old} {bytes = bytes} w = w.written ∙ ap (λ (n : ℕ). bytes ++ drop n old) (omega arith)
