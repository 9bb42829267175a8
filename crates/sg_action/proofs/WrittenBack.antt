-- The bytes of a band before a write come back.
use Rattle.std.proofs.Common.{◌≡◌, ℕ, ◌+◌, ◌≤◌, List, ◌++◌, length, take, drop, sym, ap, ◌∙◌, arith}
use Rattle.std.proofs.lemmas.List.{take_at, drop_at, take-append-drop, length-take-le, length-drop, drop-drop, append_assoc}
use Rattle.sg_base.specs.Overwritten.{overwritten}
use Rattle.sg_action.specs.Opened.{StoodThere}

parts : (band bytes : List ℕ) (at : ℕ) → overwritten band at bytes ≡ take at band ++ (bytes ++ drop (at + length bytes) band)
parts band bytes at = append_assoc (take at band) bytes (drop (at + length bytes) band)

-- the bytes that stood there, written again, give the band back exactly
pub overwritten_back : (band after before : List ℕ) (at count : ℕ) → length after ≡ count → StoodThere band at count before → overwritten (overwritten band at after) at before ≡ band
overwritten_back band after before at count size h =
    let within : at + count ≤ length band = h.within in
    let front : length (take at band) ≡ at = length-take-le at band (omega arith) in
    let rest : length (drop at band) + at ≡ length band = omega (arith, length-drop at band) in
    let mid : length before ≡ count = ap length h.is ∙ length-take-le count (drop at band) (omega arith) in
    let tail : List ℕ = drop (at + length after) band in
    let first : take at (overwritten band at after) ≡ take at band = ap (take at) (parts band after at) ∙ take_at (take at band) (after ++ tail) at front in
    let gone : drop at (overwritten band at after) ≡ after ++ tail = ap (drop at) (parts band after at) ∙ drop_at (take at band) (after ++ tail) at front in
    let last : drop (at + length before) (overwritten band at after) ≡ tail =
    sym (drop-drop (length before) at (overwritten band at after)) ∙ (ap (drop (length before)) gone ∙ drop_at after tail (length before) (size ∙ sym mid)) in
    let same : tail ≡ drop count (drop at band) = ap (λ (n : ℕ). drop (at + n) band) size ∙ sym (drop-drop count at band) in
    parts (overwritten band at after) before at
    ∙ (ap (λ (xs : List ℕ). xs ++ (before ++ drop (at + length before) (overwritten band at after))) first
    ∙ (ap (λ (xs : List ℕ). take at band ++ (before ++ xs)) (last ∙ same)
    ∙ (ap (λ (xs : List ℕ). take at band ++ (xs ++ drop count (drop at band))) h.is
    ∙ (ap (λ (xs : List ℕ). take at band ++ xs) (take-append-drop count (drop at band)) ∙ take-append-drop at band))))
