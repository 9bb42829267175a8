-- Bytes that were written over, put back.
use Rattle.std.proofs.Common.{◌≡◌, ℕ, ◌+◌, ◌-◌, ◌≤◌, List, [], ◌∷◌, ◌++◌, length, take, drop, replicate, refl, sym, ap, ◌∙◌, arith, append_assoc, length-append, length-drop}
use Rattle.std.specs.Prelude.{min}
use Rattle.std.proofs.Math.Seq.{take-length, take-append_seam, take-append-add, drop-append-add}
use Rattle.std.proofs.lemmas.List.{take-append-drop, length-take, length-take-le, drop_all, length-replicate}
use Rattle.sg_serial.proofs.Lists.{append_nil}
use Rattle.sg_model.specs.Step.{overlaid, resized}

resized_behind : (front rest : List ℕ) (n : ℕ) → resized (length front + n) (front ++ rest) ≡ front ++ resized n rest
resized_behind front rest n =
    let more : (length front + n) - length (front ++ rest) ≡ n - length rest = omega (arith, length-append front rest) in
    ap (λ (xs : List ℕ). xs ++ replicate ((length front + n) - length (front ++ rest)) 0) (take-append-add front rest n)
    ∙ (ap (λ (m : ℕ). (front ++ take n rest) ++ replicate m 0) more ∙ append_assoc front (take n rest) (replicate (n - length rest) 0))

overlaid_behind : (front rest bytes : List ℕ) → overlaid (front ++ rest) (length front) bytes ≡ front ++ (bytes ++ drop (length bytes) rest)
overlaid_behind front rest bytes =
    ap (λ (xs : List ℕ). xs ++ (bytes ++ drop (length front + length bytes) (front ++ rest))) (take-append_seam front rest)
    ∙ ap (λ (xs : List ℕ). front ++ (bytes ++ xs)) (drop-append-add front rest (length bytes))

pub length_resized : (n : ℕ) (bytes : List ℕ) → length (resized n bytes) ≡ n
length_resized n bytes = length-append (take n bytes) (replicate (n - length bytes) 0) ∙ omega (arith, length-take n bytes, length-replicate {A = ℕ} (n - length bytes) 0)

-- bytes of the old length behind a front
behind : (front old new bytes : List ℕ) → overlaid (resized (length (front ++ old)) (front ++ new)) (length front) bytes ≡ front ++ (bytes ++ drop (length bytes) (resized (length old) new))
behind front old new bytes =
    ap (λ (n : ℕ). overlaid (resized n (front ++ new)) (length front) bytes) (length-append front old)
    ∙ (ap (λ (xs : List ℕ). overlaid xs (length front) bytes) (resized_behind front new (length old))
    ∙ overlaid_behind front (resized (length old) new) bytes)

kept_behind : (bytes old : List ℕ) → drop (length (take (length bytes) old)) (take (length old) (bytes ++ drop (length bytes) old)) ≡ drop (length bytes) old
kept_behind [] old = take-length old
kept_behind (x ∷ bytes) [] = refl
kept_behind (x ∷ bytes) (y ∷ old) = kept_behind bytes old

written_behind : (front old bytes : List ℕ) → overlaid (resized (length (front ++ old)) (front ++ (bytes ++ drop (length bytes) old))) (length front) (take (length bytes) old) ≡ front ++ old
written_behind front old bytes =
    let new : List ℕ = bytes ++ drop (length bytes) old in
    let none : length old - length new ≡ 0 = omega (arith, length-append bytes (drop (length bytes) old), length-drop (length bytes) old) in
    let same : resized (length old) new ≡ take (length old) new = ap (λ (n : ℕ). take (length old) new ++ replicate n 0) none ∙ append_nil (take (length old) new) in
    behind front old new (take (length bytes) old)
    ∙ (ap (λ (xs : List ℕ). front ++ (take (length bytes) old ++ drop (length (take (length bytes) old)) xs)) same
    ∙ (ap (λ (xs : List ℕ). front ++ (take (length bytes) old ++ xs)) (kept_behind bytes old)
    ∙ ap (λ (xs : List ℕ). front ++ xs) (take-append-drop (length bytes) old)))

-- what was written over from a position on is put back
pub written_back : (blob : List ℕ) (at : ℕ) (bytes : List ℕ) → at ≤ length blob → overlaid (resized (length blob) (overlaid blob at bytes)) at (take (length bytes) (drop at blob)) ≡ blob
written_back blob at bytes h =
    let front : List ℕ = take at blob in
    let old : List ℕ = drop at blob in
    let whole : front ++ old ≡ blob = take-append-drop at blob in
    let at_is : length front ≡ at = length-take-le at blob h in
    let rest : drop (at + length bytes) blob ≡ drop (length bytes) old = ap (λ (xs : List ℕ). drop (at + length bytes) xs) (sym whole) ∙ (ap (λ (n : ℕ). drop (n + length bytes) (front ++ old)) (sym at_is) ∙ drop-append-add front old (length bytes)) in
    ap (λ (xs : List ℕ). overlaid (resized (length blob) (front ++ (bytes ++ xs))) at (take (length bytes) old)) rest
    ∙ (ap (λ (xs : List ℕ). overlaid (resized (length xs) (front ++ (bytes ++ drop (length bytes) old))) at (take (length bytes) old)) (sym whole)
    ∙ (ap (λ (n : ℕ). overlaid (resized (length (front ++ old)) (front ++ (bytes ++ drop (length bytes) old))) n (take (length bytes) old)) (sym at_is)
    ∙ (written_behind front old bytes ∙ whole)))

-- and so is what was cut off, or the old length
pub resized_back : (blob : List ℕ) (n : ℕ) → overlaid (resized (length blob) (resized n blob)) (min n (length blob)) (drop n blob) ≡ blob
resized_back blob n =
    let front : List ℕ = take n blob in
    let old : List ℕ = drop n blob in
    let new : List ℕ = replicate (n - length blob) 0 in
    let whole : front ++ old ≡ blob = take-append-drop n blob in
    let none : drop (length old) (resized (length old) new) ≡ [] = drop_all (length old) (resized (length old) new) (omega (arith, length_resized (length old) new)) in
    ap (λ (xs : List ℕ). overlaid (resized (length xs) (front ++ new)) (min n (length blob)) old) (sym whole)
    ∙ (ap (λ (m : ℕ). overlaid (resized (length (front ++ old)) (front ++ new)) m old) (sym (length-take n blob))
    ∙ (behind front old new old ∙ (ap (λ (xs : List ℕ). front ++ (old ++ xs)) none ∙ (ap (λ (xs : List ℕ). front ++ xs) (append_nil old) ∙ whole))))
