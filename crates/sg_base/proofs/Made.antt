-- A text with zeros behind it.
use Rattle.std.proofs.Common.{◌≡◌, ℕ, suc, ◌+◌, ◌-◌, ◌<◌, ◌≤◌, List, [], ◌∷◌, ◌++◌, length, take, replicate, slice_set, sym, ap, ◌∙◌, arith}
use Rattle.std.proofs.Math.Seq.{set-append_seam}
use Rattle.std.proofs.lemmas.List.{length-take-le, append_assoc}

-- one byte more of a text, before the zeros behind it
pub byte_more : (text bytes : List ℕ) (i x : ℕ) → bytes ≡ take i text ++ replicate (32 - i) 0 → i < length text → length text ≤ 32 → take (i + 1) text ≡ take i text ++ x ∷ [] → slice_set bytes i x ≡ take (i + 1) text ++ replicate (32 - (i + 1)) 0
byte_more text bytes i x is inside short more =
    let rest : List ℕ = replicate (32 - (i + 1)) 0 in
    let long : length (take i text) ≡ i = length-take-le i text (omega (arith, inside)) in
    let next : 32 - i ≡ suc (32 - (i + 1)) = omega (arith, inside, short) in
    ap (λ (bs : List ℕ). slice_set bs i x) is
    ∙ (ap (λ (k : ℕ). slice_set (take i text ++ replicate k 0) i x) next
    ∙ (ap (λ (k : ℕ). slice_set (take i text ++ 0 ∷ rest) k x) (sym long)
    ∙ (set-append_seam (take i text) 0 rest x
    ∙ (sym (append_assoc (take i text) (x ∷ []) rest)
    ∙ ap (λ (front : List ℕ). front ++ rest) (sym more)))))
