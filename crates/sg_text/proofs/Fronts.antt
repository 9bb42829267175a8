-- What is written behind the front of a buffer makes the front longer.
use Rattle.std.proofs.Common.{◌≡◌, ℕ, ◌+◌, ◌≤◌, List, ◌++◌, length, take, sym, ap, ◌∙◌, subst, length-append}
use Rattle.std.proofs.Math.Seq.{take-append_seam}
use Rattle.std.proofs.lemmas.List.{length-take-le}

-- the buffer as a write of a part leaves it: what stood before the part, the text, and what stood behind the part
pub appended : (at stop : ℕ) (bytes text rest : List ℕ) → at ≤ length bytes → stop ≡ at + length text → take stop ((take at bytes ++ text) ++ rest) ≡ take at bytes ++ text
appended at stop bytes text rest h e =
    let front : length (take at bytes) ≡ at = length-take-le at bytes h in
    let len : length (take at bytes ++ text) ≡ stop = length-append (take at bytes) text ∙ (ap (λ n. n + length text) front ∙ sym e) in
    subst (λ (n : ℕ). take n ((take at bytes ++ text) ++ rest) ≡ take at bytes ++ text) len (take-append_seam (take at bytes ++ text) rest)
