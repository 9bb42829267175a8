-- What is kept of bytes that are written one after another.
use Rattle.std.proofs.Common.{◌≡◌, ℕ, ◌+◌, ◌-◌, ◌<◌, ◌≤◌, min, Bool, true, false, nat_le, leb-true, List, ◌++◌, length, take, refl, sym, ap, ◌∙◌, arith}
use Rattle.std.proofs.Math.Seq.{take-append-add}
use Rattle.std.proofs.Math.Seq.{take_all}
use Rattle.std.proofs.lemmas.List.{length-take-le, take-append-le}
use Rattle.std.proofs.lemmas.Bool.Decides.{nat_tests}
use Rattle.sg_script.specs.Kept.{MOST_KEPT}

both : (k n : ℕ) (part : List ℕ) → n ≡ min k (length part) → take n part ≡ take k part
both k n part is = by_length (nat_le (length part) k) refl
  where
    by_length : (b : Bool) → nat_le (length part) k ≡ b → take n part ≡ take k part
    by_length true e =
        let le : length part ≤ k = leb-true (length part) k e in
        take_all n part (omega arith) ∙ sym (take_all k part le)
    by_length false e =
        let lt : k < length part = grind (arith, nat_tests, e) in
        let same : n ≡ k = omega arith in
        ap (λ (m : ℕ). take m part) same

-- a front with as much of a part as there is room for
pub kept_front : (old part : List ℕ) (len n : ℕ) → length old ≡ len → len ≤ MOST_KEPT → n ≡ min (MOST_KEPT - len) (length part) → old ++ take n part ≡ take MOST_KEPT (old ++ part)
kept_front old part len n long within is =
    let whole : length old + (MOST_KEPT - len) ≡ MOST_KEPT = omega arith in
    ap (λ (p : List ℕ). old ++ p) (both (MOST_KEPT - len) n part is) ∙ (sym (take-append-add old part (MOST_KEPT - len)) ∙ ap (λ (m : ℕ). take m (old ++ part)) whole)

-- what is kept of a front and a part is what is kept of all before and the part
pub kept_again : (m : ℕ) (held part : List ℕ) → take m (take m held ++ part) ≡ take m (held ++ part)
kept_again m held part = by_length (nat_le (length held) m) refl
  where
    by_length : (b : Bool) → nat_le (length held) m ≡ b → take m (take m held ++ part) ≡ take m (held ++ part)
    by_length true e =
        let le : length held ≤ m = leb-true (length held) m e in
        ap (λ (h : List ℕ). take m (h ++ part)) (take_all m held le)
    by_length false e =
        let lt : m < length held = grind (arith, nat_tests, e) in
        let long : length (take m held) ≡ m = length-take-le m held (omega arith) in
        take-append-le m (take m held) part (omega arith) ∙ (take_all m (take m held) (omega arith) ∙ sym (take-append-le m held part (omega arith)))
