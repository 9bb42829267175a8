-- Hexadecimal digits, read into room for half as many bytes.
use Rattle.std.proofs.Common.{◌≡◌, ℕ, ◌==◌, ◌/◌, ◌%◌, true, cond, List, length, Some, None, Result, Ok, Err, MatchResult, refl, ap, subst, arith}
use Rattle.std.proofs.lemmas.Bool.Decides.{nat_tests}
use Rattle.hex.specs.Hex.{decode_of, decode_sized, decode_pairs}
use Rattle.hex.specs.declared.error.FromHexError.{FromHexError}
use Rattle.hex.specs.declared.error.FromHexError.TheVariants.{OddLength, InvalidStringLength}
use Rattle.sg_words.specs.Parse.{if_decoded}

same_number : (n : ℕ) → (n == n) ≡ true
same_number n = grind (arith, nat_tests)

sized : (text : List ℕ) → decode_sized text (length text / 2) ≡ decode_of text
sized text = ap (λ b. cond (length text % 2 == 1) (Err OddLength) (cond b (decode_pairs 0 text) (Err InvalidStringLength))) (same_number (length text / 2))

pub decoded : (text out : List ℕ) (result : Result (Unit {0}) FromHexError) → MatchResult (decode_sized text (length text / 2)) (λ bytes. (result ≡ Ok tt) × (out ≡ bytes)) (λ e. result ≡ Err e) → MatchResult result (λ u. Some out ≡ if_decoded (decode_of text)) (λ e. None ≡ if_decoded (decode_of text))
decoded text out result h = by_cases (decode_of text) result (subst (λ (r : Result (List ℕ) FromHexError). MatchResult r (λ bytes. (result ≡ Ok tt) × (out ≡ bytes)) (λ e. result ≡ Err e)) (sized text) h)
  where
    by_cases : (d : Result (List ℕ) FromHexError) (result : Result (Unit {0}) FromHexError) → MatchResult d (λ bytes. (result ≡ Ok tt) × (out ≡ bytes)) (λ e. result ≡ Err e) → MatchResult result (λ u. Some out ≡ if_decoded d) (λ e. None ≡ if_decoded d)
    by_cases (Ok bytes) (Ok u) h = ap Some h.1
    by_cases (Ok bytes) (Err e) h = absurd (cc (h.0))
    by_cases (Err e) (Ok u) h = absurd (cc (h))
    by_cases (Err e) (Err f) h = refl
