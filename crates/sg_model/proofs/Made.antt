-- Bytes with zeros after them are a key.
use Rattle.std.proofs.Common.{◌≡◌, ℕ, ◌-◌, ◌≤◌, true, List, ◌++◌, length, take, drop, replicate, sym, ap, ◌∙◌, arith, length-append}
use Rattle.std.proofs.Math.Seq.{take-append_seam}
use Rattle.std.proofs.Math.ListN.{length-replicate}
use Rattle.std.proofs.lemmas.List.{drop-replicate}
use Rattle.std.proofs.lemmas.Bool.Decides.{nat_tests}
use Rattle.sg_model.specs.Keys.{is_table_key}
use Rattle.sg_model.specs.Padded.{IsPadded}

pub short_key : (bytes : List ℕ) → is_table_key bytes ≡ true → length bytes ≤ 128
short_key bytes h = grind (arith, nat_tests)

pub made : (front bytes : List ℕ) → front ≡ bytes → is_table_key bytes ≡ true → IsPadded record { bytes = front ++ drop (length bytes) (replicate 128 0); len = length bytes }
made front bytes same key =
    let rest : drop (length bytes) (replicate 128 0) ≡ replicate (128 - length bytes) 0 = drop-replicate (length bytes) 128 0 in
    let short : length bytes ≤ 128 = short_key bytes key in
    let whole : front ++ drop (length bytes) (replicate 128 0) ≡ bytes ++ replicate (128 - length bytes) 0 = ap (λ (xs : List ℕ). xs ++ drop (length bytes) (replicate 128 0)) same ∙ ap (λ (xs : List ℕ). bytes ++ xs) rest in
    let taken : take (length bytes) (front ++ drop (length bytes) (replicate 128 0)) ≡ bytes = ap (take (length bytes)) whole ∙ take-append_seam bytes (replicate (128 - length bytes) 0) in
    record {
      short = short;
      full = ap length whole ∙ (length-append bytes (replicate (128 - length bytes) 0) ∙ omega (arith, length-replicate {A = ℕ} (128 - length bytes) 0));
      padded = whole ∙ ap (λ (xs : List ℕ). xs ++ replicate (128 - length bytes) 0) (sym taken);
      key = ap is_table_key taken ∙ key;
    }
