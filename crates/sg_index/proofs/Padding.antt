-- A text written over the front of zeros.
use Rattle.std.proofs.Common.{◌≡◌, ℕ, ◌+◌, ◌-◌, ◌≤◌, List, ◌++◌, length, take, drop, replicate, sym, ap, ◌∙◌, arith, zero-add}
use Rattle.std.proofs.Math.Seq.{take-append_seam}
use Rattle.std.proofs.lemmas.List.{drop-replicate, length-replicate, length-append}
use Rattle.sg_base.specs.Overwritten.{Wrote}
use Rattle.sg_index.specs.Text.{IsPadded}

module _ (bytes text : List ℕ) (len : ℕ) (few : length text ≤ 64) (wrote : Wrote (replicate 64 0) 0 text bytes len) where
  left : drop (0 + length text) (replicate {A = ℕ} 64 0) ≡ replicate {A = ℕ} (64 - length text) 0
  left = ap (λ (k : ℕ). drop k (replicate {A = ℕ} 64 0)) (zero-add (length text)) ∙ drop-replicate {X = ℕ} (length text) 64 0

  whole : bytes ≡ text ++ replicate {A = ℕ} (64 - length text) 0
  whole = wrote.written ∙ ap (λ (zs : List ℕ). text ++ zs) left

  at : len ≡ length text
  at = wrote.place ∙ zero-add (length text)

  pub text_front : take len bytes ≡ text
  text_front = ap (take len) whole ∙ (ap (λ (k : ℕ). take k (text ++ replicate {A = ℕ} (64 - length text) 0)) at ∙ take-append_seam text (replicate {A = ℕ} (64 - length text) 0))

  pub padded_text : IsPadded (record { bytes = bytes; len = len })
  padded_text = record {
    short = omega (arith, at, few);
    full = ap length whole ∙ omega (arith, length-append text (replicate {A = ℕ} (64 - length text) 0), length-replicate {A = ℕ} (64 - length text) 0, few);
    padded = whole ∙ (ap (λ (xs : List ℕ). xs ++ replicate {A = ℕ} (64 - length text) 0) (sym text_front) ∙ ap (λ (k : ℕ). take len bytes ++ replicate {A = ℕ} (64 - k) 0) (sym at));
  }
