-- A text at the front of 64 bytes.
use Rattle.std.specs.Prelude.{◌≡◌, ℕ, ◌-◌, ◌≤◌, List, ◌++◌, length, take, replicate}
use Rattle.std.proofs.Common.{sym, ap, ◌∙◌, arith}
use Rattle.std.proofs.lemmas.List.{length-take-le}
use Rattle.sg_index.specs.declared.text.Text.TheInside.{Inside}

abbrev pub text_of : Inside → List ℕ
text_of t = take t.len t.bytes

pub record IsPadded (t : Inside) : Type 0 where
  pub short : t.len ≤ 64
  pub full : length t.bytes ≡ 64
  pub padded : t.bytes ≡ take t.len t.bytes ++ replicate (64 - t.len) 0

abbrev pub inside_of : List ℕ → Inside
inside_of text = record { bytes = text ++ replicate (64 - length text) 0; len = length text }

pub text_back : (t : Inside) → IsPadded t → inside_of (text_of t) ≡ t
text_back t h =
    let long : t.len ≤ length t.bytes = omega (arith, h.short, h.full) in
    let e : length (take t.len t.bytes) ≡ t.len = length-take-le t.len t.bytes long in
    let with_len : ℕ → Inside = λ k. record { bytes = text_of t ++ replicate (64 - k) 0; len = k } in
    let with_bytes : List ℕ → Inside = λ b. record { bytes = b; len = t.len } in
    ap with_len e ∙ ap with_bytes (sym h.padded)
