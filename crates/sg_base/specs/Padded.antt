-- A text at the front of 32 bytes.
use Rattle.std.specs.Prelude.{◌≡◌, ℕ, ◌-◌, ◌≤◌, List, ◌++◌, length, take, replicate}
use Rattle.std.proofs.Common.{sym, ap, ◌∙◌, arith}
use Rattle.std.proofs.lemmas.List.{length-take-le}
use Rattle.sg_base.specs.declared.name.Name.TheInside.{Inside}
use Rattle.sg_base.specs.Spelling.{is_name}
use Rattle.std.specs.Bool.{IsTrue}

abbrev pub text_of : Inside → List ℕ
text_of n = take n.len n.bytes

pub record IsPadded (n : Inside) : Type 0 where
  pub short : n.len ≤ 32
  pub full : length n.bytes ≡ 32
  pub padded : n.bytes ≡ take n.len n.bytes ++ replicate (32 - n.len) 0
  pub name : IsTrue (is_name (take n.len n.bytes))

abbrev pub inside_of : List ℕ → Inside
inside_of text = record { bytes = text ++ replicate (32 - length text) 0; len = length text }

pub text_back : (n : Inside) → IsPadded n → inside_of (text_of n) ≡ n
text_back n h =
    let long : n.len ≤ length n.bytes = omega (arith, h.short, h.full) in
    let e : length (take n.len n.bytes) ≡ n.len = length-take-le n.len n.bytes long in
    let with_len : ℕ → Inside = λ k. record { bytes = text_of n ++ replicate (32 - k) 0; len = k } in
    let with_bytes : List ℕ → Inside = λ b. record { bytes = b; len = n.len } in
    ap with_len e ∙ ap with_bytes (sym h.padded)
