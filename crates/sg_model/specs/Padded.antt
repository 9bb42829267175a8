-- The bytes of a key at the front of 128 bytes.
use Rattle.std.specs.Prelude.{◌≡◌, ℕ, ◌-◌, ◌≤◌, List, ◌++◌, length, take, replicate}
use Rattle.std.specs.Bool.{IsTrue}
use Rattle.std.proofs.Common.{sym, ap, ◌∙◌, arith}
use Rattle.std.proofs.lemmas.List.{length-take-le}
use Rattle.sg_model.specs.declared.key.Key.TheInside.{Inside}
use Rattle.sg_model.specs.Keys.{is_table_key}

abbrev pub bytes_of : Inside → List ℕ
bytes_of k = take k.len k.bytes

pub record IsPadded (k : Inside) : Type 0 where
  pub short : k.len ≤ 128
  pub full : length k.bytes ≡ 128
  pub padded : k.bytes ≡ take k.len k.bytes ++ replicate (128 - k.len) 0
  pub key : IsTrue (is_table_key (take k.len k.bytes))

abbrev pub inside_of : List ℕ → Inside
inside_of bytes = record { bytes = bytes ++ replicate (128 - length bytes) 0; len = length bytes }

pub bytes_back : (k : Inside) → IsPadded k → inside_of (bytes_of k) ≡ k
bytes_back k h =
    let long : k.len ≤ length k.bytes = omega (arith, h.short, h.full) in
    let e : length (take k.len k.bytes) ≡ k.len = length-take-le k.len k.bytes long in
    let with_len : ℕ → Inside = λ n. record { bytes = bytes_of k ++ replicate (128 - n) 0; len = n } in
    let with_bytes : List ℕ → Inside = λ b. record { bytes = b; len = k.len } in
    ap with_len e ∙ ap with_bytes (sym h.padded)
