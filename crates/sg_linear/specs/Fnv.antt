-- FNV-1a of 64 bits.
use Rattle.std.specs.Prelude.{ℕ, ◌*◌, ◌%◌, ◌^◌, List, fold, bit_xor}

-- where it starts: the offset basis
abbrev pub basis : ℕ
basis = 14695981039346656037

-- one byte: exclusive or, and then a product with the prime, of which the low 64 bits stay
abbrev pub with_byte : ℕ → ℕ → ℕ
with_byte hash byte = (bit_xor hash byte * 1099511628211) % 2 ^ 64

-- the hash of a text: its bytes one after another, from the basis on
abbrev pub fnv_1a : List ℕ → ℕ
fnv_1a text = fold with_byte basis text
