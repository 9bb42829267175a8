-- Elements of lists of bytes.
use Rattle.std.proofs.Common.{ℕ, ◌<◌, zero, suc, List, [], ◌∷◌, slice_index, arith}
use Rattle.sg_base.specs.Bytes.{IsBytes}

-- an element is a byte, also past the end
pub byte_at : (xs : List ℕ) (k : ℕ) → IsBytes xs → slice_index xs k < 256
byte_at [] k bytes = omega arith
byte_at (x ∷ xs) zero bytes = bytes 0 0 (omega arith)
byte_at (x ∷ xs) (suc k) bytes = byte_at xs k (λ i d h. bytes (suc i) d (omega (arith, h)))
