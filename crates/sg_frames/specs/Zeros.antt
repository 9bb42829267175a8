-- Bytes that are all 0.
use Rattle.std.specs.Prelude.{◌≡◌, ℕ, List, length, All}

-- so many bytes, each 0
pub record AreZeros (size : ℕ) (bytes : List ℕ) : Type 0 where
  pub size_is : length bytes ≡ size
  pub zeros : All (λ x. x ≡ 0) bytes
