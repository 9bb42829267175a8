-- What pieces of a block own.
use Rattle.std.specs.Prelude.{refl, ℕ, List, length}
use Rattle.std.specs.Coded.{Coded, code_by, coded×, coded_ℕ}
use base.Fraction.{full_share}
use base.Fml.{Fml}
use denote.Builtin.{u8}
use denote.Array.{Array}
use denote.RawPtr.{Ptr, coded_ptr, lies_at}

-- where a block's bytes begin, and how many there are
pub record Extent : Type 0 where
  pub ptr : Ptr
  pub len : ℕ

-- it is stored as the pair of its fields
abbrev pub extent_code : Coded Extent
extent_code = code_by (Ptr × ℕ) (coded× coded_ptr coded_ℕ) (λ e. (e.ptr, e.len)) (λ p. record { ptr = p.0; len = p.1 }) (λ _. refl)

-- the bytes lie there
abbrev pub run_owns : Ptr → List ℕ → Fml
run_owns p bytes = lies_at (Array u8 (length bytes)) full_share p bytes
