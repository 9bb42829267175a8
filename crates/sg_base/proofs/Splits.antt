-- A field taken off the front of some bytes.
use Rattle.std.proofs.Common.{refl, ◌≡◌, ℕ, ◌-◌, ◌<◌, ◌≤◌, true, false, nat_le, List, length, take, drop, Some, None, sym, ap, ◌∙◌, arith, length-drop}
use Rattle.std.proofs.Math.Seq.{take-length}
use Rattle.std.proofs.lemmas.Bool.Decides.{nat_tests}
use Rattle.byteorder.specs.Endian.{little_number}
use Rattle.sg_base.specs.Forms.{read_number, read_text}

-- what stands behind the first bytes, as a slice of them all
behind : (size : ℕ) (bytes : List ℕ) → take (length bytes - size) (drop size bytes) ≡ drop size bytes
behind size bytes = ap (λ (n : ℕ). take n (drop size bytes)) (sym (length-drop size bytes)) ∙ take-length (drop size bytes)

pub number_none : (size : ℕ) (bytes : List ℕ) → length bytes < size → None ≡ read_number size bytes
unfolding read_number
number_none size bytes short = let no : nat_le size (length bytes) ≡ false = grind (arith, nat_tests, short) in rw no refl

pub number_some : (size n : ℕ) (bytes : List ℕ) → size ≤ length bytes → n ≡ little_number size bytes → Some (n, take (length bytes - size) (drop size bytes)) ≡ read_number size bytes
unfolding read_number
number_some size n bytes enough is = let yes : nat_le size (length bytes) ≡ true = grind (arith, nat_tests, enough) in rw (yes, is, behind size bytes) refl

pub text_none : (size : ℕ) (bytes : List ℕ) → length bytes < size → None ≡ read_text size bytes
unfolding read_text
text_none size bytes short = let no : nat_le size (length bytes) ≡ false = grind (arith, nat_tests, short) in rw no refl

pub text_some : (size : ℕ) (bytes : List ℕ) → size ≤ length bytes → Some (take size bytes, take (length bytes - size) (drop size bytes)) ≡ read_text size bytes
unfolding read_text
text_some size bytes enough = let yes : nat_le size (length bytes) ≡ true = grind (arith, nat_tests, enough) in rw (yes, behind size bytes) refl
