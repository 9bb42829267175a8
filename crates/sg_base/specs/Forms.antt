-- How values are spelled in bytes, one field behind another, and how they are read again.
use Rattle.std.specs.Prelude.{◌≡◌, ℕ, ◌^◌, ◌<◌, nat_le, ◌==◌, if◌then◌else◌, List, ◌++◌, length, take, drop, Option, Some, None}
use Rattle.byteorder.specs.Endian.{little_bytes, little_number}
use Rattle.sg_base.specs.Bytes.{IsBytes}

-- A form of values: the bytes of a value, which values have such bytes, and the value at the front of some bytes, with
-- what stands behind it.
pub record Form (A : Type 0) : Type 1 where
  pub spell : A → List ℕ
  pub Fits : A → Type 0
  pub read : List ℕ → Option (A × List ℕ)

-- Bytes and values are told from each other both ways: what was spelled is read back, whatever stands behind it, and
-- only what was spelled is read.
pub record IsExact {A : Type 0} (f : Form A) : Type 0 where
  pub back : (a : A) (rest : List ℕ) → f.Fits a → f.read (f.spell a ++ rest) ≡ Some (a, rest)
  pub only : (bytes : List ℕ) (a : A) (rest : List ℕ) → IsBytes bytes → f.read bytes ≡ Some (a, rest) → f.Fits a × (bytes ≡ f.spell a ++ rest)

-- what a second reader makes of the value that a first one read, and of the bytes behind it
abbrev pub read_on : {A B : Type 0} → Option (A × List ℕ) → (A → List ℕ → Option B) → Option B
read_on None next = None
read_on (Some p) next = next p.0 p.1

unfoldable pub read_number : (size : ℕ) → List ℕ → Option (ℕ × List ℕ)
read_number size bytes = if nat_le size (length bytes) then Some (little_number size bytes, drop size bytes) else None

unfoldable pub read_text : (size : ℕ) → List ℕ → Option (List ℕ × List ℕ)
read_text size bytes = if nat_le size (length bytes) then Some (take size bytes, drop size bytes) else None

-- a number in so many bytes, the least first
abbrev pub number : ℕ → Form ℕ
number size = record { spell = little_bytes size; Fits = λ n. n < 256 ^ size; read = read_number size }

-- a text of so many bytes
abbrev pub text : ℕ → Form (List ℕ)
text size = record { spell = λ bytes. bytes; Fits = λ bytes. length bytes ≡ size; read = read_text size }

-- a value and behind it another one, whose form follows from the first
abbrev pub followed : {A B : Type 0} → Form A → (A → Form B) → Form (A × B)
followed f g = record {
  spell = λ p. f.spell p.0 ++ (g p.0).spell p.1;
  Fits = λ p. f.Fits p.0 × (g p.0).Fits p.1;
  read = λ bytes. read_on (f.read bytes) (λ a bytes. read_on ((g a).read bytes) (λ b rest. Some ((a, b), rest)));
}

-- one value behind another
abbrev pub pair : {A B : Type 0} → Form A → Form B → Form (A × B)
pair f g = followed f (λ a. g)

-- the same bytes for other values: a value of the one kind stands for one of the other
abbrev pub mapped : {A B : Type 0} → (A → B) → (B → A) → Form A → Form B
mapped to from f = record {
  spell = λ b. f.spell (from b);
  Fits = λ b. f.Fits (from b);
  read = λ bytes. read_on (f.read bytes) (λ a rest. Some (to a, rest));
}

-- a text behind its length, a number of so many bytes
abbrev pub counted : (size : ℕ) → Form (List ℕ)
counted size = mapped (λ p. p.1) (λ bytes. (length bytes, bytes)) (followed (number size) text)

-- two texts behind both their lengths, numbers of so many bytes
abbrev pub two_counted : (size : ℕ) → Form (List ℕ × List ℕ)
two_counted size = mapped (λ p. p.1) (λ p. ((length p.0, length p.1), p)) (followed (pair (number size) (number size)) (λ n. pair (text n.0) (text n.1)))

-- the value that was read, where it is all that there was
abbrev pub ended : {A : Type 0} → A → List ℕ → Option A
ended a rest = if length rest == 0 then Some a else None

-- the value whose spelling some bytes are
abbrev pub read_all : {A : Type 0} → Form A → List ℕ → Option A
read_all f bytes = read_on (f.read bytes) ended
