-- The bytes of a note say it.
use Rattle.std.proofs.Common.{◌≡◌, ℕ, ◌+◌, ◌-◌, ◌<◌, ◌≤◌, ◌^◌, ◌%◌, ◌&&◌, Bool, true, false, List, [], ◌∷◌, ◌++◌, length, take, drop, refl, sym, ap, ◌∙◌, subst, arith, length-append}
use Rattle.std.specs.Prelude.{nat_le, slice_index}
use Rattle.std.specs.List.{list_all}
use Rattle.std.proofs.lemmas.List.{append_assoc, length-drop}
use Rattle.std.proofs.lemmas.Bool.Decides.{nat_tests}
use Rattle.std.proofs.Math.Nat.{mod-eq_of_lt}
use Rattle.byteorder.specs.Endian.{little_bytes, little_number}
use Rattle.byteorder.specs.Numbers.{little_number-reads_back}
use Rattle.sg_base.specs.Spelling.{is_name, is_letter, is_name_byte}
use Rattle.sg_reading.specs.Back.{Undoing}
use Rattle.sg_reading.specs.Back.Undoing.{WasNothing, WasMake, WasDrop, WasPush, WasPop, WasSet, WasApply, WasPut, WasOver, WasBytes}
use Rattle.sg_objects.specs.Notes.{head_bytes, note_bytes, byte_at, over_said, undoing_said, least_rest, rest_said, is_whole, AreFields, IsNote}

taken : (xs ys : List ℕ) → take (length xs) (xs ++ ys) ≡ xs
taken [] ys = refl
taken (x ∷ xs) ys = ap (λ zs. x ∷ zs) (taken xs ys)

left : (xs ys : List ℕ) → drop (length xs) (xs ++ ys) ≡ ys
left [] ys = refl
left (x ∷ xs) ys = left xs ys

nil : (xs : List ℕ) → xs ++ [] ≡ xs
nil [] = refl
nil (x ∷ xs) = ap (λ zs. x ∷ zs) (nil xs)

one_byte : (n : ℕ) → n < 256 → n % 256 ≡ n
one_byte n h = mod-eq_of_lt h

-- a name is short
first_true : (a b : Bool) → (a && b) ≡ true → a ≡ true
first_true true b e = refl
first_true false b e = cc

pub name_short : (name : List ℕ) → is_name name ≡ true → length name < 256
name_short name e = let few : nat_le (length name) 32 ≡ true = first_true (nat_le (length name) 32) (is_letter (slice_index name 0)) (first_true (nat_le (length name) 32 && is_letter (slice_index name 0)) (list_all is_name_byte name) e) in (let le : length name ≤ 32 = grind (arith, nat_tests, few) in omega (arith, le))

-- A NOTE IN ITS PARTS: the code, and what stands behind the name
abbrev pub code_of : Undoing → ℕ
code_of WasNothing = 0
code_of WasMake = 1
code_of (WasDrop root) = 2
code_of WasPush = 3
code_of (WasPop item) = 4
code_of (WasSet index item) = 5
code_of (WasApply index code arg) = 6
code_of (WasPut key) = 7
code_of (WasOver key value) = 8
code_of (WasBytes size) = 9

abbrev pub rest_of : Undoing → List ℕ
rest_of (WasDrop root) = little_bytes 4 root
rest_of (WasPop item) = item
rest_of (WasSet index item) = little_bytes 4 index ++ item
rest_of (WasApply index code arg) = little_bytes 4 index ++ (little_bytes 2 code ++ arg)
rest_of (WasPut key) = key
rest_of (WasOver key value) = little_bytes 1 (length key) ++ (key ++ value)
rest_of (WasBytes size) = little_bytes 4 size
rest_of other = []

parted : (name : List ℕ) (u : Undoing) → AreFields u → note_bytes name u ≡ head_bytes (code_of u) name ++ rest_of u
parted name WasNothing f = absurd f
parted name WasMake f = sym (nil (head_bytes 1 name))
parted name (WasDrop root) f = refl
parted name WasPush f = sym (nil (head_bytes 3 name))
parted name (WasPop item) f = refl
parted name (WasSet index item) f = append_assoc (head_bytes 5 name) (little_bytes 4 index) item
parted name (WasApply index code arg) f = append_assoc (head_bytes 6 name ++ little_bytes 4 index) (little_bytes 2 code) arg ∙ append_assoc (head_bytes 6 name) (little_bytes 4 index) (little_bytes 2 code ++ arg)
parted name (WasPut key) f = refl
parted name (WasOver key value) f = append_assoc (head_bytes 8 name ++ little_bytes 1 (length key)) key value ∙ append_assoc (head_bytes 8 name) (little_bytes 1 (length key)) (key ++ value)
parted name (WasBytes size) f = refl

small_code : (u : Undoing) → code_of u < 256
small_code WasNothing = omega arith
small_code WasMake = omega arith
small_code (WasDrop root) = omega arith
small_code WasPush = omega arith
small_code (WasPop item) = omega arith
small_code (WasSet index item) = omega arith
small_code (WasApply index code arg) = omega arith
small_code (WasPut key) = omega arith
small_code (WasOver key value) = omega arith
small_code (WasBytes size) = omega arith

-- the parts, as they are read
pub record HasParts (bytes name : List ℕ) (u : Undoing) : Type 0 where
  pub long : 2 ≤ length bytes
  pub code : byte_at bytes 0 ≡ code_of u
  pub size : byte_at bytes 1 ≡ length name
  pub behind : drop 2 bytes ≡ name ++ rest_of u

pub parts : {bytes name : List ℕ} {u : Undoing} → IsNote bytes name u → HasParts bytes name u
parts {bytes} {name} {u} n =
    let all = n.is ∙ parted name u n.fields in
    let short = one_byte (length name) (name_short name n.named) in
    record {
      long = (let len = ap (λ (xs : List ℕ). length xs) all in omega (arith, len));
      code = ap (λ (xs : List ℕ). byte_at xs 0) all ∙ one_byte (code_of u) (small_code u);
      size = ap (λ (xs : List ℕ). byte_at xs 1) all ∙ short;
      behind = ap (λ (xs : List ℕ). drop 2 xs) all;
    }

-- the name, and what stands behind it
pub name_read : {bytes name : List ℕ} {u : Undoing} → HasParts bytes name u → take (byte_at bytes 1) (drop 2 bytes) ≡ name
name_read {name = name} {u = u} p = (λ i. take (p.size i) (p.behind i)) ∙ taken name (rest_of u)

pub rest_read : {bytes name : List ℕ} {u : Undoing} → HasParts bytes name u → drop (byte_at bytes 1) (drop 2 bytes) ≡ rest_of u
rest_read {name = name} {u = u} p = (λ i. drop (p.size i) (p.behind i)) ∙ left name (rest_of u)

pub fits_behind : {bytes name : List ℕ} {u : Undoing} → HasParts bytes name u → byte_at bytes 1 ≤ length (drop 2 bytes)
fits_behind {bytes} {name} {u} p =
    let size = p.size in
    let long : length (drop 2 bytes) ≡ length name + length (rest_of u) = ap (λ (xs : List ℕ). length xs) p.behind ∙ length-append name (rest_of u) in
    omega (arith, size, long)

number : (n : ℕ) (rest : List ℕ) → n < 2 ^ 32 → little_number 4 (little_bytes 4 n ++ rest) ≡ n
number n rest h = little_number-reads_back 4 n rest h

over : (key value : List ℕ) → length key < 256 → over_said (little_bytes 1 (length key) ++ (key ++ value)) ≡ WasOver key value
over key value short = ap (λ n. WasOver (take n (key ++ value)) (drop n (key ++ value))) (one_byte (length key) short) ∙ (λ i. WasOver (taken key value i) (left key value i))

-- what it says
pub said : (u : Undoing) → AreFields u → undoing_said (code_of u) (rest_of u) ≡ u
said WasNothing f = absurd f
said WasMake f = refl
said (WasDrop root) f = ap WasDrop (ap (little_number 4) (sym (nil (little_bytes 4 root))) ∙ number root [] f)
said WasPush f = refl
said (WasPop item) f = refl
said (WasSet index item) f = ap (λ n. WasSet n item) (number index item f)
said (WasApply index code arg) f = λ i. WasApply (number index (little_bytes 2 code ++ arg) f.0 i) (little_number-reads_back 2 code arg f.1 i) arg
said (WasPut key) f = refl
said (WasOver key value) f = over key value f
said (WasBytes size) f = ap WasBytes (ap (little_number 4) (sym (nil (little_bytes 4 size))) ∙ number size [] f)

-- all notes but those of bytes
abbrev pub IsPlainNote : Undoing → Type 0
IsPlainNote (WasBytes size) = ⊥
IsPlainNote other = Unit {0}

-- ALL OF IT IS THERE
least_is : (u : Undoing) → AreFields u → least_rest (code_of u) (rest_of u) ≤ length (rest_of u)
least_is WasNothing f = absurd f
least_is WasMake f = omega arith
least_is (WasDrop root) f = omega arith
least_is WasPush f = omega arith
least_is (WasPop item) f = omega arith
least_is (WasSet index item) f = omega arith
least_is (WasApply index code arg) f = omega arith
least_is (WasPut key) f = omega arith
least_is (WasOver key value) f = let short = one_byte (length key) f in let long = length-append key value in omega (arith, short, long)
least_is (WasBytes size) f = omega arith

both_true : (a b : Bool) → a ≡ true → b ≡ true → (a && b) ≡ true
both_true true b e f = f
both_true false b e f = absurd (cc)

pub whole_said : {bytes name : List ℕ} {u : Undoing} → IsNote bytes name u → is_whole bytes ≡ true
whole_said {bytes} {name} {u} n =
    let p = parts n in
    let fits = fits_behind p in
    let behind : length (drop 2 bytes) ≡ length bytes - 2 = length-drop 2 bytes in
    let long = p.long in
    let first : 2 + byte_at bytes 1 ≤ length bytes = omega (arith, fits, behind, long) in
    let rest = rest_read p in
    let second : least_rest (byte_at bytes 0) (rest_said bytes) ≤ length (rest_said bytes) =
    subst (λ (xs : List ℕ). least_rest (byte_at bytes 0) xs ≤ length xs) (sym rest)
    (subst (λ (c : ℕ). least_rest c (rest_of u) ≤ length (rest_of u)) (sym p.code) (least_is u n.fields)) in
    both_true (nat_le (2 + byte_at bytes 1) (length bytes)) (nat_le (least_rest (byte_at bytes 0) (rest_said bytes)) (length (rest_said bytes)))
    (grind (arith, nat_tests, first)) (grind (arith, nat_tests, second))
