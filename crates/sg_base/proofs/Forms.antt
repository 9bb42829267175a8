-- The laws of the forms.
use Rattle.std.proofs.Common.{◌≡◌, ℕ, ◌+◌, ◌*◌, ◌/◌, ◌%◌, ◌^◌, ◌<◌, ◌≤◌, zero, suc, true, nat_le, ◌==◌, List, [], ◌∷◌, ◌++◌, length, take, drop, Option, Some, None, refl, sym, ap, ◌∙◌, subst, arith, append_assoc, append-nil, length-append}
use Rattle.std.proofs.Math.Nat.{pow-succ', div-div-eq-div-mul, div-one}
use Rattle.std.proofs.Math.Seq.{take-append_seam, drop-append_seam}
use Rattle.std.proofs.lemmas.List.{take-append-drop, length-take-le, nil_from_length}
use Rattle.std.proofs.lemmas.List.Elements.{All-drop}
use Rattle.std.proofs.lemmas.Bool.Decides.{nat_tests}
use Rattle.std.proofs.lemmas.Option.{cond_some, same_Some}
use Rattle.std.specs.Int.{byte_at, bytes_low_first}
use Rattle.byteorder.specs.Endian.{little_from, little_bytes, little_number}
use Rattle.byteorder.specs.Numbers.{little_from-cons, little_from-lt, little_number-reads_back, length-bytes_low_first}
use Rattle.sg_base.specs.Bytes.{IsBytes}
use Rattle.sg_base.specs.Elements.{byte_at as byte_in}
use Rattle.sg_base.specs.Forms.{Form, IsExact, read_on, read_number, read_text, number, text, followed, pair, mapped, counted, two_counted, ended, read_all}

byte_at-pow : (k x : ℕ) → byte_at k x ≡ x / 256 ^ k % 256
byte_at-pow zero x = ap (λ (y : ℕ). y % 256) (sym (div-one x))
byte_at-pow (suc k) x = refl

-- byte i + 1 of a number is byte i of what is left of it without its least byte
byte_at-suc : (i x : ℕ) → byte_at (suc i) x ≡ byte_at i (x / 256)
byte_at-suc i x =
    let shift : x / 256 / 256 ^ i ≡ x / (256 * 256 ^ i) = div-div-eq-div-mul x 256 (256 ^ i) in
    ap (λ (p : ℕ). x / p % 256) (pow-succ' 256 i) ∙ (ap (λ (n : ℕ). n % 256) (sym shift) ∙ sym (byte_at-pow i (x / 256)))

low_first-suc : (i n x : ℕ) → bytes_low_first (suc i) n x ≡ bytes_low_first i n (x / 256)
low_first-suc i zero x = refl
low_first-suc i (suc n) x = let here = byte_at-suc i x in let rest = low_first-suc (suc i) n x in rw (here, rest) refl

-- the bytes of the number that some bytes spell
pub little_bytes-back : (n : ℕ) (xs : List ℕ) → IsBytes xs → n ≤ length xs → little_bytes n (little_number n xs) ≡ take n xs
little_bytes-back zero xs bytes long = refl
little_bytes-back (suc n) [] bytes long = absurd (omega arith)
little_bytes-back (suc n) (x ∷ xs) bytes long =
    let small : x < 256 = bytes 0 0 (omega arith) in
    let number : ℕ = x + 256 * little_from 0 n xs in
    let moved : little_from 1 n (x ∷ xs) ≡ little_from 0 n xs = little_from-cons 0 n x xs in
    let low : number % 256 ≡ x = omega arith in
    let high : number / 256 ≡ little_from 0 n xs = omega arith in
    let rest : bytes_low_first 0 n (little_from 0 n xs) ≡ take n xs = little_bytes-back n xs (λ k d h. bytes (suc k) d (omega arith)) (omega arith) in
    ap (λ (m : ℕ). bytes_low_first 0 (suc n) (x + 256 * m)) moved
    ∙ (ap (λ (b : ℕ). b ∷ bytes_low_first 1 n number) low
    ∙ ap (λ (bs : List ℕ). x ∷ bs) (low_first-suc 0 n number ∙ (ap (bytes_low_first 0 n) high ∙ rest)))

pub number_exact : (size : ℕ) → IsExact (number size)
unfolding read_number
number_exact size = record {
  back = λ n rest fits.
      let bytes : List ℕ = little_bytes size n in
      let long : length bytes ≡ size = length-bytes_low_first 0 size n in
      let enough : nat_le size (length (bytes ++ rest)) ≡ true = grind (arith, nat_tests, length-append bytes rest, long) in
      let value : little_number size (bytes ++ rest) ≡ n = little_number-reads_back size n rest fits in
      let behind : drop size (bytes ++ rest) ≡ rest = ap (λ (k : ℕ). drop k (bytes ++ rest)) (sym long) ∙ drop-append_seam bytes rest in
      rw (enough, value, behind) refl;
  only = λ bytes n rest are h.
      let read = cond_some (nat_le size (length bytes)) (little_number size bytes, drop size bytes) (n, rest) h in
      let enough : size ≤ length bytes = grind (arith, nat_tests, read.0) in
      let value : little_number size bytes ≡ n = ap (λ (p : ℕ × List ℕ). p.0) read.1 in
      let behind : drop size bytes ≡ rest = ap (λ (p : ℕ × List ℕ). p.1) read.1 in (
        subst (λ (k : ℕ). k < 256 ^ size) value (little_from-lt 0 size bytes (λ k. byte_in bytes k are)),
        sym (take-append-drop size bytes)
            ∙ (ap (λ (xs : List ℕ). xs ++ drop size bytes) (sym (little_bytes-back size bytes are enough) ∙ ap (little_bytes size) value)
            ∙ ap (λ (xs : List ℕ). little_bytes size n ++ xs) behind),
      );
}

pub text_exact : (size : ℕ) → IsExact (text size)
unfolding read_text
text_exact size = record {
  back = λ bytes rest long.
      let enough : nat_le size (length (bytes ++ rest)) ≡ true = grind (arith, nat_tests, length-append bytes rest, long) in
      let front : take size (bytes ++ rest) ≡ bytes = ap (λ (k : ℕ). take k (bytes ++ rest)) (sym long) ∙ take-append_seam bytes rest in
      let behind : drop size (bytes ++ rest) ≡ rest = ap (λ (k : ℕ). drop k (bytes ++ rest)) (sym long) ∙ drop-append_seam bytes rest in
      rw (enough, front, behind) refl;
  only = λ all bytes rest are h.
      let read = cond_some (nat_le size (length all)) (take size all, drop size all) (bytes, rest) h in
      let enough : size ≤ length all = grind (arith, nat_tests, read.0) in
      let front : take size all ≡ bytes = ap (λ (p : List ℕ × List ℕ). p.0) read.1 in
      let behind : drop size all ≡ rest = ap (λ (p : List ℕ × List ℕ). p.1) read.1 in (
        sym (ap length front) ∙ length-take-le size all enough,
        sym (take-append-drop size all) ∙ (ap (λ (xs : List ℕ). xs ++ drop size all) front ∙ ap (λ (xs : List ℕ). bytes ++ xs) behind),
      );
}

-- a first reader read something, and the second one went on from there
pub record WasRead {A B : Type 0} (o : Option (A × List ℕ)) (next : A → List ℕ → Option B) (b : B) : Type 0 where
  pub value : A
  pub rest : List ℕ
  pub first : o ≡ Some (value, rest)
  pub second : next value rest ≡ Some b

pub was_read : {A B : Type 0} (o : Option (A × List ℕ)) (next : A → List ℕ → Option B) (b : B) → read_on o next ≡ Some b → WasRead o next b
was_read None next b h = absurd (cc)
was_read (Some p) next b h = record { value = p.0; rest = p.1; first = refl; second = h }

-- what stands behind a part of some bytes are bytes
pub rest_bytes : (bytes front rest : List ℕ) → IsBytes bytes → bytes ≡ front ++ rest → IsBytes rest
rest_bytes bytes front rest are e = subst IsBytes (ap (drop (length front)) e ∙ drop-append_seam front rest) (All-drop (λ x. x < 256) (length front) bytes are)

pub followed_exact : {A B : Type 0} (f : Form A) (g : A → Form B) → IsExact f → ((a : A) → IsExact (g a)) → IsExact (followed f g)
followed_exact {A = A} {B = B} f g ef eg = record {
  back = λ p rest fits.
      let both : A → List ℕ → Option ((A × B) × List ℕ) = λ a bytes. read_on ((g a).read bytes) (λ b rest. Some ((a, b), rest)) in
      let apart : (f.spell p.0 ++ (g p.0).spell p.1) ++ rest ≡ f.spell p.0 ++ ((g p.0).spell p.1 ++ rest) = append_assoc (f.spell p.0) ((g p.0).spell p.1) rest in
      ap (λ (bytes : List ℕ). read_on (f.read bytes) both) apart
      ∙ (ap (λ (o : Option (A × List ℕ)). read_on o both) (ef.back p.0 ((g p.0).spell p.1 ++ rest) fits.0)
      ∙ ap (λ (o : Option (B × List ℕ)). read_on o (λ b rest. Some ((p.0, b), rest))) ((eg p.0).back p.1 rest fits.1));
  only = λ bytes p rest are h.
      let one = was_read (f.read bytes) (λ a bytes. read_on ((g a).read bytes) (λ b rest. Some ((a, b), rest))) (p, rest) h in
      let two = was_read ((g one.value).read one.rest) (λ b rest. Some ((one.value, b), rest)) (p, rest) one.second in
      let front = ef.only bytes one.value one.rest are one.first in
      let back = (eg one.value).only one.rest two.value two.rest (rest_bytes bytes (f.spell one.value) one.rest are front.1) two.first in
      let P : ((A × B) × List ℕ) → Type 0 = λ q. (f.Fits q.0.0 × (g q.0.0).Fits q.0.1) × (bytes ≡ (f.spell q.0.0 ++ (g q.0.0).spell q.0.1) ++ q.1) in
      subst P (same_Some ((one.value, two.value), two.rest) (p, rest) two.second)
      ((front.0, back.0), front.1 ∙ (ap (λ (xs : List ℕ). f.spell one.value ++ xs) back.1 ∙ sym (append_assoc (f.spell one.value) ((g one.value).spell two.value) two.rest)));
}

pub pair_exact : {A B : Type 0} (f : Form A) (g : Form B) → IsExact f → IsExact g → IsExact (pair f g)
pair_exact f g ef eg = followed_exact f (λ a. g) ef (λ a. eg)

pub mapped_exact : {A B : Type 0} (to : A → B) (from : B → A) (f : Form A) → IsExact f → ((b : B) → to (from b) ≡ b) → ((a : A) → f.Fits a → from (to a) ≡ a) → IsExact (mapped to from f)
mapped_exact {A = A} {B = B} to from f ef there again = record {
  back = λ b rest fits.
      ap (λ (o : Option (A × List ℕ)). read_on o (λ a rest. Some (to a, rest))) (ef.back (from b) rest fits)
      ∙ ap (λ (c : B). let found : Option (B × List ℕ) = Some (c, rest) in found) (there b);
  only = λ bytes b rest are h.
      let one = was_read (f.read bytes) (λ a rest. Some (to a, rest)) (b, rest) h in
      let all = ef.only bytes one.value one.rest are one.first in
      let P : (B × List ℕ) → Type 0 = λ q. f.Fits (from q.0) × (bytes ≡ f.spell (from q.0) ++ q.1) in
      let Q : A → Type 0 = λ a. f.Fits a × (bytes ≡ f.spell a ++ one.rest) in
      subst P (same_Some (to one.value, one.rest) (b, rest) one.second) (subst Q (sym (again one.value all.0)) all);
}

pub counted_exact : (size : ℕ) → IsExact (counted size)
counted_exact size = mapped_exact (λ p. p.1) (λ bytes. (length bytes, bytes)) (followed (number size) text) (followed_exact (number size) text (number_exact size) text_exact) (λ bytes. refl) (λ p fits. ap (λ (n : ℕ). (n, p.1)) fits.1)

pub two_counted_exact : (size : ℕ) → IsExact (two_counted size)
two_counted_exact size =
    mapped_exact (λ p. p.1) (λ p. ((length p.0, length p.1), p)) (followed (pair (number size) (number size)) (λ n. pair (text n.0) (text n.1)))
    (followed_exact (pair (number size) (number size)) (λ n. pair (text n.0) (text n.1)) (pair_exact (number size) (number size) (number_exact size) (number_exact size)) (λ n. pair_exact (text n.0) (text n.1) (text_exact n.0) (text_exact n.1)))
    (λ p. refl) (λ p fits. ap (λ (n : ℕ). ((n, length p.1.1), p.1)) fits.1.0 ∙ ap (λ (n : ℕ). ((p.0.0, n), p.1)) fits.1.1)

ended-all : {A : Type 0} (a b : A) (rest : List ℕ) → ended a rest ≡ Some b → (a ≡ b) × (rest ≡ [])
ended-all a b rest h =
    let all = cond_some (length rest == 0) a b h in
    (all.1, nil_from_length rest (grind (arith, nat_tests, all.0)))

-- what was spelled, and nothing behind it, is read back
pub read_all-back : {A : Type 0} (f : Form A) (a : A) → IsExact f → f.Fits a → read_all f (f.spell a) ≡ Some a
read_all-back {A = A} f a ef fits =
    ap (λ (bytes : List ℕ). read_on (f.read bytes) ended) (sym (append-nil (f.spell a))) ∙ ap (λ (o : Option (A × List ℕ)). read_on o ended) (ef.back a [] fits)

-- and only what was spelled is read
pub read_all-only : {A : Type 0} (f : Form A) (bytes : List ℕ) (a : A) → IsExact f → IsBytes bytes → read_all f bytes ≡ Some a → f.Fits a × (bytes ≡ f.spell a)
read_all-only f bytes a ef are h =
    let one = was_read (f.read bytes) ended a h in
    let all = ef.only bytes one.value one.rest are one.first in
    let end = ended-all one.value a one.rest one.second in
    let P : _ → Type 0 = λ b. f.Fits b × (bytes ≡ f.spell b) in
    subst P end.0 (all.0, all.1 ∙ (ap (λ (xs : List ℕ). f.spell one.value ++ xs) end.1 ∙ append-nil (f.spell one.value)))
