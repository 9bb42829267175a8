-- The undo law of `add`, by numbers.
use Rattle.std.proofs.Common.{◌≡◌, ℕ, ◌+◌, ◌-◌, ◌*◌, ◌/◌, ◌%◌, ◌^◌, ◌<◌, zero, suc, List, [], ◌∷◌, length, sym, ◌∙◌, ap, arith, rules, refl, subst, IsTrue}
use Rattle.std.specs.Prelude.{◌&&◌, ◌==◌, nat_le, slice_index_or}
use Rattle.std.proofs.Math.Nat.{pow-suc, pow-succ', mul_assoc, mod-eq_of_lt, mod-add-div}
use Rattle.std.proofs.Math.Arith.{mod-mul}
use Rattle.sg_base.specs.Bytes.{IsBytes}
use Rattle.sg_ops.specs.Meaning.{IsUndoable}
use Rattle.sg_ops.specs.Shipped.{value_of, bytes_of, after_add, before_add, add_meaning}

pub power_positive : (n : ℕ) → 0 < 256 ^ n
power_positive zero = omega arith
power_positive (suc n) = let e : 256 ^ suc n ≡ 256 * 256 ^ n = pow-succ' 256 n in let h : 0 < 256 ^ n = power_positive n in omega (arith, e, h)

pub length-bytes_of : (n v : ℕ) → length (bytes_of n v) ≡ n
length-bytes_of zero v = refl
length-bytes_of (suc n) v = omega (arith, length-bytes_of n (v / 256))

byte_within : (n v k d : ℕ) → k < n → slice_index_or (bytes_of n v) k d < 256
byte_within zero v k d h = absurd (omega (arith, h))
byte_within (suc n) v zero d h = omega arith
byte_within (suc n) v (suc k) d h = byte_within n (v / 256) k d (omega (arith, h))

pub bytes-bytes_of : (n v : ℕ) → IsBytes (bytes_of n v)
bytes-bytes_of n v k d h = byte_within n v k d (omega (arith, h, length-bytes_of n v))

-- a list of bytes is the bytes of its number
pub bytes_of-value_of : (xs : List ℕ) → IsBytes xs → bytes_of (length xs) (value_of xs) ≡ xs
bytes_of-value_of [] bytes = refl
bytes_of-value_of (x ∷ xs) bytes =
    let small : x < 256 = bytes 0 0 (omega arith) in
    let low : (x + 256 * value_of xs) % 256 ≡ x = omega arith in
    let high : (x + 256 * value_of xs) / 256 ≡ value_of xs = omega arith in
    ap (λ b. b ∷ bytes_of (length xs) ((x + 256 * value_of xs) / 256)) low
    ∙ ap (λ v. x ∷ bytes_of (length xs) v) high
    ∙ ap (λ bs. x ∷ bs) (bytes_of-value_of xs (λ k d h. bytes (suc k) d (omega (arith, h))))

pub value_of-below : (xs : List ℕ) → IsBytes xs → value_of xs < 256 ^ length xs
value_of-below [] bytes = omega arith
value_of-below (x ∷ xs) bytes =
    let small : x < 256 = bytes 0 0 (omega arith) in
    let rest : value_of xs < 256 ^ length xs = value_of-below xs (λ k d h. bytes (suc k) d (omega (arith, h))) in
    let e : 256 ^ suc (length xs) ≡ 256 * 256 ^ length xs = pow-succ' 256 (length xs) in
    rw e (omega arith)

-- the number that n bytes of a number spell
pub value_of-bytes_of : (n v : ℕ) → value_of (bytes_of n v) ≡ v % 256 ^ n
value_of-bytes_of zero v = omega arith
value_of-bytes_of (suc n) v =
    let e : 256 ^ suc n ≡ 256 ^ n * 256 = pow-suc 256 n in
    let digits : v % (256 ^ n * 256) ≡ (v / 256 % 256 ^ n) * 256 + v % 256 = mod-mul v (power_positive n) (omega arith) in
    let rest : value_of (bytes_of n (v / 256)) ≡ v / 256 % 256 ^ n = value_of-bytes_of n (v / 256) in
    rw e (omega arith)

-- more than n bytes hold makes no difference
pub bytes_of-more : (n v q : ℕ) → bytes_of n (v + 256 ^ n * q) ≡ bytes_of n v
bytes_of-more zero v q = refl
bytes_of-more (suc n) v q =
    let e : 256 ^ suc n * q ≡ 256 * (256 ^ n * q) = ap (λ p. p * q) (pow-succ' 256 n) ∙ mul_assoc 256 (256 ^ n) q in
    let low : (v + 256 ^ suc n * q) % 256 ≡ v % 256 = rw e (omega arith) in
    let high : (v + 256 ^ suc n * q) / 256 ≡ v / 256 + 256 ^ n * q = rw e (omega arith) in
    ap (λ b. b ∷ bytes_of n ((v + 256 ^ suc n * q) / 256)) low
    ∙ ap (λ bs. (v % 256) ∷ bs) (ap (bytes_of n) high ∙ bytes_of-more n (v / 256) q)

pub lengths_of : (item arg : List ℕ) → IsTrue ((length item == length arg) && nat_le (length item) 8) → length item ≡ length arg
lengths_of item arg h = search rules

-- a sum less one of its parts is the other part, modulo the count of numbers
difference_of_sum : (n a b : ℕ) → a < 256 ^ n → b < 256 ^ n → bytes_of n ((a + b) % 256 ^ n + (256 ^ n - b % 256 ^ n)) ≡ bytes_of n a
difference_of_sum n a b small_a small_b =
    let count : ℕ = 256 ^ n in
    let rounds : ℕ = (a + b) / count in
    let split : (a + b) % count + count * rounds ≡ a + b = mod-add-div (a + b) count in
    let low : b % count ≡ b = mod-eq_of_lt small_b in
    let sum : (a + b) % count + (count - b % count) + count * rounds ≡ a + count * 1 = omega (arith, split, low) in
    sym (bytes_of-more n ((a + b) % count + (count - b % count)) rounds)
    ∙ ap (bytes_of n) sum
    ∙ bytes_of-more n a 1

add_undone : (item arg : List ℕ) → IsBytes item → IsBytes arg → length item ≡ length arg → before_add (after_add item arg) arg ≡ item
add_undone item arg in_item in_arg same =
    let small_arg : value_of arg < 256 ^ length item = subst (λ n. value_of arg < 256 ^ n) (sym same) (value_of-below arg in_arg) in
    ap (λ n. bytes_of n (value_of (after_add item arg) + (256 ^ n - value_of arg % 256 ^ n))) (length-bytes_of (length item) (value_of item + value_of arg))
    ∙ ap (λ v. bytes_of (length item) (v + (256 ^ length item - value_of arg % 256 ^ length item))) (value_of-bytes_of (length item) (value_of item + value_of arg))
    ∙ difference_of_sum (length item) (value_of item) (value_of arg) (value_of-below item in_item) small_arg
    ∙ bytes_of-value_of item in_item

pub add_is_undoable : IsUndoable add_meaning
add_is_undoable = record {
  undoes = λ item arg in_item in_arg ok. add_undone item arg in_item in_arg (lengths_of item arg ok);
  keeps_length = λ item arg _ _ _. length-bytes_of (length item) (value_of item + value_of arg);
  leaves_bytes = λ item arg _ _ _. bytes-bytes_of (length item) (value_of item + value_of arg);
  undo_keeps_length = λ item arg _ _. length-bytes_of (length item) _;
  undo_leaves_bytes = λ item arg _ _. bytes-bytes_of (length item) _;
}
