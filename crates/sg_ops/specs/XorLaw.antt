-- The undo law of `xor`.
use Rattle.std.proofs.Common.{◌≡◌, ℕ, ◌<◌, List, length, slice_index, ◌∙◌, ap, arith}
use Rattle.std.specs.List.{range_with_len}
use Rattle.std.specs.Int.Bits.{bit_xor, xor_assoc, xor_self, xor_zero_r}
use Rattle.std.proofs.lemmas.Nat.{xor_lt}
use Rattle.std.proofs.lemmas.Grind.{same_number_lists}
use Rattle.std.proofs.lemmas.List.FromFn.{length-map-range_with_len, get_or-map-range_with_len}
use Rattle.std.proofs.lemmas.List.Elements.{All-map}
use Rattle.sg_base.specs.Elements.{byte_at}
use Rattle.sg_base.specs.Bytes.{IsBytes}
use Rattle.sg_ops.specs.Meaning.{IsUndoable}
use Rattle.sg_ops.specs.Shipped.{xored, xor_meaning}

pub slice_index-xored : (item arg : List ℕ) (k : ℕ) → k < length item → slice_index (xored item arg) k ≡ bit_xor (slice_index item k) (slice_index arg k)
slice_index-xored item arg k h = get_or-map-range_with_len _ 0 (length item) k k 0 h (omega arith)

pub length-xored : (item arg : List ℕ) → length (xored item arg) ≡ length item
length-xored item arg = length-map-range_with_len _ 0 (length item)

pub xored_twice : (item arg : List ℕ) → xored (xored item arg) arg ≡ item
xored_twice item arg =
    same_number_lists (xored (xored item arg) arg) item (length-xored (xored item arg) arg ∙ length-xored item arg) (λ k h.
    let i : k < length (xored item arg) = omega (arith, length-xored (xored item arg) arg) in
    let j : k < length item = omega (arith, length-xored item arg) in
    slice_index-xored (xored item arg) arg k i
    ∙ ap (λ x. bit_xor x (slice_index arg k)) (slice_index-xored item arg k j)
    ∙ xor_assoc (slice_index item k) (slice_index arg k) (slice_index arg k)
    ∙ ap (λ x. bit_xor (slice_index item k) x) (xor_self (slice_index arg k))
    ∙ xor_zero_r (slice_index item k))

bytes-xored : (item arg : List ℕ) → IsBytes item → IsBytes arg → IsBytes (xored item arg)
bytes-xored item arg in_item in_arg =
    All-map (λ x. x < 256) (λ k. bit_xor (slice_index item k) (slice_index arg k)) (range_with_len 0 (length item)) (λ k d h. xor_lt 8 (slice_index item _) (slice_index arg _) (byte_at item _ in_item) (byte_at arg _ in_arg))

pub xor_is_undoable : IsUndoable xor_meaning
xor_is_undoable = record {
  undoes = λ item arg _ _ _. xored_twice item arg;
  keeps_length = λ item arg _ _ _. length-xored item arg;
  leaves_bytes = λ item arg in_item in_arg _. bytes-xored item arg in_item in_arg;
  undo_keeps_length = λ item arg _ _. length-xored item arg;
  undo_leaves_bytes = λ item arg in_item in_arg. bytes-xored item arg in_item in_arg;
}
