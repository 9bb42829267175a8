-- The undo law of `rotate`.
use Rattle.std.proofs.Common.{◌≡◌, ℕ, ◌+◌, ◌-◌, ◌*◌, ◌/◌, ◌%◌, ◌<◌, List, length, slice_index, ◌∙◌, ap, arith}
use Rattle.std.specs.List.{range_with_len}
use Rattle.std.proofs.Math.Nat.{mod-add-mod, add-mod_right, mod-eq_of_lt, add-mul-mod_self_left, mod-add-div}
use Rattle.std.proofs.lemmas.Nat.{mod_below}
use Rattle.std.proofs.lemmas.Grind.{same_number_lists}
use Rattle.std.proofs.lemmas.List.FromFn.{length-map-range_with_len, get_or-map-range_with_len}
use Rattle.std.proofs.lemmas.List.Elements.{All-map}
use Rattle.sg_base.specs.Elements.{byte_at}
use Rattle.sg_base.specs.Bytes.{IsBytes}
use Rattle.sg_ops.specs.Meaning.{IsUndoable}
use Rattle.sg_ops.specs.Shipped.{turned, rotate_meaning}

pub slice_index-turned : (r : ℕ) (xs : List ℕ) (j : ℕ) → j < length xs → slice_index (turned r xs) j ≡ slice_index xs ((j + r) % length xs)
slice_index-turned r xs j h = get_or-map-range_with_len _ 0 (length xs) j j 0 h (omega arith)

pub length-turned : (r : ℕ) (xs : List ℕ) → length (turned r xs) ≡ length xs
length-turned r xs = length-map-range_with_len _ 0 (length xs)

-- a turn and then what is missing to whole rounds lead each place back to itself
round_trip : (n r j : ℕ) → j < n → ((j + (n - r % n)) % n + r) % n ≡ j
round_trip n r j h =
    let below : r % n < n = mod_below r n (omega arith) in
    let whole : r % n + n * (r / n) ≡ r = mod-add-div r n in
    let sum : j + (n - r % n) + r ≡ (j + n) + n * (r / n) = omega (arith, whole) in
    mod-add-mod (j + (n - r % n)) n r
    ∙ ap (λ s. s % n) sum
    ∙ add-mul-mod_self_left (j + n) n (r / n)
    ∙ add-mod_right j n
    ∙ mod-eq_of_lt h

pub turned_back : (r : ℕ) (xs : List ℕ) → turned (length xs - r % length xs) (turned r xs) ≡ xs
turned_back r xs =
    let back : ℕ = length xs - r % length xs in
    same_number_lists (turned back (turned r xs)) xs (length-turned back (turned r xs) ∙ length-turned r xs) (λ k h.
    let i : k < length (turned r xs) = omega (arith, length-turned back (turned r xs)) in
    let j : k < length xs = omega (arith, length-turned r xs) in
    let place : ℕ = (k + back) % length xs in
    slice_index-turned back (turned r xs) k i
    ∙ ap (λ n. slice_index (turned r xs) ((k + back) % n)) (length-turned r xs)
    ∙ slice_index-turned r xs place (mod_below (k + back) (length xs) (omega arith))
    ∙ ap (slice_index xs) (round_trip (length xs) r k j))

bytes-turned : (r : ℕ) (xs : List ℕ) → IsBytes xs → IsBytes (turned r xs)
bytes-turned r xs bytes =
    All-map (λ x. x < 256) (λ j. slice_index xs ((j + r) % length xs)) (range_with_len 0 (length xs)) (λ k d h. byte_at xs _ bytes)

pub rotate_is_undoable : IsUndoable rotate_meaning
rotate_is_undoable = record {
  undoes = λ item arg _ _ _. ap (λ n. turned (n - slice_index arg 0 % n) (turned (slice_index arg 0) item)) (length-turned (slice_index arg 0) item) ∙ turned_back (slice_index arg 0) item;
  keeps_length = λ item arg _ _ _. length-turned (slice_index arg 0) item;
  leaves_bytes = λ item arg bytes _ _. bytes-turned (slice_index arg 0) item bytes;
  undo_keeps_length = λ item arg _ _. length-turned (length item - slice_index arg 0 % length item) item;
  undo_leaves_bytes = λ item arg bytes _. bytes-turned (length item - slice_index arg 0 % length item) item bytes;
}
