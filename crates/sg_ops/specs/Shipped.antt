-- The operations that come with the crate.
use Rattle.std.specs.Prelude.{ℕ, ◌+◌, ◌-◌, ◌*◌, ◌/◌, ◌%◌, ◌^◌, zero, suc, List, [], ◌∷◌, ◌&&◌, ◌==◌, nat_le, length, slice_index, map}
use Rattle.std.specs.List.{range_with_len}
use Rattle.std.specs.Int.Bits.{bit_xor}
use Rattle.sg_ops.specs.Meaning.{RecordMeaning, RangeMeaning}

-- the number that little-endian bytes spell
abbrev pub value_of : List ℕ → ℕ
value_of [] = 0
value_of (x ∷ xs) = x + 256 * value_of xs

-- the n lowest bytes of a number, the lowest first
abbrev pub bytes_of : ℕ → ℕ → List ℕ
bytes_of zero v = []
bytes_of (suc n) v = (v % 256) ∷ bytes_of n (v / 256)

-- add: the sum of the numbers, in as many bytes as the item has
abbrev pub after_add : List ℕ → List ℕ → List ℕ
after_add item arg = bytes_of (length item) (value_of item + value_of arg)

-- its undo: the difference of the numbers, modulo the count of numbers of that length
abbrev pub before_add : List ℕ → List ℕ → List ℕ
before_add item arg =
    let count = 256 ^ length item in
    bytes_of (length item) (value_of item + (count - value_of arg % count))

-- code 1, for an item and an argument of one length, at most 8 bytes
abbrev pub add_meaning : RecordMeaning
add_meaning = record { code = 1; accepts = λ item arg. (length item == length arg) && nat_le (length item) 8; after = after_add; before = before_add }

-- xor: byte by byte, where bytes past the argument's end count as 0
abbrev pub xored : List ℕ → List ℕ → List ℕ
xored item arg = map (λ k. bit_xor (slice_index item k) (slice_index arg k)) (range_with_len 0 (length item))

-- code 2, for an item and an argument of one length; it is its own undo
abbrev pub xor_meaning : RecordMeaning
xor_meaning = record { code = 2; accepts = λ item arg. length item == length arg; after = xored; before = xored }

-- byte j of the item turned by r is its byte (j + r) mod length
abbrev pub turned : ℕ → List ℕ → List ℕ
turned r item = map (λ j. slice_index item ((j + r) % length item)) (range_with_len 0 (length item))

-- rotate: turned by the argument's byte
abbrev pub after_rotate : List ℕ → List ℕ → List ℕ
after_rotate item arg = turned (slice_index arg 0) item

-- its undo: turned by as much as is missing to a whole number of rounds
abbrev pub before_rotate : List ℕ → List ℕ → List ℕ
before_rotate item arg = turned (length item - slice_index arg 0 % length item) item

-- code 3, for an argument of one byte
abbrev pub rotate_meaning : RecordMeaning
rotate_meaning = record { code = 3; accepts = λ item arg. length arg == 1; after = after_rotate; before = before_rotate }

-- fill: the argument over and over, and 0 where it is empty
abbrev pub fill_byte : List ℕ → ℕ → ℕ
fill_byte [] position = 0
fill_byte (x ∷ xs) position = slice_index (x ∷ xs) (position % length (x ∷ xs))

-- code 1, in every table
abbrev pub fill_meaning : RangeMeaning
fill_meaning = record { code = 1; byte = fill_byte }

-- ramp: the argument's first byte, or 0, and one more at each position
abbrev pub ramp_byte : List ℕ → ℕ → ℕ
ramp_byte arg position = (slice_index arg 0 + position) % 256

-- code 2
abbrev pub ramp_meaning : RangeMeaning
ramp_meaning = record { code = 2; byte = ramp_byte }
