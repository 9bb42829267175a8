-- The words in which a map keeps its flags, and the summaries above them.
use Rattle.std.specs.Prelude.{◌≡◌, ℕ, ◌*◌, ◌/◌, ◌%◌, ◌^◌, ◌<◌, ◌≤◌, ◌==◌, ◌↔◌, Bool, List, map, length, slice_index}
use Rattle.std.specs.Int.{bit_at}
use Rattle.std.specs.List.{range_with_len}
use Rattle.sg_alloc.specs.Flags.{free_of}
use Rattle.sg_bits.specs.Bits.{IsSet, IsFull}

-- the upper row has a bit for each word of the lower one, set exactly where all bits of that word are
pub record IsSummary (lower upper : List ℕ) : Type 0 where
  pub enough : length lower ≤ 64 * length upper
  pub few : 64 * length upper < 2 ^ 64
  pub bits : (word : ℕ) → word < length lower → IsSet upper word ↔ IsFull lower word

-- a row, its summary, and the summary of that
pub record AreRows (words full all_full : List ℕ) : Type 0 where
  pub few : 64 * length words < 2 ^ 64
  pub first : IsSummary words full
  pub second : IsSummary full all_full

-- a bit of the row is clear
abbrev pub HasClear : List ℕ → Type 0
HasClear words = (k : ℕ) × (k < 64 * length words) × ¬ IsSet words k

-- the bit is clear, and each before it is set
pub record IsFirstClear (words : List ℕ) (n : ℕ) : Type 0 where
  pub within : n < 64 * length words
  pub clear : ¬ IsSet words n
  pub below : (k : ℕ) → k < n → IsSet words k

-- whether bit k is set
abbrev pub flag_at : List ℕ → ℕ → Bool
flag_at words k = bit_at (slice_index words (k / 64)) (k % 64) == 1

-- the flags that the first bits are
unfoldable pub flags_of : List ℕ → ℕ → List Bool
flags_of words count = map (flag_at words) (range_with_len 0 count)

-- a row of bits for so many things, and how many of them are free
pub record IsKept (words : List ℕ) (count free : ℕ) : Type 0 where
  pub small : count < 2 ^ 32
  pub fits : count ≤ 64 * length words
  pub counted : free ≡ free_of (flags_of words count)
