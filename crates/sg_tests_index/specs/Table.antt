-- What a table in memory maps a key to.
use Rattle.std.specs.Prelude.{ℕ, ◌==◌, nat_lt, if◌then◌else◌, List, [], ◌∷◌, length, drop, slice_get, Option, Some, None, option_map, option_and_then}
use Rattle.std.specs.Cmp.Lexicographic.{pointwise}
use Rattle.byteorder.specs.Endian.{little_bytes, little_number}
use Rattle.sg_tests_index.specs.declared.table.Place.{Place}
use Rattle.sg_tests_index.specs.declared.table.Place.TheVariants.{Header, Node, Other}

-- the number in the bytes 1 to 4 of a key
abbrev pub number_in : List ℕ → ℕ
number_in key = if nat_lt (length key) 5 then 0 else little_number 4 (drop 1 key)

-- where the record of a key stands: `h`, or `n` and a number
abbrev pub place_of : List ℕ → Place
place_of key =
    if pointwise ◌==◌ key (104 ∷ []) then Header
    else (if pointwise ◌==◌ key (110 ∷ little_bytes 4 (number_in key)) then Node (number_in key) else Other)

-- no bytes stand for no record
abbrev pub some_bytes : List ℕ → Option (List ℕ)
some_bytes [] = None
some_bytes (b ∷ bs) = Some (b ∷ bs)

abbrev pub record_at : {V : Type 0} → (V → List ℕ) → List ℕ → List V → Place → Option (List ℕ)
record_at bytes_of header nodes Header = some_bytes header
record_at bytes_of header nodes (Node n) = option_and_then (λ v. some_bytes (bytes_of v)) (slice_get nodes n)
record_at bytes_of header nodes Other = None

abbrev pub record_in : {V : Type 0} → (V → List ℕ) → List ℕ → List V → List ℕ → Option (List ℕ)
record_in bytes_of header nodes key = record_at bytes_of header nodes (place_of key)
