-- Pieces of memory, and tables of them.
use Rattle.std.specs.Prelude.{◌≡◌, ◌<◌, ◌+◌, ℕ, zero, suc, List, [], ◌∷◌, length, slice_set, slice_index_or}
use Rattle.std.specs.Ptr.{Ptr, block_ptr, null_ptr}
use Rattle.std.specs.List.{refill}
use denote.RawPtr.{◌+ₚ◌}

-- where a piece of memory lies, and its bytes
pub record Piece : Type 0 where
  pub spot : Ptr
  pub bytes : List ℕ

-- what stands for a piece behind a table's end
abbrev pub no_piece : Piece
no_piece = record { spot = null_ptr; bytes = [] }

-- the spots of a table, and the bytes at each, none where they are lent
pub record Pieces : Type 0 where
  pub spots : List Ptr
  pub bytes : List (List ℕ)

abbrev pub spot_of : Piece → Ptr
spot_of piece = piece.spot

abbrev pub bytes_of : Piece → List ℕ
bytes_of piece = piece.bytes

-- new bytes in place of old ones: a slice keeps its length, so there are as many
abbrev pub rewritten : List ℕ → List ℕ → List ℕ
rewritten old bytes = refill (length old) old bytes

-- the table with these bytes at place i
abbrev pub with_entry : Pieces → ℕ → List ℕ → Pieces
with_entry pieces i bytes = record pieces { bytes = slice_set pieces.bytes i bytes }

-- pieces of so many bytes lie side by side: behind each comes the next, and behind the last comes `end`
abbrev pub AreSideBySide : ℕ → List Ptr → Ptr → Type 0
AreSideBySide size spots end = (k : ℕ) → k < length spots → (slice_index_or spots k null_ptr +ₚ size) ≡ slice_index_or spots (k + 1) end

-- where they begin, which is `end` where there is none
abbrev pub start_of : List Ptr → Ptr → Ptr
start_of spots end = slice_index_or spots 0 end

-- n spots, the first of them this one, and each `size` bytes behind the one before it
abbrev pub spots_from : Ptr → ℕ → ℕ → List Ptr
spots_from spot size zero = []
spots_from spot size (suc n) = spot ∷ spots_from (spot +ₚ size) size n

-- the bytes, where the two numbers are equal, else none
abbrev pub where_equal : ℕ → ℕ → List ℕ → List ℕ
where_equal zero zero bytes = bytes
where_equal zero (suc n) bytes = []
where_equal (suc m) zero bytes = []
where_equal (suc m) (suc n) bytes = where_equal m n bytes

-- the bytes, where the two spots are the same, else none
abbrev pub bytes_on : Ptr → Ptr → List ℕ → List ℕ
bytes_on (block_ptr b i) (block_ptr c j) bytes = where_equal b c (where_equal i j bytes)
bytes_on (block_ptr b i) null_ptr bytes = []
bytes_on null_ptr (block_ptr c j) bytes = []
bytes_on null_ptr null_ptr bytes = bytes

-- what lies at each spot: the bytes of the piece of its number, or none, where that piece lies elsewhere
abbrev pub lying : List Ptr → List Piece → List (List ℕ)
lying [] pieces = []
lying (spot ∷ spots) [] = []
lying (spot ∷ spots) (piece ∷ pieces) = bytes_on spot piece.spot piece.bytes ∷ lying spots pieces
