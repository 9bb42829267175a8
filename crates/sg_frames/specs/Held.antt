-- What the page frames and windows of one block hold, and what a loan of one holds.
use Rattle.std.specs.Prelude.{◌≡◌, ◌<◌, ◌+◌, ◌*◌, ◌⊎◌, ℕ, List, [], length, slice_set, slice_index_or}
use Rattle.std.specs.Ptr.{Ptr, null_ptr}
use Rattle.sg_base.specs.declared.page.TheConstants.{BAND_SIZE}
use Rattle.sg_frames.specs.declared.block.Run.{Run}
use Rattle.sg_frames.specs.declared.place.Place.{Place}
use Rattle.sg_frames.specs.declared.place.Place.TheVariants.{Page, Window}
use Rattle.sg_frames.specs.Ownership.{Extent}
use Rattle.sg_frames.specs.Pieces.{AreSideBySide, start_of}

-- one block of memory: where each page frame and each window lies, what is left behind them, and
-- the whole. It never changes.
pub record Block : Type 0 where
  pub pages : List Ptr
  pub windows : List Ptr
  pub rest : Run
  pub whole : Extent

-- the block, and the bytes of each page frame and of each window, none of one that is lent
pub record Held : Type 0 where
  pub block : Block
  pub pages : List (List ℕ)
  pub windows : List (List ℕ)

-- a loan: where it lies, of which frame or window it is, and its bytes
pub record Lent : Type 0 where
  pub spot : Ptr
  pub place : Place
  pub bytes : List ℕ

-- how many bytes a frame and a window have
abbrev pub size_of : Place → ℕ
size_of (Page i) = 4096
size_of (Window w) = BAND_SIZE

-- where the place lies in the block
abbrev pub spot_at : Held → Place → Ptr
spot_at held (Page i) = slice_index_or held.block.pages i null_ptr
spot_at held (Window w) = slice_index_or held.block.windows w null_ptr

-- the bytes there: none where it is lent, or where there is no such place
abbrev pub bytes_at : Held → Place → List ℕ
bytes_at held (Page i) = slice_index_or held.pages i []
bytes_at held (Window w) = slice_index_or held.windows w []

-- the same, but that there are these bytes there
abbrev pub with_bytes : Held → Place → List ℕ → Held
with_bytes held (Page i) bytes = record held { pages = slice_set held.pages i bytes }
with_bytes held (Window w) bytes = record held { windows = slice_set held.windows w bytes }

-- the block has the place
abbrev pub HasPlace : Held → Place → Type 0
HasPlace held (Page i) = i < length held.pages
HasPlace held (Window w) = w < length held.windows

-- it has it, and it isn't lent
abbrev pub IsHere : Held → Place → Type 0
IsHere held place = length (bytes_at held place) ≡ size_of place

-- no place is lent
pub record NoneLent (held : Held) : Type 0 where
  pub pages : (i : ℕ) → i < length held.pages → IsHere held (Page i)
  pub windows : (w : ℕ) → w < length held.windows → IsHere held (Window w)

-- the loan is of this block, and its place is lent
pub record IsFrom (held : Held) (loan : Lent) : Type 0 where
  pub same_spot : loan.spot ≡ spot_at held loan.place
  pub has_place : HasPlace held loan.place
  pub lent : bytes_at held loan.place ≡ []

-- each place is this one, or holds what it held
abbrev pub IsSameBut : Place → Held → Held → Type 0
IsSameBut place old new = (other : Place) → (other ≡ place) ⊎ (bytes_at new other ≡ bytes_at old other)

-- each place of the block is one of `out`, or is here
abbrev pub HereBut : (Place → Type 0) → Held → Type 0
HereBut out held = (place : Place) → HasPlace held place → out place ⊎ IsHere held place

-- page frames, windows and the rest lie side by side, and are the whole
pub record IsWhole (block : Block) : Type 0 where
  pub pages : AreSideBySide 4096 block.pages (start_of block.windows block.rest.ptr)
  pub windows : AreSideBySide BAND_SIZE block.windows block.rest.ptr
  pub start : start_of block.pages (start_of block.windows block.rest.ptr) ≡ block.whole.ptr
  pub size : length block.rest.items + length block.windows * BAND_SIZE + length block.pages * 4096 ≡ block.whole.len
