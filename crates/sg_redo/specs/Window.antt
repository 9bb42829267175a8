-- Changes of a band in its window, a list of bytes.
use Rattle.std.specs.Prelude.{◌≡◌, ◌≤◌, ◌+◌, ◌-◌, ◌&&◌, ℕ, nat_lt, nat_le, if◌then◌else◌, List, [], ◌∷◌, ◌++◌, length, IsTrue, is_some, slice_index, Option, Some, unwrap_or}
use Rattle.sg_base.specs.Overwritten.{overwritten}
use Rattle.sg_base.specs.declared.page.TheConstants.{BAND_SIZE}
use Rattle.sg_ops.specs.Table.{Table, range_at, rendered}
use Rattle.sg_redo.specs.History.{OnByte, IsCovered}
use Rattle.sg_redo.specs.declared.window.BandChange.{BandChange}
use Rattle.sg_redo.specs.declared.window.BandChange.TheVariants.{Write, Paint}

-- a change as a window has it: its number, the bytes that it writes, and where
pub record OnWindow : Type 0 where
  pub lsn : ℕ
  pub at : ℕ
  pub bytes : List ℕ

-- where a change writes
abbrev pub place_of : BandChange → ℕ
place_of (Write at bytes) = at
place_of (Paint at count code position arg) = at

-- which bytes it writes
abbrev pub bytes_of : Table → BandChange → List ℕ
bytes_of t (Write at bytes) = bytes.now
bytes_of t (Paint at count code position arg) = rendered (range_at t code) arg.now position count

-- its bytes lie in a band, and its operation is registered and has these positions
abbrev pub IsPossible : Table → BandChange → Type 0
IsPossible t (Write at bytes) = at + length bytes.now ≤ BAND_SIZE
IsPossible t (Paint at count code position arg) = (at + count ≤ BAND_SIZE) × IsTrue (is_some (range_at t code)) × (position + count ≤ 16384000)

-- changes over a window, in order, blind
abbrev pub replayed : List OnWindow → List ℕ → List ℕ
replayed [] window = window
replayed (w ∷ ws) window = replayed ws (overwritten window w.at w.bytes)

-- the oldest change of a window that isn't on the disk, after the changes: the first of them, where it had none
abbrev pub since_replayed : List OnWindow → Option ℕ → Option ℕ
since_replayed [] since = since
since_replayed (w ∷ ws) since = since_replayed ws (Some (unwrap_or since w.lsn))

-- as byte i has them
abbrev pub on_byte : ℕ → List OnWindow → List OnByte
on_byte i [] = []
on_byte i (w ∷ ws) = (if nat_le w.at i && nat_lt i (w.at + length w.bytes) then (record { lsn = w.lsn; value = slice_index w.bytes (i - w.at) } ∷ []) else []) ++ on_byte i ws

-- each lies in a window of so many bytes
abbrev pub AllLie : ℕ → List OnWindow → Type 0
AllLie size [] = Unit {0}
AllLie size (w ∷ ws) = (w.at + length w.bytes ≤ size) × AllLie size ws

-- two windows that differ only in bytes that the changes cover
pub record IsSameBut (ws : List OnWindow) (one other : List ℕ) : Type 0 where
  pub long : length one ≡ length other
  pub same : (i : ℕ) → (IsCovered (on_byte i ws) → ⊥) → slice_index one i ≡ slice_index other i
