-- WHERE A NOTE CAN BE UNDONE, in words: what `unstep` finds out by carrying it out.
use Rattle.std.specs.Prelude.{◌≡◌, ℕ, ◌<◌, ◌≤◌, true, false, List, length, drop, Option, Some, is_some, slice_get}
use Rattle.std.specs.FinMap.{get}
use Rattle.sg_ops.specs.Table.{Table as Operations, record_at}
use Rattle.sg_base.specs.Bytes.{IsBytes}
use Rattle.sg_ops.specs.Meaning.{RecordMeaning}
use Rattle.sg_model.specs.Objects.Object.{Array, Table, Blob}
use Rattle.sg_reading.specs.Reading.{Thing, Tomb, Slot}
use Rattle.sg_reading.specs.Reading.Thing.{There}
use Rattle.sg_reading.specs.Back.{Undoing, Before, Patch, located, all_laid, all_zero}
use Rattle.sg_reading.specs.Noted.{IsEntry}
use Rattle.sg_reading.specs.Back.Undoing.{WasMake, WasDrop, WasPush, WasPop, WasSet, WasApply, WasPut, WasOver, WasBytes}

-- the item is `after` of an accepted item of bytes and the argument
abbrev pub IsAfter : RecordMeaning → List ℕ → List ℕ → Type 0
IsAfter m arg item = (old : List ℕ) × IsBytes old × (m.accepts old arg ≡ true) × (m.after old arg ≡ item)

-- an apply: the operation is registered, and the item that is there is one that it makes of an accepted item
pub record CanReverse (t : Operations) (i code : ℕ) (arg : List ℕ) (items : List (List ℕ)) : Type 0 where
  pub short : length arg ≤ 256
  pub by : RecordMeaning
  pub registered : record_at t code ≡ Some by
  pub item : List ℕ
  pub there : slice_get items i ≡ Some item
  pub made : IsAfter by arg item

-- a change of a blob's bytes: the old length is at most the peak, each before byte is on a band of the blob, and with these
-- put back the bytes behind the old length are 0
pub record CanLay (n : ℕ) (cs : List Before) (x : List ℕ) (peak : ℕ) (bands : List ℕ) : Type 0 where
  pub low : n ≤ peak
  pub patches : List Patch
  pub at_bands : located bands cs ≡ Some patches
  pub zeros : all_zero (drop n (all_laid patches x)) ≡ true

-- an object of the verb's kind, and what that kind asks
abbrev pub CanIn : Operations → Undoing → List Before → Option Thing → Type 0
CanIn t WasPush cs (Some (There (Array row) w)) = 0 < length row.items
CanIn t (WasPop item) cs (Some (There (Array row) w)) = (length row.items < w.peak) × (length item ≡ row.size)
CanIn t (WasSet i item) cs (Some (There (Array row) w)) = (i < length row.items) × (length item ≡ row.size)
CanIn t (WasApply i code arg) cs (Some (There (Array row) w)) = CanReverse t i code arg row.items
CanIn t (WasPut k) cs (Some (There (Table m) w)) = (v : List ℕ) × (get m k ≡ Some v)
CanIn t (WasOver k v) cs (Some (There (Table m) w)) = IsEntry k v
CanIn t (WasBytes n) cs (Some (There (Blob x) w)) = CanLay n cs x w.peak w.bands
CanIn t u cs a = ⊥

-- for a make there is an object; for a drop there is none of the name, and a tombstone of the name and the root
abbrev pub IsPossible : Operations → Undoing → List Before → Slot → Type 0
IsPossible t WasMake cs s = is_some s.thing ≡ true
IsPossible t (WasDrop r) cs s = (is_some s.thing ≡ false) × ((d : Tomb) × (s.buried r ≡ Some d))
IsPossible t u cs s = CanIn t u cs s.thing
