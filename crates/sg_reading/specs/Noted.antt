-- The note that a verb writes, and what holds of readings that undoing rests on.
use Rattle.std.specs.Prelude.{◌≡◌, ℕ, zero, suc, ◌≤◌, true, List, ◌++◌, length, drop, Option, Some, None, IfSome, slice_get}
use Rattle.std.specs.FinMap.{get}
use Rattle.sg_ops.specs.Table.{Table as Operations, record_at}
use Rattle.sg_base.specs.Bytes.{IsBytes}
use Rattle.sg_ops.specs.Meaning.{IsUndoable}
use Rattle.sg_model.specs.Objects.{Row}
use Rattle.sg_model.specs.Verb.{Verb}
use Rattle.sg_model.specs.Objects.Object.{Array, Table, Blob}
use Rattle.sg_model.specs.Verb.Verb.{Discard, Push, Pop, Set, Apply, Put, Del, Write, Size, Paint}
use Rattle.sg_model.specs.Step.{write, resize, paint}
use Rattle.sg_reading.specs.Reading.{Thing, Tomb, Slot}
use Rattle.sg_reading.specs.Reading.Thing.{There}
use Rattle.sg_reading.specs.Back.{Undoing, Before, Patch, located, all_laid, all_zero, padded}
use Rattle.sg_reading.specs.Back.Undoing.{WasNothing, WasMake, WasDrop, WasPush, WasPop, WasSet, WasApply, WasPut, WasOver, WasBytes}

-- the parts of `noted`, by what stood in the place

abbrev pub noted_popped : Option (List ℕ) → Undoing
noted_popped None = WasNothing
noted_popped (Some item) = WasPop item

abbrev pub noted_last : ℕ → Row → Undoing
noted_last zero row = WasNothing
noted_last (suc n) row = noted_popped (slice_get row.items n)

abbrev pub noted_item : ℕ → Option (List ℕ) → Undoing
noted_item i None = WasNothing
noted_item i (Some item) = WasSet i item

abbrev pub noted_put : List ℕ → Option (List ℕ) → Undoing
noted_put k None = WasPut k
noted_put k (Some old) = WasOver k old

abbrev pub noted_del : List ℕ → Option (List ℕ) → Undoing
noted_del k None = WasNothing
noted_del k (Some old) = WasOver k old

-- WHAT IS NOTED of a verb that got a reply, by what stood there. Nothing is noted where nothing was changed
abbrev pub noted : Verb → Option Thing → Undoing
noted verb None = WasMake
noted Discard (Some (There o w)) = WasDrop w.root
noted (Push v) (Some (There o w)) = WasPush
noted Pop (Some (There (Array row) w)) = noted_last (length row.items) row
noted (Set i v) (Some (There (Array row) w)) = noted_item i (slice_get row.items i)
noted (Apply i code arg) (Some (There o w)) = WasApply i code arg
noted (Put k v) (Some (There (Table m) w)) = noted_put k (get m k)
noted (Del k) (Some (There (Table m) w)) = noted_del k (get m k)
noted (Write from bytes) (Some (There (Blob x) w)) = WasBytes (length x)
noted (Size n) (Some (There (Blob x) w)) = WasBytes (length x)
noted (Paint from count code arg) (Some (There (Blob x) w)) = WasBytes (length x)
noted verb other = WasNothing

-- an item of an array: bytes of its size
abbrev pub IsItem : ℕ → List ℕ → Type 0
IsItem size item = (length item ≡ size) × IsBytes item

-- an entry of a table: a key of 1 to 128 bytes, a value of at most 1,024
abbrev pub IsEntry : List ℕ → List ℕ → Type 0
IsEntry key value = (1 ≤ length key) × (length key ≤ 128) × (length value ≤ 1024)

-- Peaks are at least the lengths now, an array has at most 1,048,576 items of its size, and keys and values keep their limits
abbrev pub IsFormedThing : Thing → Type 0
IsFormedThing (There (Array row) w) = (length row.items ≤ w.peak) × (w.peak ≤ 1048576) × ((i : ℕ) (item : List ℕ) → slice_get row.items i ≡ Some item → IsItem row.size item)
IsFormedThing (There (Table m) w) = (key value : List ℕ) → get m key ≡ Some value → IsEntry key value
IsFormedThing (There (Blob x) w) = length x ≤ w.peak

-- what stands under a name, if anything does
abbrev pub IsFormed : Option Thing → Type 0
IsFormed None = Unit {0}
IsFormed (Some th) = IsFormedThing th

-- no tombstone of the name has the root of the object that stands under it
abbrev pub IsRootFree : Option Thing → (ℕ → Option Tomb) → Type 0
IsRootFree None buried = Unit {0}
IsRootFree (Some (There o w)) buried = buried w.root ≡ None

abbrev pub IsFormedSlot : Slot → Type 0
IsFormedSlot s = IsFormed s.thing × IsRootFree s.thing s.buried

-- each registered operation keeps the undo law, as those of every `Ops` do
abbrev pub AreUndone : Operations → Type 0
AreUndone t = (code : ℕ) → IfSome (record_at t code) IsUndoable

-- what a verb brings to an array are bytes
abbrev pub BringsBytes : Verb → Type 0
BringsBytes (Push value) = IsBytes value
BringsBytes (Set index value) = IsBytes value
BringsBytes (Apply index code arg) = IsBytes arg
BringsBytes other = Unit {0}

-- what a note brings back to one are bytes
abbrev pub BringsBack : Undoing → Type 0
BringsBack (WasPop item) = IsBytes item
BringsBack (WasSet index item) = IsBytes item
BringsBack (WasApply index code arg) = IsBytes arg
BringsBack other = Unit {0}

-- A blob's bytes as a verb left them, with the before bytes of its action: put back, the last first, they give the bytes
-- that were there, and zeros behind them
pub record PutsBack (bands : List ℕ) (cs : List Before) (new old : List ℕ) : Type 0 where
  pub patches : List Patch
  pub at_bands : located bands cs ≡ Some patches
  pub zeros : all_zero (drop (length old) (all_laid patches new)) ≡ true
  pub same : padded (length old) (all_laid patches new) ≡ old

-- the before bytes of a verb's action put back what there was
abbrev pub PutsBackOf : Operations → Verb → List ℕ → List Before → Option Thing → Type 0
PutsBackOf t (Write from bytes) more cs (Some (There (Blob x) w)) = PutsBack (w.bands ++ more) cs (write from bytes x).1 x
PutsBackOf t (Size n) more cs (Some (There (Blob x) w)) = PutsBack (w.bands ++ more) cs (resize n x).1 x
PutsBackOf t (Paint from count code arg) more cs (Some (There (Blob x) w)) = PutsBack (w.bands ++ more) cs (paint t from count code arg x).1 x
PutsBackOf t verb more cs other = Unit {0}
