-- What a verb does to a reading.
use Rattle.std.specs.Prelude.{◌≡◌, ℕ, ◌+◌, max, Bool, true, cond, ◌==◌, List, [], ◌∷◌, ◌++◌, length, Option, Some, None, is_ok}
use Rattle.std.specs.Str.{bytes_eq}
use Rattle.std.specs.FinMap.{insert, entries, len}
use Rattle.sg_serial.specs.Locks.{Touch}
use Rattle.sg_ops.specs.Table.{Table as Operations}
use Rattle.sg_model.specs.Objects.{Entries, Object}
use Rattle.sg_model.specs.Verb.{Verb, Op}
use Rattle.sg_model.specs.Objects.Object.{Array, Table, Blob}
use Rattle.sg_model.specs.Verb.Verb.{Discard, Put}
use Rattle.sg_model.specs.Verb.Op.{On, Names as AllNames}
use Rattle.sg_model.specs.Step.{on}
use Rattle.sg_model.specs.Touches.{Cell, Resource, touches}
use Rattle.sg_reading.specs.Reading.{Thing, Tomb, Reading, around_of, plain, objects, Slot, slot, Shown, shown, at}
use Rattle.sg_reading.specs.Reading.Thing.{There}
use Rattle.sg_reading.specs.Back.{with_thing}

-- A verb as it was done: with what it touched, its transaction, the root page for an object that it made, and the
-- bands that it took
pub record Did : Type 0 where
  pub op : Op
  pub touches : List (Touch Resource)
  pub by : ℕ
  pub root : ℕ
  pub bands : List ℕ

-- what entries take in buckets: two lengths of two bytes, the key and the value
abbrev pub bytes_of : List (List ℕ × List ℕ) → ℕ
bytes_of [] = 0
bytes_of (e ∷ es) = (4 + length e.0 + length e.1) + bytes_of es

abbrev pub entry_bytes : Entries → ℕ
entry_bytes m = bytes_of (entries m)

-- the peak beside an object that a verb left. That of a table is raised by an accepted put alone: undo can leave more entry
-- bytes than the peak says, and what only reads must not raise it
abbrev pub risen : Verb → Bool → Object → ℕ → ℕ
risen verb done (Array row) old = max old (length row.items)
risen verb done (Blob x) old = max old (length x)
risen (Put k v) true (Table m) old = max old (entry_bytes m)
risen verb done (Table m) old = old

-- the root of what was there, or of what was made
abbrev pub root_or : ℕ → Option Thing → ℕ
root_or root None = root
root_or root (Some th) = (around_of th).root

abbrev pub old_peak : Option Thing → ℕ
old_peak None = 0
old_peak (Some th) = (around_of th).peak

abbrev pub old_bands : Option Thing → List ℕ
old_bands None = []
old_bands (Some th) = (around_of th).bands

-- what stands under a name, where a verb has left an object there: the bands that it took are behind those that it had
abbrev pub grown : Did → Verb → Bool → Option Thing → Option Object → Option Thing
grown d verb done th None = None
grown d verb done th (Some o) = Some (There o (record { root = root_or d.root th; peak = risen verb done o (old_peak th); bands = old_bands th ++ d.bands }))

-- a dropped object is buried whole, under its root
abbrev pub entombed : Did → Option Thing → ℕ → Option Tomb → Option Tomb
entombed d None r old = old
entombed d (Some th) r old = cond ((around_of th).root == r) (Some (record { dropper = d.by; thing = th })) old

abbrev pub buried_by : Did → Verb → Slot → ℕ → Option Tomb
buried_by d Discard s r = entombed d s.thing r (s.buried r)
buried_by d verb s r = s.buried r

-- what a verb leaves under its name
abbrev pub slot_after : Operations → Did → Verb → Slot → Slot
slot_after t d verb s = let r = on t verb (plain s.thing) in record { thing = grown d verb (is_ok r.0) s.thing r.1; buried = buried_by d verb s }

-- what it leaves in a cell that it writes
abbrev pub result_of : Operations → Did → Op → Reading → (c : Cell) → Shown c.part
result_of t d (On n verb) o c = shown (cond (bytes_eq n c.name) (slot_after t d verb (slot o n)) (slot o c.name)) c.part
result_of t d AllNames o c = at o c

abbrev pub result : Operations → Did → Reading → (c : Cell) → Shown c.part
result t d o c = result_of t d d.op o c

-- the touches are those of the verb in this reading
abbrev pub IsAt : Did → Reading → Type 0
IsAt d o = touches (objects o) d.op ≡ d.touches

-- The whole reading after it

abbrev pub with_tomb : Did → Verb → List ℕ → Option Thing → Reading → Reading
with_tomb d Discard n (Some th) o = record o { tombs = insert o.tombs ((around_of th).root ∷ n) (record { dropper = d.by; thing = th }) }
with_tomb d verb n th o = o

-- the catalogue's peak is at least the number of its entries, objects and tombstones
abbrev pub counted : Reading → Reading
counted o = record o { peak = max o.peak (len o.things + len o.tombs) }

abbrev pub done_on : Operations → Did → Op → Reading → Reading
done_on t d (On n verb) o = counted (with_thing (with_tomb d verb n (slot o n).thing o) n (slot_after t d verb (slot o n)).thing)
done_on t d AllNames o = o

abbrev pub done : Operations → Did → Reading → Reading
done t d o = done_on t d d.op o
