-- Undo notes, and what undoes a verb in a reading, where that is possible.
use Rattle.std.specs.Prelude.{ℕ, suc, ◌+◌, ◌-◌, ◌*◌, Bool, true, false, cond, ◌==◌, ◌&&◌, ◌||◌, not, nat_lt, nat_le, if◌then◌else◌, List, [], ◌∷◌, ◌++◌, length, take, drop, replicate, map, Option, Some, None, Ok, Err}
use Rattle.std.specs.List.{list_any}
use Rattle.std.specs.Str.{bytes_eq}
use Rattle.std.specs.FinMap.{insert, remove}
use Rattle.sg_serial.specs.Locks.{Touch}
use Rattle.sg_ops.specs.Table.{Table as Operations, record_at}
use Rattle.sg_ops.specs.Meaning.{RecordMeaning}
use Rattle.sg_model.specs.Objects.{Row, Object}
use Rattle.sg_model.specs.Verb.{Outcome}
use Rattle.sg_model.specs.Verb.Verb.{Push, Pop, Set, Apply, Put, Del, Size}
use Rattle.sg_model.specs.Verb.Reply.{Done}
use Rattle.sg_model.specs.declared.reason.Reason.TheVariants.{OutOfRange, NoOperation, Declined, TooLong}
use Rattle.sg_model.specs.Step.{push, pop, at_item, set_to, Update, at_key, put_value, Change, on_array, on_table, on_blob}
use Rattle.sg_model.specs.Step.Update.{Stays, Goes}
use Rattle.sg_model.specs.Touches.{Region, Resource, Reach, to_write, covers_part, seen, reach_of, touch_of}
use Rattle.sg_model.specs.Touches.Part.{Length, Body}
use Rattle.sg_model.specs.Touches.Region.{Just, EachKey, Everything}
use Rattle.sg_model.specs.Touches.Resource.{Of, Names}
use Rattle.sg_reading.specs.Reading.{Thing, Tomb, Reading, plain, Slot, slot, thing_extra}
use Rattle.sg_reading.specs.Reading.Thing.{There}

-- What a note undoes: a drop with the root of what it dropped; a pop, a set, a replacing put and a del with what was there; an
-- apply with its index, operation and argument; a change of a blob's bytes with the length that it had
pub data Undoing : Type 0 where
  WasNothing : Undoing
  WasMake : Undoing
  WasDrop : (root : ℕ) → Undoing
  WasPush : Undoing
  WasPop : (item : List ℕ) → Undoing
  WasSet : (index : ℕ) → (item : List ℕ) → Undoing
  WasApply : (index code : ℕ) → (arg : List ℕ) → Undoing
  WasPut : (key : List ℕ) → Undoing
  WasOver : (key value : List ℕ) → Undoing
  WasBytes : (length : ℕ) → Undoing

pub record UndoNote : Type 0 where
  pub name : List ℕ
  pub undoes : Undoing

-- the bytes that a segment record of a note's action found, on a band outside the map's bands
pub record Before : Type 0 where
  pub band : ℕ
  pub at : ℕ
  pub bytes : List ℕ

-- Before bytes

-- bytes from a position of a blob on
pub record Patch : Type 0 where
  pub from : ℕ
  pub bytes : List ℕ

-- the place of a band among a blob's bands
abbrev pub next_place : Option ℕ → Option ℕ
next_place None = None
next_place (Some j) = Some (suc j)

abbrev pub place_of : List ℕ → ℕ → Option ℕ
place_of [] band = None
place_of (b ∷ bs) band = cond (b == band) (Some 0) (next_place (place_of bs band))

abbrev pub one_more : Before → Option ℕ → Option (List Patch) → Option (List Patch)
one_more c None ps = None
one_more c (Some j) None = None
one_more c (Some j) (Some ps) = Some ((record { from = 32768 * j + c.at; bytes = c.bytes }) ∷ ps)

-- the before bytes at their positions in the blob, where all are on its bands
abbrev pub located : List ℕ → List Before → Option (List Patch)
located bands [] = Some []
located bands (c ∷ cs) = one_more c (place_of bands c.band) (located bands cs)

-- the first n bytes, with bytes 0 behind the end
abbrev pub padded : ℕ → List ℕ → List ℕ
padded n xs = take n xs ++ replicate (n - length xs) 0

abbrev pub laid : Patch → List ℕ → List ℕ
laid p xs = padded p.from xs ++ (p.bytes ++ drop (p.from + length p.bytes) xs)

-- the first patch first
abbrev pub all_laid : List Patch → List ℕ → List ℕ
all_laid [] xs = xs
all_laid (p ∷ ps) xs = all_laid ps (laid p xs)

-- the bytes before a change of a blob, and its length then: behind that length there is nothing but zeros
abbrev pub all_zero : List ℕ → Bool
all_zero [] = true
all_zero (x ∷ xs) = (x == 0) && all_zero xs

abbrev pub lay : ℕ → List Patch → List ℕ → Outcome × List ℕ
lay n ps xs = let r = all_laid ps xs in if all_zero (drop n r) then (Ok Done, padded n r) else (Err OutOfRange, xs)

-- What a note does to the object of a name, once it is found out from peaks and bands

pub data Plan : Type 0 where
  TakeLast : Plan
  Append : (item : List ℕ) → Plan
  Replace : (index : ℕ) → (item : List ℕ) → Plan
  Reverse : (index code : ℕ) → (arg : List ℕ) → Plan
  Forget : (key : List ℕ) → Plan
  Restore : (key value : List ℕ) → Plan
  Lay : (length : ℕ) → (patches : List Patch) → Plan

abbrev pub lay_plan : ℕ → Option (List Patch) → Option Plan
lay_plan n None = None
lay_plan n (Some ps) = Some (Lay n ps)

-- A pop is undone only below the peak of the length, so that no page is wanted; bytes only up to the peak, and only where all
-- before bytes are on the blob's bands
abbrev pub planned : Undoing → List Before → Option Thing → Option Plan
planned WasNothing cs th = None
planned WasMake cs th = None
planned (WasDrop r) cs th = None
planned WasPush cs th = Some TakeLast
planned (WasPop item) cs th = if nat_lt (seen (plain th) Length) (thing_extra th Length) then Some (Append item) else None
planned (WasSet i item) cs th = Some (Replace i item)
planned (WasApply i code arg) cs th = Some (Reverse i code arg)
planned (WasPut k) cs th = Some (Forget k)
planned (WasOver k v) cs th = Some (Restore k v)
planned (WasBytes n) cs th = if nat_le n (thing_extra th Body).peak then lay_plan n (located (thing_extra th Body).bands cs) else None

-- the item of which an operation makes this one, if it does
abbrev pub undone_by : List ℕ → List ℕ → Option RecordMeaning → Outcome × Option (List ℕ)
undone_by arg item None = (Err NoOperation, None)
undone_by arg item (Some m) = let old = m.before item arg in if m.accepts old arg && bytes_eq (m.after old arg) item then (Ok Done, Some old) else (Err Declined, None)

abbrev pub unapply : Operations → ℕ → ℕ → List ℕ → Row → Outcome × Row
unapply t index code arg row =
    if nat_lt 256 (length arg) then (Err TooLong, row) else at_item index (λ size item. undone_by arg item (record_at t code)) row

abbrev pub forget : Option (List ℕ) → Outcome × Update
forget None = (Err OutOfRange, Stays)
forget (Some value) = (Ok Done, Goes)

-- each plan is the change of a verb, or the way back of an operation
abbrev pub change : Operations → Plan → Option Object → Change
change t TakeLast = on_array pop
change t (Append item) = on_array (push item)
change t (Replace i item) = on_array (at_item i (set_to item))
change t (Reverse i code arg) = on_array (unapply t i code arg)
change t (Forget k) = on_table (at_key k forget)
change t (Restore k v) = on_table (at_key k (put_value v))
change t (Lay n ps) = on_blob (lay n ps)

-- the thing with another object
abbrev pub rebuilt : Option Thing → Option Object → Option Thing
rebuilt None o = None
rebuilt (Some th) None = None
rebuilt (Some (There o w)) (Some p) = Some (There p w)

abbrev pub if_done : Outcome → Option Thing → Option (Option Thing)
if_done (Ok reply) th = Some th
if_done (Err reason) th = None

abbrev pub carried_out : Operations → Option Plan → Option Thing → Option (Option Thing)
carried_out t None th = None
carried_out t (Some plan) th = let r = change t plan (plain th) in if_done r.0 (rebuilt th r.1)

-- an object that was made is there, and goes
abbrev pub unmade : Option Thing → Option (Option Thing)
unmade None = None
unmade (Some th) = Some None

-- one that was dropped comes back whole, where the name is free
abbrev pub raised : Option Thing → Option Tomb → Option (Option Thing)
raised (Some th) d = None
raised None None = None
raised None (Some d) = Some (Some d.thing)

-- what stands under the name once the note is undone, where that is possible
abbrev pub back : Operations → Undoing → List Before → Slot → Option (Option Thing)
back t WasMake cs s = unmade s.thing
back t (WasDrop r) cs s = raised s.thing (s.buried r)
back t u cs s = carried_out t (planned u cs s.thing) s.thing

-- the root of the tombstone that goes
abbrev pub raises : Undoing → Option ℕ
raises (WasDrop r) = Some r
raises u = None

-- a reading with another thing under a name, or with none
abbrev pub with_thing : Reading → List ℕ → Option Thing → Reading
with_thing o n None = record o { things = remove o.things n }
with_thing o n (Some th) = record o { things = insert o.things n th }

abbrev pub without_tomb : Reading → List ℕ → Option ℕ → Reading
without_tomb o n None = o
without_tomb o n (Some r) = record o { tombs = remove o.tombs (r ∷ n) }

abbrev pub put_back : Reading → UndoNote → Option (Option Thing) → Option Reading
put_back o n None = None
put_back o n (Some th) = Some (with_thing (without_tomb o n.name (raises n.undoes)) n.name th)

-- the reading with a note undone, with the before bytes of its action, the last first
abbrev pub unstep : Operations → Reading → UndoNote → List Before → Option Reading
unstep t o n cs = put_back o n (back t n.undoes cs (slot o n.name))

-- what the undoing of a note looks at or changes: what the verb writes that changes as it does
abbrev pub note_reach : Undoing → Option Object → List Reach
note_reach WasNothing o = []
note_reach WasMake o = to_write Everything ∷ []
note_reach (WasDrop r) o = to_write Everything ∷ []
note_reach WasPush o = reach_of Pop o
note_reach (WasPop item) o = reach_of (Push item) o
note_reach (WasSet i item) o = reach_of (Set i item) o
note_reach (WasApply i code arg) o = reach_of (Apply i code arg) o
note_reach (WasPut k) o = reach_of (Del k) o
note_reach (WasOver k v) o = reach_of (Put k v) o
note_reach (WasBytes n) o = reach_of (Size n) o

abbrev pub note_touches : Reading → UndoNote → List (Touch Resource)
note_touches o n = map (touch_of n.name) (note_reach n.undoes (plain (slot o n.name).thing))

-- Sets of cells: those that some touches write

-- a region within another
abbrev pub below_region : Region → Region → Bool
below_region (Just p) r = covers_part r p
below_region EachKey EachKey = true
below_region r Everything = true
below_region r s = false

abbrev pub below : Resource → Resource → Bool
below (Of m r) (Of n s) = bytes_eq n m && below_region r s
below Names Names = true
below a b = false

-- all that the first touches write is within what the second ones write
abbrev pub inside : List (Touch Resource) → List (Touch Resource) → Bool
inside [] ys = true
inside (x ∷ xs) ys = (not x.write || list_any (λ y. y.write && below x.what y.what) ys) && inside xs ys
