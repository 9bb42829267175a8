-- The note over plain objects that a note of a log amounts to where it is undone.
use Rattle.std.specs.Prelude.{ℕ, List, Option, Some, None}
use Rattle.sg_ops.specs.Table.{Table as Operations, record_at}
use Rattle.sg_ops.specs.Meaning.{RecordMeaning}
use Rattle.sg_model.specs.Objects.{Objects}
use Rattle.sg_model.specs.Step.{put_at}
use Rattle.sg_model.specs.Undo.{Note, OpNote, undo}
use Rattle.sg_model.specs.Touches.{seen}
use Rattle.sg_model.specs.Touches.Part.{Item, Body}
use Rattle.sg_reading.specs.Reading.{Tomb, object_of, plain, Slot, thing_extra}
use Rattle.sg_reading.specs.Back.{Undoing, Before, Patch, located, padded, all_laid}
use Rattle.sg_reading.specs.Back.Undoing.{WasNothing, WasMake, WasDrop, WasPush, WasPop, WasSet, WasApply, WasPut, WasOver, WasBytes}
use Rattle.std.specs.FinMap.{get}

-- a dropped object, by its tombstone
abbrev pub dug_note : Option Tomb → Note
dug_note None = Note.Nothing
dug_note (Some d) = Note.WasDropped (object_of d.thing)

-- an item that an operation made, by what its undo gives
abbrev pub reversed : ℕ → List ℕ → Option RecordMeaning → Option (List ℕ) → Note
reversed i arg None item = Note.Nothing
reversed i arg (Some m) None = Note.Nothing
reversed i arg (Some m) (Some item) = Note.WasSet i (m.before item arg)

-- bytes of a blob: all that it had, from the first on
abbrev pub laid_note : ℕ → List ℕ → Option (List Patch) → Note
laid_note n bytes None = Note.Nothing
laid_note n bytes (Some ps) = Note.HadBytes 0 (padded n (all_laid ps bytes)) n

-- by what stands under the name
abbrev pub plainly : Operations → Undoing → List Before → Slot → Note
plainly t WasNothing cs s = Note.Nothing
plainly t WasMake cs s = Note.WasMade
plainly t (WasDrop r) cs s = dug_note (s.buried r)
plainly t WasPush cs s = Note.WasPushed
plainly t (WasPop item) cs s = Note.WasPopped item
plainly t (WasSet i item) cs s = Note.WasSet i item
plainly t (WasApply i code arg) cs s = reversed i arg (record_at t code) (seen (plain s.thing) (Item i))
plainly t (WasPut k) cs s = Note.WasPut k
plainly t (WasOver k v) cs s = Note.HadValue k v
plainly t (WasBytes n) cs s = laid_note n (seen (plain s.thing) Body) (located (thing_extra s.thing Body).bands cs)

-- the objects with a plain note undone under its name
abbrev pub unstep_plain : Objects → OpNote → Objects
unstep_plain s n = put_at s n.0 (undo n.1 (get s n.0))
