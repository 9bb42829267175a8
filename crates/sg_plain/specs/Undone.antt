-- The code's notes of what was done to objects, without where they lie in memory, and what takes it back.
use Rattle.std.specs.Prelude.{ℕ, List, map, Option}
use Rattle.sg_model.specs.Objects.{Object}
use Rattle.sg_model.specs.Undo.{Note, OpNote, undo_all_on}
use Rattle.sg_model.specs.Undo.Note.{Nothing, WasMade, WasDropped, WasPushed, WasPopped, WasSet, WasPut, HadValue, HadBytes}
use Rattle.sg_plain.specs.declared.undo.Undo as code_undo
use Rattle.sg_plain.specs.declared.undo.Undo.TheVariants as undos
use Rattle.sg_plain.specs.declared.undo.Noted as code_noted
use Rattle.sg_plain.specs.declared.changes.Changes as code_changes
use Rattle.sg_plain.specs.Shown.{shown}

abbrev pub shown_undo : code_undo.Undo → Note
shown_undo undos.Nothing = Nothing
shown_undo undos.Made = WasMade
shown_undo (undos.Dropped object) = WasDropped (shown object)
shown_undo undos.Pushed = WasPushed
shown_undo (undos.Popped item) = WasPopped item.items
shown_undo (undos.Set index item) = WasSet index item.items
shown_undo (undos.New key) = WasPut key
shown_undo (undos.Value key bytes) = HadValue key bytes.items
shown_undo (undos.Bytes at bytes length) = HadBytes at bytes.items length

abbrev pub shown_noted : code_noted.Noted → OpNote
shown_noted noted = (noted.name, shown_undo noted.undo)

-- what stood under a name before the changes, by what stands there now
abbrev pub undo_in : code_changes.Changes → List ℕ → Option Object → Option Object
undo_in changes name object = undo_all_on name (map shown_noted changes.notes.items) object
