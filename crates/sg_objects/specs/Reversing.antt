-- What is asked of a note that is to be undone, and what its undoing does.
use Rattle.std.specs.Prelude.{◌≡◌, ℕ, ◌+◌, ◌≤◌, List, length, Option, Some}
use Rattle.sg_ops.specs.Table.{Table as Operations}
use Rattle.sg_space.specs.View.{View, Space}
use Rattle.sg_reading.specs.Reading.{Thing, slot}
use Rattle.sg_reading.specs.Back.{Undoing, UndoNote, Before, back}
use Rattle.sg_reading.specs.Back.Undoing.{WasBytes}
use Rattle.sg_contents.specs.Standing.{Contents, IsContents}
use Rattle.sg_contents.specs.Meaning.{reading}
use Rattle.sg_objects.specs.Needs.{needed_back, IsFree}
use Rattle.sg_objects.specs.Notes.{byte_at, undoing_said, note_said}
use Rattle.sg_objects.specs.PutBack.{HasBack}
use Rattle.sg_objects.specs.Undone.{CanUndo, IsUndone}

-- the further fields of a note of this code are whole, where it isn't one of bytes
pub record IsWhole (code : ℕ) (rest : List ℕ) : Type 0 where
  pub least : 1 ≤ code
  pub most : code ≤ 8
  pub root : code ≡ 2 → 4 ≤ length rest
  pub index : code ≡ 5 → 4 ≤ length rest
  pub numbers : code ≡ 6 → 6 ≤ length rest
  pub key : code ≡ 8 → 1 + byte_at rest 0 ≤ length rest

-- such a note can be undone where no before bytes go with it, and what that needs is free
pub record CanReverseBy (t : Operations) (v : View) (code : ℕ) (name rest : List ℕ) (s : Contents) : Type 0 where
  pub undo : CanUndo t (undoing_said code rest) name s
  pub whole : IsWhole code rest
  pub free : IsFree (needed_back (undoing_said code rest)) v.space

-- WHAT A NOTE'S UNDOING FINDS: the before bytes of the note's action are back in the bands, where it is one of bytes;
-- else all is as it was
abbrev pub IsPutBack : Undoing → List Before → (was now : Space) → Type 0
IsPutBack (WasBytes size) found was now = HasBack found was now
IsPutBack u found was now = now ≡ was

-- the note can be undone, and what that needs is free
pub record IsPossible (t : Operations) (v : View) (n : UndoNote) : Type 0 where
  pub was : Space
  pub contents : Contents
  pub there : IsContents was contents
  pub found : List Before
  pub put_back : IsPutBack n.undoes found was v.space
  pub th : Option Thing
  pub possible : back t n.undoes found (slot (reading contents) n.name) ≡ Some th
  pub free : IsFree (needed_back n.undoes) v.space

-- what the bytes say can be undone
abbrev pub HasNote : Operations → View → List ℕ → Type 0
HasNote t v bytes = v.Told → IsPossible t v (note_said bytes)

-- ANY NOTE IS UNDONE, of all contents that there were before any before bytes were put back
pub record UndoesAny (v w : View) (t : Operations) (u : Undoing) (name : List ℕ) : Type 0 where
  pub told : v.Told → w.Told
  pub done : v.Told → (was : Space) (s : Contents) → IsContents was s → (found : List Before) → IsPutBack u found was v.space → (th : Option Thing) → back t u found (slot (reading s) name) ≡ Some th → (s' : Contents) × IsUndone u name was w.space s th s'

-- the note that the bytes say was undone
abbrev pub Reverses : View → View → Operations → List ℕ → Type 0
Reverses v w t bytes = UndoesAny v w t (note_said bytes).undoes (note_said bytes).name
