-- A NOTE OF BYTES, whose before bytes are back in the bands: the root still says the other length.
use Rattle.std.specs.Prelude.{◌≡◌, ℕ, List, length, Option, Some, None}
use Rattle.sg_ops.specs.Table.{Table as Operations}
use Rattle.sg_space.specs.View.{View, Space}
use Rattle.sg_reading.specs.Reading.{Thing, slot}
use Rattle.sg_reading.specs.Back.{Before, back}
use Rattle.sg_reading.specs.Back.Undoing.{WasBytes}
use Rattle.sg_before.specs.Laying.{put_on}
use Rattle.sg_contents.specs.Standing.{Contents, IsContents}
use Rattle.sg_contents.specs.Meaning.{reading}
use Rattle.sg_objects.specs.Undone.{IsUndone}

-- The before bytes are back in the bands of a space, each of which has its 32,768 bytes, and nothing else has changed
pub record HasBack (found : List Before) (was now : Space) : Type 0 where
  pub pages : now.pages ≡ was.pages
  pub band : (b : ℕ) (bytes : List ℕ) → was.bands.at b ≡ Some bytes → now.bands.at b ≡ Some (put_on found b bytes)
  pub none : (b : ℕ) → was.bands.at b ≡ None → now.bands.at b ≡ None
  pub free : now.bands.free ≡ was.bands.free
  pub count : now.bands.count ≡ was.bands.count
  pub whole : (b : ℕ) (bytes : List ℕ) → now.bands.at b ≡ Some bytes → length bytes ≡ 32768

-- they were put back where the note can be undone
pub record CanUndoBytes (t : Operations) (size : ℕ) (name : List ℕ) (now : Space) : Type 0 where
  pub was : Space
  pub contents : Contents
  pub reads : IsContents was contents
  pub found : List Before
  pub put_back : HasBack found was now
  pub th : Option Thing
  pub possible : back t (WasBytes size) found (slot (reading contents) name) ≡ Some th

-- THE NOTE IS UNDONE, of all contents that there were before the bytes were put back
pub record UndoesBytes (v w : View) (t : Operations) (size : ℕ) (name : List ℕ) : Type 0 where
  pub told : v.Told → w.Told
  pub done : v.Told → (was : Space) (s : Contents) → IsContents was s → (found : List Before) → HasBack found was v.space → (th : Option Thing) → back t (WasBytes size) found (slot (reading s) name) ≡ Some th → (s' : Contents) × IsUndone (WasBytes size) name was w.space s th s'
