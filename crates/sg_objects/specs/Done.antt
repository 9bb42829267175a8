-- What a verb on an object makes of all that stands in pages and bands.
use Rattle.std.specs.Prelude.{◌≡◌, ℕ, ◌≤◌, max, IsOk, List, [], length, Option, None, Ok, Err}
use Rattle.std.specs.FinMap.{get}
use Rattle.sg_ops.specs.Table.{Table as Operations}
use Rattle.sg_model.specs.Step.{on}
use Rattle.sg_model.specs.Verb.{Verb, Outcome}
use Rattle.sg_catalog.specs.Catalog.{rows}
use Rattle.sg_space.specs.View.{View, Space}
use Rattle.sg_reading.specs.Reading.{Thing, plain}
use Rattle.sg_reading.specs.Noted.{noted}
pub use Rattle.sg_reading.specs.Left.{Leaves, done_by, IsLeft}
use Rattle.sg_contents.specs.Standing.{Contents, IsContents}
use Rattle.sg_contents.specs.Meaning.{reading, IsCounted}
use Rattle.sg_contents.specs.Limits.{limit}
use Rattle.sg_objects.specs.Needs.{needed, IsFree, HasTaken}
use Rattle.sg_objects.specs.Notes.{note_bytes}

-- The action has only begun: it may take pages and bands, and open each slot that a page of the contents may have.
pub record IsFresh (v : View) : Type 0 where
  pub may_take : v.MayTake
  pub may_fill : (s : Contents) → IsContents v.space s → (page slots : ℕ) → slots ≤ limit s v.space.pages.at page → (v.space.pages.at page ≡ None → ⊥) → v.MayHave page slots

-- what a verb leaves, by its outcome: nothing has changed where it was refused
abbrev pub Effect : Operations → ℕ → List ℕ → Verb → Outcome → Contents → Contents → Type 0
Effect t by name verb (Ok reply) s s' = IsLeft t by name verb (reading s) (reading s')
Effect t by name verb (Err reason) s s' = s' ≡ s

-- no more was taken than an accepted verb needs
abbrev pub Takes : Verb → Outcome → Option Thing → Space → Space → Type 0
Takes verb (Ok reply) th old new = HasTaken (needed verb th) old new
Takes verb (Err reason) th old new = Unit {0}

-- what is noted, by the outcome: nothing of a verb that was refused
abbrev pub note_after : List ℕ → Verb → Outcome → Option Thing → List ℕ
note_after name verb (Ok reply) thing = note_bytes name (noted verb thing)
note_after name verb (Err reason) thing = []

-- THE STEP: a verb with this outcome left these contents, and a note that undoes it
pub record IsDone (t : Operations) (by : ℕ) (name : List ℕ) (verb : Verb) (outcome : Outcome) (note : List ℕ) (old new : Space) (s s' : Contents) : Type 0 where
  pub contents : IsContents new s'
  pub outcome_is : (on t verb (plain (get (reading s).things name))).0 ≡ outcome
  pub effect : Effect t by name verb outcome s s'
  pub note_is : note ≡ note_after name verb outcome (get (reading s).things name)
  -- without a note nothing was changed
  pub alone : note ≡ [] → (new ≡ old) × (s' ≡ s)
  -- what isn't free is still what the contents have
  pub counted : IsCounted old s → IsCounted new s'
  -- the catalogue had at most so many rows
  pub peak : s'.catalog.peak ≡ max s.catalog.peak (length (rows s'.catalog))
  pub taken : Takes verb outcome (get (reading s).things name) old new

-- so much is free as an accepted verb needs
pub record HasRoomFor (t : Operations) (v : View) (name : List ℕ) (verb : Verb) (s : Contents) : Type 0 where
  pub room : IsOk (on t verb (plain (get (reading s).things name))).0 → IsFree (needed verb (get (reading s).things name)) v.space

-- what a call did to all contents that there were, and of which it could be asked
pub record Did (v w : View) (Can : Contents → Type 0) (Is : Contents → Contents → Type 0) : Type 0 where
  pub told : v.Told → w.Told
  pub done : v.Told → (s : Contents) → IsContents v.space s → Can s → (s' : Contents) × Is s s'
