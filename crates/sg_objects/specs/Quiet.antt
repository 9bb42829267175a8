-- WHAT A CALL ON OBJECTS WRITES of the log, and in bands.
use Rattle.std.specs.Prelude.{◌≡◌, ◌⊎◌, ℕ, List, [], None, Result, Ok, IfErr}
use Rattle.sg_blob.specs.Blob.{Blob, IsBlob, OwnsBand}
use Rattle.sg_catalog.specs.declared.row.ObjectKind.TheVariants as kinds
use Rattle.sg_model.specs.Verb.{Verb, Outcome}
use Rattle.sg_model.specs.Verb.Verb.{Write, Size, Paint}
use Rattle.sg_space.specs.Pages.{WritesNone}
use Rattle.sg_space.specs.View.{View, WritesIn}
use Rattle.sg_space.specs.declared.space.SpaceFault.{SpaceFault}
use Rattle.sg_space.specs.declared.space.SpaceFault.TheVariants.{LogEnd}
use Rattle.sg_contents.specs.Standing.{Contents, IsContents}
use Rattle.sg_contents.specs.Standing as standing
use Rattle.sg_objects.specs.Found.{IsAt}
use Rattle.sg_objects.specs.declared.verb.ObjFault.{ObjFault}
use Rattle.sg_objects.specs.declared.verb.ObjFault.TheVariants.{Space as InSpace}

-- the most records of a verb: those of a put whose table splits a bucket
abbrev pub most_records : ℕ
most_records = 40755

-- The most records of the freeing of an object's pages and bands: those of a table, 1,048,576 for its buckets, which may have all pages of a
-- space, and 70,139 for its directory and its root
abbrev pub most_body : ℕ
most_body = 1118715

-- the same with the record of its row: the most of the undo of one note, and of the freeing of one dropped object
abbrev pub most_freed : ℕ
most_freed = 1118716

-- no record was written, and an action that had changed nothing has still changed nothing
pub record IsQuiet (old new : View) : Type 0 where
  pub records : new.records ≡ old.records
  pub still : old.IsStill → new.IsStill

-- `WritesNone` of a call on objects
pub record WritesNoneObject {T : Type 0} (old new : View) (result : Result T ObjFault) : Type 0 where
  pub no_end : IfErr result (λ e. e ≡ InSpace LogEnd → ⊥)
  pub records : new.records ≡ old.records

-- a verb that can change nothing writes no record and notes nothing
pub record LooksAlone {T : Type 0} (old new : View) (result : Result T SpaceFault) (bytes : List ℕ) : Type 0 where
  pub writes : WritesNone old new result
  pub note : bytes ≡ []

pub record LooksAtObjects {T : Type 0} (old new : View) (result : Result T ObjFault) (bytes : List ℕ) : Type 0 where
  pub writes : WritesNoneObject old new result
  pub note : bytes ≡ []

-- a verb on a blob's bytes wrote bytes only on bands that the blob has now, each of which it had before, or which was free
pub record WroteBody (root : ℕ) (s : Contents) (v w : View) : Type 0 where
  pub blob : Blob
  pub stands : IsBlob w.space.pages.at w.space.bands.at root blob
  pub writes : WritesIn (OwnsBand blob.bands) v w
  pub taken : (n : ℕ) → OwnsBand blob.bands n → standing.OwnsBand (s.body root) n ⊎ (v.space.bands.at n ≡ None)

abbrev pub WritesBody : (name : List ℕ) → Contents → (v w : View) → Type 0
WritesBody name s v w = (root : ℕ) → IsAt kinds.Blob s name root → WroteBody root s v w

abbrev pub WritesBands : Verb → Outcome → (name : List ℕ) → Contents → (v w : View) → Type 0
WritesBands (Write at bytes) (Ok reply) name s v w = WritesBody name s v w
WritesBands (Size n) (Ok reply) name s v w = WritesBody name s v w
WritesBands (Paint at count code arg) (Ok reply) name s v w = WritesBody name s v w
WritesBands verb outcome name s v w = Unit {0}

-- of all contents that there were, and of which it could be asked
pub record Wrote (v w : View) (Can : Contents → Type 0) (name : List ℕ) (verb : Verb) (outcome : Outcome) : Type 0 where
  pub bands : v.Told → (s : Contents) → IsContents v.space s → Can s → WritesBands verb outcome name s v w
