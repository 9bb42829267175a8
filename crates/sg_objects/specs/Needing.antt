-- What an operation is said to need.
use Rattle.std.specs.Prelude.{◌≡◌, ℕ, IsOk, List}
use Rattle.std.specs.FinMap.{get}
use Rattle.sg_ops.specs.Table.{Table as Operations}
use Rattle.sg_model.specs.Step.{on}
use Rattle.sg_model.specs.Verb.{Verb}
use Rattle.sg_reading.specs.Reading.{plain}
use Rattle.sg_contents.specs.Meaning.{reading}
use Rattle.sg_contents.specs.Standing.{Contents}
use Rattle.sg_objects.specs.Needs.{Needed, needed}
use Rattle.sg_objects.specs.declared.need.Needs as code

abbrev pub needed_of : code.Needs → Needed
needed_of n = record { pages = n.pages; bands = n.bands; reserve = n.reserve }

-- the verb is accepted, and needs this
pub record HasNeed (t : Operations) (name : List ℕ) (verb : Verb) (s : Contents) (n : code.Needs) : Type 0 where
  pub accepted : IsOk (on t verb (plain (get (reading s).things name))).0
  pub needs : needed_of n ≡ needed verb (get (reading s).things name)
