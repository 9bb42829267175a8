-- WHAT OPERATIONS ON A TABLE COME TO: it is a map of keys to values.
use Rattle.std.specs.Prelude.{◌≡◌, ℕ, List, Some, None, Ok, Err}
use Rattle.std.specs.FinMap.{get, insert, remove, empty}
use Rattle.std.specs.Str.{bytes_eq}
use Rattle.std.specs.Prelude.{false}
use Rattle.sg_ops.specs.Table.{Table as Operations}
use Rattle.sg_model.specs.Objects.{Entries, Objects}
use Rattle.sg_model.specs.Objects.Object.{Table}
use Rattle.sg_model.specs.Verb.{Outcome, Verb}
use Rattle.sg_model.specs.Verb.Op.{On}
use Rattle.sg_model.specs.Verb.Reply.{Absent, Bytes, Done, New, Replaced}
use Rattle.sg_model.specs.Verb.Verb.{MakeTable, Put, Del, Find}
use Rattle.sg_model.specs.Step.{step}

-- these objects have a table of this name, with these entries
abbrev pub HasTable : Objects → List ℕ → Entries → Type 0
HasTable s name entries = get s name ≡ Some (Table entries)

-- a table is made: it has no entry
abbrev pub Makes : List ℕ → Outcome → Objects → Type 0
Makes name (Ok reply) after = HasTable after name empty
Makes name (Err reason) after = Unit {0}

-- a value is put under a key, and it is answered whether the key had one, or the table is as it was
abbrev pub Puts : List ℕ → Entries → (key value : List ℕ) → Outcome → Objects → Type 0
Puts name entries key value (Ok New) after = (get entries key ≡ None) × HasTable after name (insert entries key value)
Puts name entries key value (Ok Replaced) after = ((old : List ℕ) × (get entries key ≡ Some old)) × HasTable after name (insert entries key value)
Puts name entries key value (Ok other) after = ⊥
Puts name entries key value (Err reason) after = HasTable after name entries

-- a key is taken out, where it is there, or the table is as it was
abbrev pub Takes : List ℕ → Entries → (key : List ℕ) → Outcome → Objects → Type 0
Takes name entries key (Ok Done) after = ((value : List ℕ) × (get entries key ≡ Some value)) × HasTable after name (remove entries key)
Takes name entries key (Ok Absent) after = (get entries key ≡ None) × HasTable after name entries
Takes name entries key (Ok other) after = ⊥
Takes name entries key (Err reason) after = HasTable after name entries

-- a key is looked for, and the table is as it was
abbrev pub Finds : List ℕ → Entries → (key : List ℕ) → Outcome → Objects → Type 0
Finds name entries key (Ok (Bytes value)) after = (get entries key ≡ Some value) × HasTable after name entries
Finds name entries key (Ok Absent) after = (get entries key ≡ None) × HasTable after name entries
Finds name entries key (Ok other) after = ⊥
Finds name entries key (Err reason) after = HasTable after name entries

-- TABLES ARE MAPS, with these operations: what is answered to a verb on a table, and the objects after it; and a verb on one
-- object leaves each other one
pub record AreMaps (t : Operations) : Type 0 where
  pub made : (s : Objects) (name : List ℕ) → let r = step t s (On name MakeTable) in Makes name r.0 r.1
  pub put : (s : Objects) (name : List ℕ) (entries : Entries) (key value : List ℕ) → HasTable s name entries
      → let r = step t s (On name (Put key value)) in Puts name entries key value r.0 r.1
  pub taken : (s : Objects) (name : List ℕ) (entries : Entries) (key : List ℕ) → HasTable s name entries → let r = step t s (On name (Del key)) in
      Takes name entries key r.0 r.1
  pub found : (s : Objects) (name : List ℕ) (entries : Entries) (key : List ℕ) → HasTable s name entries → let r = step t s (On name (Find key)) in
      Finds name entries key r.0 r.1
  pub apart : (s : Objects) (name other : List ℕ) (verb : Verb) → bytes_eq other name ≡ false → get (step t s (On other verb)).1 name ≡ get s name
