-- What a search for the object of a name tells.
use Rattle.std.specs.Prelude.{◌≡◌, ◌≢◌, ◌<◌, ◌≤◌, IsTrue, slice_get, ℕ, List, length, Option, Some, None, Result, Ok, Err}
use Rattle.sg_array.specs.Array.{Array}
use Rattle.sg_base.specs.declared.numbers.PageNo.{PageNo}
use Rattle.sg_catalog.specs.Catalog.{rows, there}
use Rattle.sg_catalog.specs.declared.row.ObjectKind.{ObjectKind}
use Rattle.sg_catalog.specs.declared.row.ObjectKind.TheVariants as kinds
use Rattle.sg_catalog.specs.declared.row.Row.{Row}
use Rattle.sg_model.specs.declared.reason.Reason.{Reason}
use Rattle.sg_model.specs.declared.reason.Reason.TheVariants.{NoObject, WrongKind}
use Rattle.std.specs.FinMap.{get}
use Rattle.sg_ops.specs.Table.{Table as Operations, record_at, accepts_of}
use Rattle.sg_model.specs.Step.{on, on_table, at_key, put_value, len, Update}
use Rattle.sg_model.specs.Verb.Reply.{Number}
use Rattle.sg_model.specs.Verb.{Verb, Outcome}
use Rattle.sg_reading.specs.Reading.{plain}
use Rattle.sg_contents.specs.Meaning.{reading}
use Rattle.sg_contents.specs.Standing.{Contents}
use Rattle.sg_contents.specs.Standing.Body.{AnArray}
use Rattle.sg_objects.specs.declared.find.ArrayAt.{ArrayAt}

-- the name is that of an object of this kind with this root
pub record IsAt (kind : ObjectKind) (s : Contents) (name : List ℕ) (root : ℕ) : Type 0 where
  pub row : Row
  pub found : there name (rows s.catalog) ≡ Some row
  pub kind_is : row.kind ≡ kind
  pub root_is : row.root.0 ≡ root

-- the name is that of an object of another kind
pub record IsOther (kind : ObjectKind) (s : Contents) (name : List ℕ) : Type 0 where
  pub row : Row
  pub found : there name (rows s.catalog) ≡ Some row
  pub kind_is : row.kind ≢ kind

-- why there is no such object
abbrev pub IsMissing : ObjectKind → Contents → List ℕ → Reason → Type 0
IsMissing kind s name NoObject = there name (rows s.catalog) ≡ None
IsMissing kind s name WrongKind = IsOther kind s name
IsMissing kind s name reason = ⊥

abbrev pub IsLocated : ObjectKind → List ℕ → Contents → Result PageNo Reason → Type 0
IsLocated kind name s (Ok root) = IsAt kind s name root.0
IsLocated kind name s (Err reason) = IsMissing kind s name reason

-- an array stands under the name, with this root, item size and length
pub record IsArrayAt (name : List ℕ) (s : Contents) (x : ArrayAt) : Type 0 where
  pub at : IsAt kinds.Array s name x.root.0
  pub array : Array
  pub body_is : s.body x.root.0 ≡ AnArray array
  pub size_is : x.size ≡ array.size
  pub len_is : x.len ≡ length array.items

abbrev pub IsArrayFound : List ℕ → Contents → Result ArrayAt Reason → Type 0
IsArrayFound name s (Ok x) = IsArrayAt name s x
IsArrayFound name s (Err reason) = IsMissing kinds.Array s name reason

-- A verb was looked at: it would be refused for this reason, or it may be done, and what was found has this property
abbrev pub Checked : {X : Type 0} → List ℕ → Verb → Contents → (X → Type 0) → Result X Reason → Type 0
Checked name verb s Is (Ok x) = Is x
Checked name verb s Is (Err reason) = (t : Operations) → (on t verb (plain (get (reading s).things name))).0 ≡ Err reason

pub record CanPushTo (name : List ℕ) (size : ℕ) (s : Contents) (x : ArrayAt) : Type 0 where
  pub at : IsArrayAt name s x
  pub fits : size ≡ x.size
  pub few : x.len < 1048576

pub record CanPopOf (name : List ℕ) (s : Contents) (x : ArrayAt) : Type 0 where
  pub at : IsArrayAt name s x
  pub some : 0 < x.len

pub record HasItem (name : List ℕ) (index : ℕ) (s : Contents) (x : ArrayAt) : Type 0 where
  pub at : IsArrayAt name s x
  pub below : index < x.len

pub record CanSetIn (name : List ℕ) (index size : ℕ) (s : Contents) (x : ArrayAt) : Type 0 where
  pub at : IsArrayAt name s x
  pub below : index < x.len
  pub fits : size ≡ x.size

-- the same, where what a verb does is said by the table of operations
pub record CheckedBy {X : Type 0} (t : Operations) (name : List ℕ) (verb : Verb) (s : Contents) (Is : X → Type 0) (r : Result X Reason) : Type 0 where
  pub ok : (x : X) → r ≡ Ok x → Is x
  pub err : (reason : Reason) → r ≡ Err reason → (on t verb (plain (get (reading s).things name))).0 ≡ Err reason

pub record CanApplyTo (t : Operations) (name : List ℕ) (index code : ℕ) (arg : List ℕ) (s : Contents) (x : ArrayAt) : Type 0 where
  pub at : IsArrayAt name s x
  pub below : index < x.len
  pub short : length arg ≤ 256
  pub small : code < 65536
  pub accepted : (item : List ℕ) → slice_get at.array.items index ≡ Some item → IsTrue (accepts_of (record_at t code) item arg)

-- a key of a table was looked at, whatever is to be done to it
abbrev pub KeyChecked : List ℕ → List ℕ → Contents → Result PageNo Reason → Type 0
KeyChecked name key s (Ok root) = IsAt kinds.Table s name root.0 × (1 ≤ length key) × (length key ≤ 128)
KeyChecked name key s (Err reason) = (decide : Option (List ℕ) → Outcome × Update) → (on_table (at_key key decide) (plain (get (reading s).things name))).0 ≡ Err reason

-- an entry to be put was looked at
abbrev pub PutChecked : List ℕ → (key value : List ℕ) → Contents → Result PageNo Reason → Type 0
PutChecked name key value s (Ok root) = IsAt kinds.Table s name root.0 × ((1 ≤ length key) × (length key ≤ 128)) × (length value ≤ 1024)
PutChecked name key value s (Err reason) = (on_table (at_key key (put_value value)) (plain (get (reading s).things name))).0 ≡ Err reason

-- the object of a name has this length, or has none
abbrev pub LenChecked : List ℕ → Contents → Result ℕ Reason → Type 0
LenChecked name s (Ok n) = len (plain (get (reading s).things name)) ≡ Ok (Number n)
LenChecked name s (Err reason) = len (plain (get (reading s).things name)) ≡ Err reason
