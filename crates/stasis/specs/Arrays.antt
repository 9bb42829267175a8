-- WHAT OPERATIONS ON AN ARRAY COME TO: it is a list of items of one size.
use Rattle.std.specs.Prelude.{◌≡◌, ℕ, suc, IsTrue, List, [], ◌∷◌, ◌++◌, length, take, Some, Ok, Err, slice_get, slice_set}
use Rattle.std.specs.FinMap.{get}
use Rattle.sg_ops.specs.Meaning.{RecordMeaning}
use Rattle.sg_ops.specs.Table.{Table as Operations}
use Rattle.sg_model.specs.Objects.{Objects}
use Rattle.sg_model.specs.Objects.Object.{Array}
use Rattle.sg_model.specs.Verb.{Outcome}
use Rattle.sg_model.specs.Verb.Op.{On}
use Rattle.sg_model.specs.Verb.Reply.{Bytes, Number}
use Rattle.sg_model.specs.Verb.Verb.{Apply, Get, Len, MakeArray, Pop, Push, Set}
use Rattle.sg_model.specs.Step.{record_named, step}

-- these objects have an array of this name for items of this size, with these items
abbrev pub HasArray : Objects → List ℕ → (size : ℕ) → (items : List (List ℕ)) → Type 0
HasArray s name size items = get s name ≡ Some (Array record { size = size; items = items })

-- an array is made: it has no item
abbrev pub MakesArray : List ℕ → (size : ℕ) → Outcome → Objects → Type 0
MakesArray name size (Ok reply) after = HasArray after name size []
MakesArray name size (Err reason) after = Unit {0}

-- an item is put behind the others, and its index is answered, or the array is as it was
abbrev pub Pushes : List ℕ → (size : ℕ) → (items : List (List ℕ)) → (item : List ℕ) → Outcome → Objects → Type 0
Pushes name size items item (Ok reply) after = (reply ≡ Number (length items)) × HasArray after name size (items ++ item ∷ [])
Pushes name size items item (Err reason) after = HasArray after name size items

-- the last item is taken off, and answered, or the array is as it was
abbrev pub Pops : List ℕ → (size : ℕ) → (items : List (List ℕ)) → Outcome → Objects → Type 0
Pops name size items (Ok (Bytes item)) after = (n : ℕ) × (length items ≡ suc n) × (slice_get items n ≡ Some item) × HasArray after name size (take n items)
Pops name size items (Ok other) after = ⊥
Pops name size items (Err reason) after = HasArray after name size items

-- an item is replaced, or the array is as it was
abbrev pub Sets : List ℕ → (size : ℕ) → (items : List (List ℕ)) → (index : ℕ) → (item : List ℕ) → Outcome → Objects → Type 0
Sets name size items index item (Ok reply) after = HasArray after name size (slice_set items index item)
Sets name size items index item (Err reason) after = HasArray after name size items

-- an item is answered, and the array is as it was
abbrev pub Gets : List ℕ → (size : ℕ) → (items : List (List ℕ)) → (index : ℕ) → Outcome → Objects → Type 0
Gets name size items index (Ok (Bytes item)) after = (slice_get items index ≡ Some item) × HasArray after name size items
Gets name size items index (Ok other) after = ⊥
Gets name size items index (Err reason) after = HasArray after name size items

-- the operation that has the code accepts an item, and leaves of it what it means
pub record IsApplied (t : Operations) (items : List (List ℕ)) (index code : ℕ) (arg : List ℕ) (after : List (List ℕ)) : Type 0 where
  pub operation : RecordMeaning
  pub item : List ℕ
  pub registered : record_named t code ≡ Some operation
  pub there : slice_get items index ≡ Some item
  pub accepts : IsTrue (operation.accepts item arg)
  pub done : after ≡ slice_set items index (operation.after item arg)

-- an item is changed by a registered operation, or the array is as it was
abbrev pub Applies : Operations → List ℕ → (size : ℕ) → (items : List (List ℕ)) → (index code : ℕ) → (arg : List ℕ) → Outcome → Objects → Type 0
Applies t name size items index code arg (Ok reply) after = (now : List (List ℕ)) × IsApplied t items index code arg now × HasArray after name size now
Applies t name size items index code arg (Err reason) after = HasArray after name size items

-- ARRAYS ARE LISTS, with these operations: what is answered to a verb on an array, and the objects after it
pub record AreLists (t : Operations) : Type 0 where
  pub made : (s : Objects) (name : List ℕ) (size : ℕ) → let r = step t s (On name (MakeArray size)) in MakesArray name size r.0 r.1
  pub pushed : (s : Objects) (name : List ℕ) (size : ℕ) (items : List (List ℕ)) (item : List ℕ) → HasArray s name size items
      → let r = step t s (On name (Push item)) in Pushes name size items item r.0 r.1
  pub popped : (s : Objects) (name : List ℕ) (size : ℕ) (items : List (List ℕ)) → HasArray s name size items → let r = step t s (On name Pop) in
      Pops name size items r.0 r.1
  pub was_set : (s : Objects) (name : List ℕ) (size : ℕ) (items : List (List ℕ)) (index : ℕ) (item : List ℕ) → HasArray s name size items
      → let r = step t s (On name (Set index item)) in Sets name size items index item r.0 r.1
  pub got : (s : Objects) (name : List ℕ) (size : ℕ) (items : List (List ℕ)) (index : ℕ) → HasArray s name size items
      → let r = step t s (On name (Get index)) in Gets name size items index r.0 r.1
  pub applied : (s : Objects) (name : List ℕ) (size : ℕ) (items : List (List ℕ)) (index code : ℕ) (arg : List ℕ) → HasArray s name size items
      → let r = step t s (On name (Apply index code arg)) in Applies t name size items index code arg r.0 r.1
  pub counted : (s : Objects) (name : List ℕ) (size : ℕ) (items : List (List ℕ)) → HasArray s name size items → let r = step t s (On name Len) in
      (r.0 ≡ Ok (Number (length items))) × HasArray r.1 name size items
