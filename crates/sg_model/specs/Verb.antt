-- The verbs, the operations and their replies.
use Rattle.std.specs.Prelude.{ℕ, List, Result}
use Rattle.sg_model.specs.declared.reason.Reason.{Reason}

-- what is done to one object
pub data Verb : Type 0 where
  MakeArray : (size : ℕ) → Verb
  MakeTable : Verb
  MakeBlob : Verb
  Discard : Verb
  Push : (value : List ℕ) → Verb
  Pop : Verb
  Set : (index : ℕ) → (value : List ℕ) → Verb
  Get : (index : ℕ) → Verb
  Len : Verb
  Apply : (index code : ℕ) → (arg : List ℕ) → Verb
  Put : (key value : List ℕ) → Verb
  Del : (key : List ℕ) → Verb
  Find : (key : List ℕ) → Verb
  Keys : Verb
  Write : (at : ℕ) → (bytes : List ℕ) → Verb
  Read : (at count : ℕ) → Verb
  Size : (length : ℕ) → Verb
  Paint : (at count code : ℕ) → (arg : List ℕ) → Verb

-- a verb on the object with a name, or the list of all names
pub data Op : Type 0 where
  On : (name : List ℕ) → (verb : Verb) → Op
  Names : Op

-- what an operation answers where it is not refused
pub data Reply : Type 0 where
  Done : Reply
  New : Reply
  Replaced : Reply
  Absent : Reply
  Number : (n : ℕ) → Reply
  Bytes : (bytes : List ℕ) → Reply
  Several : (words : List (List ℕ)) → Reply

-- a reply, or the reason of a refusal
abbrev pub Outcome : Type 0
Outcome = Result Reply Reason
