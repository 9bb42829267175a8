-- What a change holds, and what it holds once it is made.
use Rattle.std.specs.Prelude.{ℕ, List, IsTrue}
use Rattle.sg_ops.specs.Table.{Table, record_at, accepts_of, after_of}
use Rattle.sg_laws.specs.declared.change.Change.{Change}

-- the bytes of an item and of an argument, and the code
pub record Contents : Type 0 where
  pub item : List ℕ
  pub code : ℕ
  pub arg : List ℕ

abbrev pub contents_of : Change → Contents
contents_of c = record { item = c.item.items; code = c.code; arg = c.arg.items }

-- the change once its operation was done to its item
abbrev pub redone : Table → Contents → Contents
redone t c = record c { item = after_of (record_at t c.code) c.item c.arg }

-- its operation is registered and accepts the item and the argument
abbrev pub IsAccepted : Table → Change → Type 0
IsAccepted t c = IsTrue (accepts_of (record_at t c.code) c.item.items c.arg.items)
