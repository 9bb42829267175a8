-- The operations on a page.
use Rattle.std.specs.Prelude.{ℕ, ◌==◌, nat_lt, Bool, true, false, List, length}
use Rattle.sg_base.specs.Page.{cell_in, cell_size}
use Rattle.sg_base.specs.Sheet.{Sheet}
use Rattle.sg_base.specs.declared.op.PageOp.{PageOp}
use Rattle.sg_base.specs.declared.op.PageOp.TheVariants as code

-- one change of a page
pub data Op : Type 0 where
  -- an empty page of this kind
  Format : (kind : ℕ) → Op
  -- a cell in an empty slot, or in the next one
  Put : (slot : ℕ) → (bytes : List ℕ) → Op
  -- no cell in a full slot any more
  Remove : (slot : ℕ) → Op
  -- another cell in a full slot
  Set : (slot : ℕ) → (bytes : List ℕ) → Op
  -- other links
  Links : (links : ℕ × ℕ) → Op
  -- the registered operation with this code and argument, done to the cell of a full slot
  Item : (slot code : ℕ) → (arg : List ℕ) → Op
  -- the same undone
  ItemBack : (slot code : ℕ) → (arg : List ℕ) → Op

-- the change that the code's value says, without where its bytes lie in memory
abbrev pub op_of : PageOp → Op
op_of (code.Format kind) = Format kind
op_of (code.Put slot bytes) = Put slot bytes.now
op_of (code.Remove slot) = Remove slot
op_of (code.Set slot bytes) = Set slot bytes.now
op_of (code.Links a b) = Links (a, b)
op_of (code.Item slot code arg) = Item slot code arg.now
op_of (code.ItemBack slot code arg) = ItemBack slot code arg.now

abbrev pub is_format : Op → Bool
is_format (Format kind) = true
is_format (Put slot bytes) = false
is_format (Remove slot) = false
is_format (Set slot bytes) = false
is_format (Links links) = false
is_format (Item slot code arg) = false
is_format (ItemBack slot code arg) = false

-- the operation opens a slot: the directory has 4 bytes more
abbrev pub opens : Op → Sheet → Bool
opens (Format kind) sheet = false
opens (Put slot bytes) sheet = slot == length sheet.slots
opens (Remove slot) sheet = false
opens (Set slot bytes) sheet = false
opens (Links links) sheet = false
opens (Item slot code arg) sheet = false
opens (ItemBack slot code arg) sheet = false

-- the operation leaves fewer bytes in the cells, or as many where it removes an empty one
abbrev pub shrinks : Op → Sheet → Bool
shrinks (Format kind) sheet = false
shrinks (Put slot bytes) sheet = false
shrinks (Remove slot) sheet = true
shrinks (Set slot bytes) sheet = nat_lt (length bytes) (cell_size (cell_in sheet.slots slot))
shrinks (Links links) sheet = false
shrinks (Item slot code arg) sheet = false
shrinks (ItemBack slot code arg) sheet = false
