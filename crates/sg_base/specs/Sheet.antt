-- What a page says, and what can be seen of it.
use Rattle.std.specs.Prelude.{ℕ, List, Option, IfSome}
use Rattle.sg_base.specs.Bytes.{IsBytes}
use Rattle.sg_base.specs.Page.{kind_of, links_of, slots_of, cell_in}
use Rattle.sg_base.specs.Slots.{Slots}

-- what a page of slots says, but for its number in the log
pub record Sheet : Type 0 where
  pub kind : ℕ
  pub links : ℕ × ℕ
  pub slots : Slots

-- what the bytes of a page say
abbrev pub sheet_of : List ℕ → Sheet
sheet_of page = record { kind = kind_of page; links = links_of page; slots = slots_of page }

-- what can be seen of a page: its kind, its links and its cells. Empty slots behind the last cell can't
pub record Seen : Type 0 where
  pub kind : ℕ
  pub links : ℕ × ℕ
  pub cells : ℕ → Option (List ℕ)

abbrev pub seen : Sheet → Seen
seen sheet = record { kind = sheet.kind; links = sheet.links; cells = cell_in sheet.slots }

-- the cells are bytes
abbrev pub HasBytes : Sheet → Type 0
HasBytes sheet = (slot : ℕ) → IfSome (cell_in sheet.slots slot) IsBytes
