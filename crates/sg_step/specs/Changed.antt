-- The bytes that an operation leaves of a page of slots, where it fits.
use Rattle.std.specs.Prelude.{ℕ, List, Option, Some, None, option_and_then}
use Rattle.sg_base.specs.Op.{Op}
use Rattle.sg_base.specs.Op.Op.{Format, Put, Remove, Set, Links, Item, ItemBack}
use Rattle.sg_base.specs.Page.{slots_of, cell_in}
use Rattle.sg_ops.specs.Steps.{item_after, item_before}
use Rattle.sg_ops.specs.Table.{Table, record_at}
use Rattle.sg_step.specs.declared.page.Way.{Way}
use Rattle.sg_step.specs.declared.page.Way.TheVariants as way
use Rattle.sg_slotted.specs.Layout.{format_layout, put_layout, remove_layout, set_layout, links_layout}

-- what an operation on an item leaves of it, done or undone, where that is defined
abbrev pub item_change : Table → Way → ℕ → List ℕ → List ℕ → Option (List ℕ)
item_change t way.Do code arg item = item_after (record_at t code) arg item
item_change t way.Undo code arg item = item_before (record_at t code) arg item

-- the page with another cell in a full slot, if there is another
abbrev pub with_item : List ℕ → ℕ → Option (List ℕ) → List ℕ
with_item page slot None = page
with_item page slot (Some cell) = set_layout page slot cell

-- the page after the operation
unfoldable pub changed : Table → Op → List ℕ → List ℕ
changed t (Format kind) page = format_layout page kind
changed t (Put slot bytes) page = put_layout page slot bytes
changed t (Remove slot) page = remove_layout page slot
changed t (Set slot bytes) page = set_layout page slot bytes
changed t (Links links) page = links_layout page links.0 links.1
changed t (Item slot code arg) page = with_item page slot (option_and_then (item_after (record_at t code) arg) (cell_in (slots_of page) slot))
changed t (ItemBack slot code arg) page = with_item page slot (option_and_then (item_before (record_at t code) arg) (cell_in (slots_of page) slot))
