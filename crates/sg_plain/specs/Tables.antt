-- What the entries of a table stand for.
use Rattle.std.specs.Prelude.{ℕ, List, map}
use Rattle.std.specs.FinMap.{from_entries}
use Rattle.sg_model.specs.Objects.{Entries}
use Rattle.sg_plain.specs.declared.table.Entry.{Entry}

abbrev pub shown_value : Entry → List ℕ
shown_value e = e.bytes.items

abbrev pub entries_of : List (List ℕ × Entry) → Entries
entries_of entries = from_entries (map (λ e. (e.0, shown_value e.1)) entries)
