-- What objects come to.
use Rattle.std.specs.Prelude.{ℕ, ◌+◌, ◌%◌, ◌^◌, ◌-◌, ◌++◌, min, List, codes, length, sum}
use Rattle.std.specs.List.{sum_by}
use Rattle.std.specs.FinMap.{entries}
use Rattle.sg_model.specs.Objects.{Object, Objects}
use Rattle.sg_model.specs.Objects.Object.{Array, Table, Blob}
use Rattle.sg_lines.specs.declared.summary.Summary.{Summary}
use Rattle.sg_lines.specs.Text.{behind_space}

abbrev pub items_of : Object → ℕ
items_of (Array row) = length row.items
items_of (Table m) = 0
items_of (Blob bytes) = 0

abbrev pub entries_of : Object → ℕ
entries_of (Array row) = 0
entries_of (Table m) = length (entries m)
entries_of (Blob bytes) = 0

abbrev pub bytes_of : Object → ℕ
bytes_of (Array row) = 0
bytes_of (Table m) = 0
bytes_of (Blob bytes) = length bytes

-- all bytes of a key and its value, as numbers
abbrev pub sum_of_entry : List ℕ × List ℕ → ℕ
sum_of_entry e = sum e.0 + sum e.1

-- all bytes of an object's items, of its keys and values, or its own, as numbers
abbrev pub sum_of : Object → ℕ
sum_of (Array row) = sum_by sum row.items
sum_of (Table m) = sum_by sum_of_entry (entries m)
sum_of (Blob bytes) = sum bytes

-- a count that rises stands still at 2^64 - 1
abbrev pub counted : ℕ → ℕ
counted n = min n (2 ^ 64 - 1)

-- the summary of these objects
abbrev pub summary_of_all : List (List ℕ × Object) → Summary
summary_of_all es = record {
  objects = counted (length es);
  items = counted (sum_by (λ e. items_of e.1) es);
  entries = counted (sum_by (λ e. entries_of e.1) es);
  bytes = counted (sum_by (λ e. bytes_of e.1) es);
  sum = sum_by (λ e. sum_of e.1) es % 2 ^ 64;
}

-- THE SUMMARY OF OBJECTS: how many there are, how many items, entries and bytes of blobs they have, and the sum of all bytes
abbrev pub summary_of : Objects → Summary
summary_of objects = summary_of_all (entries objects)

-- the summary of some objects and others
abbrev pub both : Summary → Summary → Summary
both a b = record {
  objects = counted (a.objects + b.objects);
  items = counted (a.items + b.items);
  entries = counted (a.entries + b.entries);
  bytes = counted (a.bytes + b.bytes);
  sum = (a.sum + b.sum) % 2 ^ 64;
}

-- the line of a summary
abbrev pub summary_line : Summary → List ℕ
summary_line s = codes "objects" ++ behind_space s.objects ++ codes " items" ++ behind_space s.items ++ codes " entries" ++ behind_space s.entries
    ++ codes " bytes" ++ behind_space s.bytes ++ codes " sum" ++ behind_space s.sum ++ codes "\n"
