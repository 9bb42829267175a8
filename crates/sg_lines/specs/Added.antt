-- What the parts of a listing come to.
use Rattle.std.specs.Prelude.{ℕ, ◌+◌, ◌%◌, ◌^◌, List, sum}
use Rattle.std.specs.List.{sum_by}
use Rattle.sg_lines.specs.declared.summary.Summary.{Summary}
use Rattle.sg_lines.specs.Parts.{Part}
use Rattle.sg_lines.specs.Parts.Part.{ArrayBegins, TableBegins, BlobBegins, AnItem, AnEntry, APiece}
use Rattle.sg_lines.specs.Summed.{counted}

-- how many objects begin with a part, and how many items, keys or bytes these have
abbrev pub objects_in : Part → ℕ
objects_in (ArrayBegins name size n) = 1
objects_in (TableBegins name n) = 1
objects_in (BlobBegins name n) = 1
objects_in other = 0

abbrev pub items_in : Part → ℕ
items_in (ArrayBegins name size n) = n
items_in other = 0

abbrev pub entries_in : Part → ℕ
entries_in (TableBegins name n) = n
entries_in other = 0

abbrev pub bytes_in : Part → ℕ
bytes_in (BlobBegins name n) = n
bytes_in other = 0

-- all bytes of an item, of a key and its value, or of a piece, as numbers
abbrev pub sum_in : Part → ℕ
sum_in (AnItem index item) = sum item
sum_in (AnEntry key value) = sum key + sum value
sum_in (APiece at bytes) = sum bytes
sum_in other = 0

-- WHAT PARTS COME TO
abbrev pub summary_of_parts : List Part → Summary
summary_of_parts parts = record {
  objects = counted (sum_by objects_in parts);
  items = counted (sum_by items_in parts);
  entries = counted (sum_by entries_in parts);
  bytes = counted (sum_by bytes_in parts);
  sum = sum_by sum_in parts % 2 ^ 64;
}
