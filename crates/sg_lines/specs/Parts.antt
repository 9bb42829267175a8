-- The parts of a listing, as a listener is told them: of each object what it begins with, and its contents.
use Rattle.std.specs.Prelude.{ℕ, zero, suc, ◌+◌, ◌*◌, ◌/◌, if◌then◌else◌, List, [], ◌∷◌, ◌++◌, length, map, take, drop, codes, slice_index_or, Some, None}
use Rattle.std.specs.List.{flat_map, list_all}
use Rattle.std.specs.FinMap.{entries}
use Rattle.sg_model.specs.Objects.{Object, Objects}
use Rattle.sg_model.specs.Objects.Object.{Array, Table, Blob}
use Rattle.sg_lines.specs.Text.{heading, item_line, entry_line, is_zero, piece_line}

-- one part: an array, a table or a blob begins; an item behind its index; a value behind its key; a piece of a blob behind its offset
pub data Part : Type 0 where
  ArrayBegins : (name : List ℕ) (size length : ℕ) → Part
  TableBegins : (name : List ℕ) (length : ℕ) → Part
  BlobBegins : (name : List ℕ) (length : ℕ) → Part
  AnItem : (index : ℕ) (item : List ℕ) → Part
  AnEntry : (key value : List ℕ) → Part
  APiece : (at : ℕ) (bytes : List ℕ) → Part

-- so many items, each behind its index
unfoldable pub item_parts : ℕ → List (List ℕ) → List Part
item_parts zero items = []
item_parts (suc n) items = item_parts n items ++ AnItem n (slice_index_or items n []) ∷ []

abbrev pub entry_part : List ℕ × List ℕ → Part
entry_part e = AnEntry e.0 e.1

-- a piece of a blob, unless all of its bytes are 0
abbrev pub piece_part : ℕ → List ℕ → List Part
piece_part at piece = if list_all is_zero piece then [] else APiece at piece ∷ []

-- so many pieces of 32 bytes, of which the last may be shorter
unfoldable pub piece_parts : ℕ → List ℕ → List Part
piece_parts zero bytes = []
piece_parts (suc n) bytes = piece_parts n bytes ++ piece_part (32 * n) (take 32 (drop (32 * n) bytes))

-- an object's contents
abbrev pub contents_of : Object → List Part
contents_of (Array row) = item_parts (length row.items) row.items
contents_of (Table m) = map entry_part (entries m)
contents_of (Blob bytes) = piece_parts ((length bytes + 31) / 32) bytes

-- what an object begins with
abbrev pub beginning : List ℕ → Object → Part
beginning name (Array row) = ArrayBegins name row.size (length row.items)
beginning name (Table m) = TableBegins name (length (entries m))
beginning name (Blob bytes) = BlobBegins name (length bytes)

abbrev pub parts_of_object : List ℕ → Object → List Part
parts_of_object name object = beginning name object ∷ contents_of object

-- these objects, each with its name
abbrev pub parts_of_all : List (List ℕ × Object) → List Part
parts_of_all es = flat_map (λ e. parts_of_object e.0 e.1) es

-- THE PARTS OF OBJECTS, in the order of their names
abbrev pub parts_of : Objects → List Part
parts_of objects = parts_of_all (entries objects)

-- the line of a part
abbrev pub line_of : Part → List ℕ
line_of (ArrayBegins name size length) = heading (codes "array ") name (Some size) length
line_of (TableBegins name length) = heading (codes "table ") name None length
line_of (BlobBegins name length) = heading (codes "blob ") name None length
line_of (AnItem index item) = item_line index item
line_of (AnEntry key value) = entry_line (key, value)
line_of (APiece at bytes) = piece_line at bytes

-- the lines of some parts
abbrev pub lines_of : List Part → List ℕ
lines_of parts = flat_map line_of parts
