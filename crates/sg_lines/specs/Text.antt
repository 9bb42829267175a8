-- Objects as a text, in the order of their names.
use Rattle.std.specs.Prelude.{ℕ, zero, suc, ◌+◌, ◌*◌, ◌/◌, ◌==◌, Bool, if◌then◌else◌, List, [], ◌++◌, length, take, drop, codes, decimal, slice_index_or, Option, Some, None}
use Rattle.std.specs.List.{flat_map, list_all}
use Rattle.std.specs.FinMap.{entries}
use Rattle.hex.specs.Hex.{encode_lower}
use Rattle.sg_model.specs.Objects.{Object, Objects}
use Rattle.sg_model.specs.Objects.Object.{Array, Table, Blob}
use Rattle.sg_words.specs.Answers.{behind_space as word_behind}

-- a number behind a space
abbrev pub behind_space : ℕ → List ℕ
behind_space n = codes " " ++ decimal n

-- an item behind its index
abbrev pub item_line : ℕ → List ℕ → List ℕ
item_line index item = behind_space index ++ word_behind item ++ codes "\n"

-- the lines of so many items
unfoldable pub item_lines : ℕ → List (List ℕ) → List ℕ
item_lines zero items = []
item_lines (suc n) items = item_lines n items ++ item_line n (slice_index_or items n [])

-- a value behind its key
abbrev pub entry_line : List ℕ × List ℕ → List ℕ
entry_line e = word_behind e.0 ++ word_behind e.1 ++ codes "\n"

abbrev pub is_zero : ℕ → Bool
is_zero byte = byte == 0

-- a piece of a blob behind its offset, unless all of its bytes are 0
abbrev pub piece_line : ℕ → List ℕ → List ℕ
piece_line at piece = if list_all is_zero piece then [] else behind_space at ++ codes " x:" ++ encode_lower piece ++ codes "\n"

-- the lines of so many pieces of 32 bytes, of which the last may be shorter
unfoldable pub piece_lines : ℕ → List ℕ → List ℕ
piece_lines zero bytes = []
piece_lines (suc n) bytes = piece_lines n bytes ++ piece_line (32 * n) (take 32 (drop (32 * n) bytes))

-- the line that an object begins with: its kind, its name, and a number or two
abbrev pub heading : (kind name : List ℕ) → Option ℕ → (length : ℕ) → List ℕ
heading kind name None length = kind ++ name ++ behind_space length ++ codes "\n"
heading kind name (Some size) length = kind ++ name ++ behind_space size ++ behind_space length ++ codes "\n"

-- that line, and the object's contents
abbrev pub text_of_object : List ℕ → Object → List ℕ
text_of_object name (Array row) = heading (codes "array ") name (Some row.size) (length row.items) ++ item_lines (length row.items) row.items
text_of_object name (Table m) = heading (codes "table ") name None (length (entries m)) ++ flat_map entry_line (entries m)
text_of_object name (Blob bytes) = heading (codes "blob ") name None (length bytes) ++ piece_lines ((length bytes + 31) / 32) bytes

-- the text of these objects, each with its name
abbrev pub texts_of : List (List ℕ × Object) → List ℕ
texts_of es = flat_map (λ e. text_of_object e.0 e.1) es

-- THE TEXT OF OBJECTS: each of them, and then how many they are
abbrev pub text_of : Objects → List ℕ
text_of objects = texts_of (entries objects) ++ heading (codes "objects") [] None (length (entries objects))
