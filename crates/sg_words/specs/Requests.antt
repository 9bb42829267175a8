-- What a line of a script asks for, with every verb.
use Rattle.std.specs.Prelude.{ℕ, Bool, ◌||◌, ◌==◌, nat_lt, if◌then◌else◌, List, [], ◌∷◌, length, Option, Some, None, codes, slice_index}
use Rattle.std.specs.Str.{bytes_eq}
use Rattle.std.specs.Str.Lines.{strip_carriage_return}
use Rattle.sg_base.specs.Spelling.{is_name}
use Rattle.sg_model.specs.Verb.{Verb, Op}
use Rattle.sg_model.specs.Verb.Op.{On, Names}
use Rattle.sg_model.specs.Verb.Verb.{MakeArray, MakeTable, MakeBlob, Discard, Push, Pop, Set, Get, Len, Apply, Put, Del, Find, Keys, Write, Read, Size, Paint}
use Rattle.sg_words.specs.Parse.{words_of, number_of, value_of, is_transaction, most_line_bytes}

-- what is asked of a transaction
pub data Request : Type 0 where
  Begin : Request
  Commit : Request
  Abort : Request
  Do : (op : Op) → Request

-- what a line says: nothing, nothing that is a line of a script, or a request of a transaction
pub data Asked : Type 0 where
  Blank : Asked
  Wrong : Asked
  Of : (transaction : List ℕ) → (request : Request) → Asked

-- what comes of a value, where there is one
abbrev pub where_some : {A : Type 0} → Option A → (A → Option Request) → Option Request
where_some None then_ = None
where_some (Some a) then_ = then_ a

-- a verb on the object with a name, if it is a name
abbrev pub named : List ℕ → Verb → Option Request
named name verb = if is_name name then Some (Do (On name verb)) else None

-- a request that takes no words
abbrev pub alone : Request → List (List ℕ) → Option Request
alone request [] = Some request
alone request (word ∷ more) = None

-- the words after each verb

abbrev pub make_array_of : List (List ℕ) → Option Request
make_array_of (name ∷ size ∷ []) = where_some (number_of size) (λ the_size. named name (MakeArray the_size))
make_array_of other = None

abbrev pub make_table_of : List (List ℕ) → Option Request
make_table_of (name ∷ []) = named name MakeTable
make_table_of other = None

abbrev pub make_blob_of : List (List ℕ) → Option Request
make_blob_of (name ∷ []) = named name MakeBlob
make_blob_of other = None

abbrev pub discard_of : List (List ℕ) → Option Request
discard_of (name ∷ []) = named name Discard
discard_of other = None

abbrev pub pop_of : List (List ℕ) → Option Request
pop_of (name ∷ []) = named name Pop
pop_of other = None

abbrev pub get_of : List (List ℕ) → Option Request
get_of (name ∷ index ∷ []) = where_some (number_of index) (λ the_index. named name (Get the_index))
get_of other = None

abbrev pub len_of : List (List ℕ) → Option Request
len_of (name ∷ []) = named name Len
len_of other = None

abbrev pub read_of : List (List ℕ) → Option Request
read_of (name ∷ at ∷ count ∷ []) = where_some (number_of at) (λ the_at. where_some (number_of count) (λ the_count. named name (Read the_at the_count)))
read_of other = None

abbrev pub size_of : List (List ℕ) → Option Request
size_of (name ∷ length ∷ []) = where_some (number_of length) (λ the_length. named name (Size the_length))
size_of other = None

abbrev pub push_of : List (List ℕ) → Option Request
push_of (name ∷ value ∷ []) = where_some (value_of value) (λ the_value. named name (Push the_value))
push_of other = None

abbrev pub set_of : List (List ℕ) → Option Request
set_of (name ∷ index ∷ value ∷ []) = where_some (number_of index) (λ the_index. where_some (value_of value) (λ the_value. named name (Set the_index the_value)))
set_of other = None

abbrev pub apply_of : List (List ℕ) → Option Request
apply_of (name ∷ index ∷ code ∷ arg ∷ []) = where_some (number_of index) (λ the_index. where_some (number_of code) (λ the_code. where_some (value_of arg) (λ the_arg. named name (Apply the_index the_code the_arg))))
apply_of other = None

abbrev pub put_of : List (List ℕ) → Option Request
put_of (name ∷ key ∷ value ∷ []) = where_some (value_of key) (λ the_key. where_some (value_of value) (λ the_value. named name (Put the_key the_value)))
put_of other = None

abbrev pub del_of : List (List ℕ) → Option Request
del_of (name ∷ key ∷ []) = where_some (value_of key) (λ the_key. named name (Del the_key))
del_of other = None

abbrev pub find_of : List (List ℕ) → Option Request
find_of (name ∷ key ∷ []) = where_some (value_of key) (λ the_key. named name (Find the_key))
find_of other = None

abbrev pub write_of : List (List ℕ) → Option Request
write_of (name ∷ at ∷ bytes ∷ []) = where_some (number_of at) (λ the_at. where_some (value_of bytes) (λ the_bytes. named name (Write the_at the_bytes)))
write_of other = None

abbrev pub paint_of : List (List ℕ) → Option Request
paint_of (name ∷ at ∷ count ∷ code ∷ arg ∷ []) = where_some (number_of at) (λ the_at. where_some (number_of count) (λ the_count. where_some (number_of code) (λ the_code. where_some (value_of arg) (λ the_arg. named name (Paint the_at the_count the_code the_arg)))))
paint_of other = None

abbrev pub keys_of : List (List ℕ) → Option Request
keys_of (name ∷ []) = named name Keys
keys_of other = None

abbrev pub make_of : List (List ℕ) → Option Request
make_of [] = None
make_of (kind ∷ args) =
    if bytes_eq kind (codes "array") then make_array_of args
    else (if bytes_eq kind (codes "table") then make_table_of args
    else (if bytes_eq kind (codes "blob") then make_blob_of args
    else None))

-- what a verb with a value among its words asks for, if it is one
unfoldable pub valued_request : List ℕ → List (List ℕ) → Option Request
valued_request word args =
    if bytes_eq word (codes "push") then push_of args
    else (if bytes_eq word (codes "set") then set_of args
    else (if bytes_eq word (codes "apply") then apply_of args
    else (if bytes_eq word (codes "put") then put_of args
    else (if bytes_eq word (codes "del") then del_of args
    else (if bytes_eq word (codes "find") then find_of args
    else (if bytes_eq word (codes "write") then write_of args
    else (if bytes_eq word (codes "paint") then paint_of args
    else None)))))))

-- what a verb asks for that reads or sizes a blob, or asks for all keys or names
unfoldable pub span_request : List ℕ → List (List ℕ) → Option Request
span_request word args =
    if bytes_eq word (codes "read") then read_of args
    else (if bytes_eq word (codes "size") then size_of args
    else (if bytes_eq word (codes "keys") then keys_of args
    else (if bytes_eq word (codes "list") then alone (Do Names) args
    else None)))

-- the same with the verbs that drop, shorten or look at an object
unfoldable pub object_request : List ℕ → List (List ℕ) → Option Request
object_request word args =
    if bytes_eq word (codes "drop") then discard_of args
    else (if bytes_eq word (codes "pop") then pop_of args
    else (if bytes_eq word (codes "get") then get_of args
    else (if bytes_eq word (codes "len") then len_of args
    else span_request word args)))

-- what another verb than those with a value asks for, if it is one
unfoldable pub plain_request : List ℕ → List (List ℕ) → Option Request
plain_request word args =
    if bytes_eq word (codes "begin") then alone Begin args
    else (if bytes_eq word (codes "commit") then alone Commit args
    else (if bytes_eq word (codes "abort") then alone Abort args
    else (if bytes_eq word (codes "make") then make_of args
    else object_request word args)))

-- the verbs with a value among their words
abbrev pub takes_value : List ℕ → Bool
takes_value word =
    bytes_eq word (codes "push") || bytes_eq word (codes "set") || bytes_eq word (codes "apply") || bytes_eq word (codes "put")
    || bytes_eq word (codes "del") || bytes_eq word (codes "find") || bytes_eq word (codes "write") || bytes_eq word (codes "paint")

abbrev pub either : Option Request → Option Request → Option Request
either None other = other
either (Some request) other = Some request

-- what a verb and the words after it ask for, if anything
abbrev pub request_of : List (List ℕ) → Option Request
request_of [] = None
request_of (word ∷ args) = either (plain_request word args) (valued_request word args)

abbrev pub asked_of : List ℕ → Option Request → Asked
asked_of name None = Wrong
asked_of name (Some request) = if is_transaction name then Of name request else Wrong

-- a transaction's name, a verb and its arguments
abbrev pub asked_by : List (List ℕ) → Asked
asked_by [] = Blank
asked_by (name ∷ words) = asked_of name (request_of words)

-- What a line asks for. One that is too long asks for nothing, one whose first byte is `#` is a remark, and a CR at the end
-- is dropped
unfoldable pub asked : List ℕ → Asked
asked line =
    if nat_lt most_line_bytes (length line) then Wrong
    else (if slice_index line 0 == 35 then Blank else asked_by (words_of (strip_carriage_return line)))
