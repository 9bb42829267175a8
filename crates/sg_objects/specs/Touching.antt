-- What an operation touches, by what stands under its name.
use Rattle.std.specs.Prelude.{◌≡◌, ℕ, Bool, true, false, List, [], ◌∷◌, length, Option, Some, None}
use Rattle.sg_model.specs.Objects.{Object}
use Rattle.sg_model.specs.Objects.Object.{Array as AsArray, Table as AsTable, Blob as AsBlob}
use Rattle.sg_model.specs.Touches.{Reach, to_read, to_write, last_item, on_key}
use Rattle.sg_model.specs.Touches.Part.{Kind, Length, Item, Key, Body}
use Rattle.sg_model.specs.Touches.Region.{Just, EachKey, Everything}
use Rattle.sg_model.specs.Verb.{Verb}
use Rattle.sg_model.specs.Verb.Verb.{MakeArray, MakeTable, MakeBlob, Discard, Push, Pop, Set, Get, Len, Apply, Put, Del, Find, Keys, Write, Read, Size, Paint}
use Rattle.sg_objects.specs.declared.touch.Seen.{Seen}
use Rattle.sg_objects.specs.declared.touch.Seen.TheVariants as seen

-- this stands there, as far as it says what is touched
abbrev pub IsSeen : Seen → Option Object → Type 0
IsSeen seen.Nothing None = Unit {0}
IsSeen (seen.Array n) (Some (AsArray row)) = n ≡ length row.items
IsSeen seen.Table (Some (AsTable m)) = Unit {0}
IsSeen seen.Blob (Some (AsBlob bytes)) = Unit {0}
IsSeen other o = ⊥

-- beside the kind: of a push, a pop and a length
abbrev pub push_at : Seen → List Reach
push_at (seen.Array n) = to_write (Just Length) ∷ to_write (Just (Item n)) ∷ []
push_at other = []

abbrev pub pop_at : Seen → List Reach
pop_at (seen.Array n) = to_write (Just Length) ∷ last_item n
pop_at other = []

abbrev pub len_at : Seen → List Reach
len_at (seen.Array n) = to_read (Just Length) ∷ []
len_at seen.Blob = to_read (Just Body) ∷ []
len_at other = []

-- of an item, a key and a blob's bytes
abbrev pub item_at : Seen → (index : ℕ) → (write : Bool) → List Reach
item_at (seen.Array n) index write = (record { region = Just (Item index); write = write }) ∷ []
item_at other index write = []

abbrev pub key_at : Seen → (key : List ℕ) → (write : Bool) → List Reach
key_at seen.Table key write = on_key key (record { region = Just (Key key); write = write })
key_at other key write = []

abbrev pub body_at : Seen → (write : Bool) → List Reach
body_at seen.Blob write = (record { region = Just Body; write = write }) ∷ []
body_at other write = []

abbrev pub keys_at : Seen → List Reach
keys_at seen.Table = to_read EachKey ∷ []
keys_at other = []

-- what a verb touches
abbrev pub reach_at : Seen → Verb → List Reach
reach_at x (MakeArray size) = to_write Everything ∷ []
reach_at x MakeTable = to_write Everything ∷ []
reach_at x MakeBlob = to_write Everything ∷ []
reach_at x Discard = to_write Everything ∷ []
reach_at x (Push value) = to_read (Just Kind) ∷ push_at x
reach_at x Pop = to_read (Just Kind) ∷ pop_at x
reach_at x (Set index value) = to_read (Just Kind) ∷ item_at x index true
reach_at x (Get index) = to_read (Just Kind) ∷ item_at x index false
reach_at x Len = to_read (Just Kind) ∷ len_at x
reach_at x (Apply index code arg) = to_read (Just Kind) ∷ item_at x index true
reach_at x (Put key value) = to_read (Just Kind) ∷ key_at x key true
reach_at x (Del key) = to_read (Just Kind) ∷ key_at x key true
reach_at x (Find key) = to_read (Just Kind) ∷ key_at x key false
reach_at x Keys = to_read (Just Kind) ∷ keys_at x
reach_at x (Write at bytes) = to_read (Just Kind) ∷ body_at x true
reach_at x (Read at count) = to_read (Just Kind) ∷ body_at x false
reach_at x (Size n) = to_read (Just Kind) ∷ body_at x true
reach_at x (Paint at count code arg) = to_read (Just Kind) ∷ body_at x true
