-- An action without an end: what its changes keep to, and that it can be taken off.
use Rattle.std.specs.Prelude.{◌≡◌, ◌≢◌, ℕ, ◌+◌, ◌*◌, ◌≤◌, ◌==◌, ◌&&◌, ◌||◌, max, Bool, true, false, if◌then◌else◌, List, [], ◌∷◌, ◌++◌, take, drop, length, Option, Some, None}
use Rattle.sg_ops.specs.Table.{Table}
use Rattle.sg_base.specs.Sheet.{Sheet, HasBytes}
use Rattle.sg_base.specs.Op.{Op, is_format, opens, shrinks}
use Rattle.sg_ops.specs.Steps.{step, inverse, IsProper}
use Rattle.sg_base.specs.Op.Op.{Format}
use Rattle.sg_action.specs.States.{State, Change, Kept, Alike, made, apply, fits, inverse_of, all_off, leaf_count, leaf_stored}
use Rattle.sg_action.specs.States.Change.{Page, Write, Paint}

-- the change takes this page
abbrev pub formats : Change → ℕ → Bool
formats (Page m op back) n = is_format op && (n == m)
formats (Write b at before after) n = false
formats (Paint b at count code position arg before) n = false

-- the page was taken when the action began, or the action took it
abbrev pub in_use : Kept → List Change → ℕ → Bool
in_use kept [] n = kept.pages n
in_use kept (d ∷ ds) n = formats d n || in_use kept ds n

-- the most bytes of cells that the page had since the action began, or since it took the page
abbrev pub most : Table → State → List Change → ℕ → ℕ
most t begin [] n = leaf_stored (begin.pages n)
most t begin (d ∷ ds) n = if formats d n then 0 else max (most t begin ds n) (leaf_stored ((made t begin (d ∷ ds)).pages n))

-- a change of a page: a format is of one not in use; any other operation is of one in use, is proper and fits it, and comes with its inverse
pub record IsPageChange (t : Table) (used : Bool) (op back : Op) (leaf : Option Sheet) : Type 0 where
  pub takes : is_format op ≡ true → (used ≡ false) × (back ≡ Format 0)
  pub changes : is_format op ≡ false → used ≡ true
  pub holds : is_format op ≡ false → (p : Sheet) → leaf ≡ Some p → back ≡ inverse op p
  pub proper : is_format op ≡ false → (p : Sheet) → leaf ≡ Some p → IsProper t op p
  pub fits : is_format op ≡ false → (p : Sheet) → leaf ≡ Some p → (n : Sheet) × (step t op p ≡ Some n)

-- what stood in a part of a band
pub record StoodThere (band : List ℕ) (at count : ℕ) (before : List ℕ) : Type 0 where
  pub within : at + count ≤ length band
  pub is : before ≡ take count (drop at band)

-- what a change of an open action keeps to, in the state that the ones before it made
abbrev pub IsLogged : Table → Kept → List Change → State → Change → Type 0
IsLogged t kept ds x (Page n op back) = IsPageChange t (in_use kept ds n) op back (x.pages n)
IsLogged t kept ds x (Write b at before after) = StoodThere (x.bands b) at (length after) before
IsLogged t kept ds x (Paint b at count code position arg []) = kept.bands b ≡ false
IsLogged t kept ds x (Paint b at count code position arg (y ∷ before)) = StoodThere (x.bands b) at count (y ∷ before)

-- the changes of an open action, the last one first
abbrev pub IsOpened : Table → Kept → State → List Change → Type 0
IsOpened t kept begin [] = Unit {0}
IsOpened t kept begin (d ∷ ds) = IsOpened t kept begin ds × IsLogged t kept ds (made t begin ds) d

-- at the begin, each page that is taken says something, and its cells are bytes
abbrev pub IsBegun : Kept → State → Type 0
IsBegun kept begin = (n : ℕ) → kept.pages n ≡ true → (p : Sheet) × (begin.pages n ≡ Some p) × HasBytes p

-- each page has the bytes for its directory as it is now and its cells as they were at any time of the action
abbrev pub HasRoom : Table → Kept → State → List Change → State → Type 0
HasRoom t kept begin ds x = (n : ℕ) → in_use kept ds n ≡ true → 4 * leaf_count (x.pages n) + most t begin ds n ≤ 4072

-- each page that was taken at the begin has no more slots than it may have, if it had no more then
abbrev pub AreSmall : Kept → State → State → Type 0
AreSmall kept begin x = (n : ℕ) → kept.pages n ≡ true → leaf_count (begin.pages n) ≤ kept.slots n → leaf_count (x.pages n) ≤ kept.slots n

-- the inverses all fit, the last first, and leave pages and bands alike to those at the begin
pub record TakesTo (t : Table) (kept : Kept) (begin : State) (ds : List Change) (x : State) : Type 0 where
  pub end : State
  pub off : all_off t ds x ≡ Some end
  pub alike : Alike kept end begin

-- the room that a change wants beyond that it fits: where it opens a slot, the directory with that slot and the most bytes of cells that the page had
abbrev pub HasPlace : ℕ → Op → Option Sheet → Type 0
HasPlace most op leaf = is_format op ≡ false → (p : Sheet) → leaf ≡ Some p → opens op p ≡ true → 4 * (length p.slots + 1) + most ≤ 4072

-- and the slot is one that the page may have, where it was taken at the begin
abbrev pub HasSlot : Kept → ℕ → Op → Option Sheet → Type 0
HasSlot kept m op leaf = kept.pages m ≡ true → is_format op ≡ false → (p : Sheet) → leaf ≡ Some p → opens op p ≡ true → length p.slots + 1 ≤ kept.slots m

abbrev pub HasPlaceFor : Table → Kept → State → List Change → Change → Type 0
HasPlaceFor t kept begin ds (Page m op back) = HasPlace (most t begin ds m) op ((made t begin ds).pages m) × HasSlot kept m op ((made t begin ds).pages m)
HasPlaceFor t kept begin ds (Write b at before after) = Unit {0}
HasPlaceFor t kept begin ds (Paint b at count code position arg before) = Unit {0}

-- an action each of whose changes had its place
abbrev pub ArePlaced : Table → Kept → State → List Change → Type 0
ArePlaced t kept begin [] = Unit {0}
ArePlaced t kept begin (d ∷ ds) = ArePlaced t kept begin ds × HasPlaceFor t kept begin ds d

-- the page has never had more bytes of cells than now: what a structure keeps as long as it only adds
abbrev pub HasGrown : ℕ → Option Sheet → Type 0
HasGrown most leaf = most ≡ leaf_stored leaf

-- pages within 4,072 bytes
abbrev pub AreFit : Kept → List Change → State → Type 0
AreFit kept ds x = (n : ℕ) → in_use kept ds n ≡ true → 4 * leaf_count (x.pages n) + leaf_stored (x.pages n) ≤ 4072

-- an operation that leaves fewer bytes in the cells
abbrev pub leaf_shrinks : Op → Option Sheet → Bool
leaf_shrinks op None = false
leaf_shrinks op (Some sheet) = shrinks op sheet

-- the change is such an operation on this page
abbrev pub shrinks_at : State → Change → ℕ → Bool
shrinks_at x (Page m op back) n = (n == m) && leaf_shrinks op (x.pages m)
shrinks_at x (Write b at before after) n = false
shrinks_at x (Paint b at count code position arg before) n = false

-- the action has had such an operation on the page since it began, or since it took the page
abbrev pub shrunk : Table → State → List Change → ℕ → Bool
shrunk t begin [] n = false
shrunk t begin (d ∷ ds) n = if formats d n then false else shrinks_at (made t begin ds) d n || shrunk t begin ds n

-- a slot is opened only on a page that has not shrunk, and only one that the page may have
abbrev pub OpensWell : Table → Kept → State → List Change → Change → Type 0
OpensWell t kept begin ds (Page m op back) = is_format op ≡ false → (p : Sheet) → (made t begin ds).pages m ≡ Some p → opens op p ≡ true → (shrunk t begin ds m ≡ false) × (kept.pages m ≡ true → length p.slots + 1 ≤ kept.slots m)
OpensWell t kept begin ds (Write b at before after) = Unit {0}
OpensWell t kept begin ds (Paint b at count code position arg before) = Unit {0}

abbrev pub OpenWell : Table → Kept → State → List Change → Type 0
OpenWell t kept begin [] = Unit {0}
OpenWell t kept begin (d ∷ ds) = OpenWell t kept begin ds × OpensWell t kept begin ds d

-- each front of an open action that opens its slots so is taken off
abbrev pub TakesOff : Table → Type 0
TakesOff t = (kept : Kept) (begin : State) (later ds : List Change) → IsBegun kept begin → AreFit kept [] begin → IsOpened t kept begin (later ++ ds) → OpenWell t kept begin (later ++ ds) → TakesTo t kept begin ds (made t begin ds)

-- a take-off that was stopped goes on: the next inverse fits, and what is left to take off is as before
pub record GoesOn (t : Table) (kept : Kept) (begin : State) (ds : List Change) (d : Change) (x : State) : Type 0 where
  pub fits : fits t x (inverse_of d) ≡ true
  pub rest : TakesTo t kept begin ds (apply t x (inverse_of d))

-- the inverses of an action's changes of bands alone, the last one first
abbrev pub put_back : Table → List Change → State → State
put_back t [] x = x
put_back t (Page n op back ∷ ds) x = put_back t ds x
put_back t (Write b at before after ∷ ds) x = put_back t ds (apply t x (inverse_of (Write b at before after)))
put_back t (Paint b at count code position arg before ∷ ds) x = put_back t ds (apply t x (inverse_of (Paint b at count code position arg before)))

-- none of these changes fills the band with zeros as one that is taken
abbrev pub IsNotFilled : List Change → ℕ → Type 0
IsNotFilled [] c = Unit {0}
IsNotFilled (Page n op back ∷ ds) c = IsNotFilled ds c
IsNotFilled (Write b at before after ∷ ds) c = IsNotFilled ds c
IsNotFilled (Paint b at count code position arg [] ∷ ds) c = (c ≢ b) × IsNotFilled ds c
IsNotFilled (Paint b at count code position arg (v ∷ before) ∷ ds) c = IsNotFilled ds c
