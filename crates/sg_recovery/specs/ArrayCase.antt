-- One array as a case of cells: push and pop touch the length and the item there, so what they touch depends on the objects.
use Rattle.std.specs.Prelude.{◌≡◌, ℕ, ◌+◌, ◌-◌, ◌<◌, ◌≤◌, max, Bool, true, false, not, ◌==◌, ◌||◌, ◌&&◌, nat_lt, if◌then◌else◌, List, [], ◌∷◌, Option, Some, None}
use Rattle.sg_recovery.specs.Log.{is_in}
use Rattle.sg_recovery.specs.Cells.{Cells}

pub data Cell : Type 0 where
  Len : Cell
  Item : ℕ → Cell

pub data Held : Type 0 where
  Length : (length peak : ℕ) → Held
  Here : ℕ → Held
  Gone : Held

pub record Arr : Type 0 where
  pub len : ℕ
  pub peak : ℕ
  pub item : ℕ → ℕ

-- the note of a push, of a pop with its item, of a write with the old item
pub data Note1 : Type 0 where
  Pushed : Note1
  Popped : ℕ → Note1
  Wrote : (i v : ℕ) → Note1

-- a push and a pop with the length at which they are done
pub data Verb1 : Type 0 where
  Push : (at v : ℕ) → Verb1
  Pop : (at : ℕ) → Verb1
  Write : (i v : ℕ) → Verb1
  Get : (i : ℕ) → Verb1

pub record Set1 : Type 0 where
  pub has_len : Bool
  pub items : List ℕ

abbrev pub put : ℕ → ℕ → (ℕ → ℕ) → ℕ → ℕ
put i v f j = if j == i then v else f j

abbrev pub cell : Arr → Cell → Held
cell o Len = Length o.len o.peak
cell o (Item i) = if nat_lt i o.len then Here (o.item i) else Gone

abbrev pub LeHeld : Held → Held → Type 0
LeHeld (Length l p) b = (q : ℕ) × (b ≡ Length l q) × (p ≤ q)
LeHeld (Here v) b = b ≡ Here v
LeHeld Gone b = b ≡ Gone

abbrev pub has_cell : Set1 → Cell → Bool
has_cell w Len = w.has_len
has_cell w (Item i) = is_in i w.items

abbrev pub all_in : List ℕ → List ℕ → Bool
all_in [] ys = true
all_in (x ∷ xs) ys = is_in x ys && all_in xs ys

abbrev pub inside1 : Set1 → Set1 → Bool
inside1 a b = (not a.has_len || b.has_len) && all_in a.items b.items

abbrev pub unstep1 : Arr → Note1 → List ℕ → Option Arr
unstep1 o Pushed cs = if nat_lt 0 o.len then Some (record { len = o.len - 1; peak = o.peak; item = o.item }) else None
unstep1 o (Popped v) cs = if nat_lt o.len o.peak then Some (record { len = o.len + 1; peak = o.peak; item = put o.len v o.item }) else None
unstep1 o (Wrote i v) cs = if nat_lt i o.len then Some (record { len = o.len; peak = o.peak; item = put i v o.item }) else None

abbrev pub touched1 : Arr → Note1 → List ℕ → Set1
touched1 o Pushed cs = record { has_len = true; items = (o.len - 1) ∷ [] }
touched1 o (Popped v) cs = record { has_len = true; items = o.len ∷ [] }
touched1 o (Wrote i v) cs = record { has_len = false; items = i ∷ [] }

-- without the peak
abbrev pub strip : Held → Held
strip (Length l p) = Length l 0
strip (Here v) = Here v
strip Gone = Gone

abbrev pub reads1 : Verb1 → Cell → Bool
reads1 (Push at v) c = false
reads1 (Pop at) c = false
reads1 (Write i v) c = false
reads1 (Get i) Len = false
reads1 (Get i) (Item j) = j == i

abbrev pub writes1 : Verb1 → Cell → Bool
writes1 (Push at v) Len = true
writes1 (Push at v) (Item j) = j == at
writes1 (Pop at) Len = true
writes1 (Pop at) (Item j) = j == at - 1
writes1 (Write i v) Len = false
writes1 (Write i v) (Item j) = j == i
writes1 (Get i) c = false

abbrev pub IsAt1 : Verb1 → Arr → Type 0
IsAt1 (Push at v) o = o.len ≡ at
IsAt1 (Pop at) o = (o.len ≡ at) × (0 < at)
IsAt1 (Write i v) o = i < o.len
IsAt1 (Get i) o = Unit {0}

abbrev pub result1 : Verb1 → Arr → Cell → Held
result1 (Push at v) o Len = Length (at + 1) (max o.peak (at + 1))
result1 (Push at v) o (Item j) = Here v
result1 (Pop at) o Len = Length (at - 1) o.peak
result1 (Pop at) o (Item j) = Gone
result1 (Write i v) o c = Here v
result1 (Get i) o c = Gone

abbrev pub step1 : (Cell → Held) → Verb1 → Cell → Held
step1 m (Push at v) Len = Length (at + 1) 0
step1 m (Push at v) (Item j) = if j == at then Here v else m (Item j)
step1 m (Pop at) Len = Length (at - 1) 0
step1 m (Pop at) (Item j) = if j == at - 1 then Gone else m (Item j)
step1 m (Write i v) Len = m Len
step1 m (Write i v) (Item j) = if j == i then Here v else m (Item j)
step1 m (Get i) c = m c

-- changes, which play no part here, are numbers, and a state of the pages is the array
abbrev pub array_cells : Cells
array_cells = record {
  X = Arr;
  C = ℕ;
  O = Arr;
  S = Cell → Held;
  N = Note1;
  V = Verb1;
  K = Cell;
  A = λ c. Held;
  W = Set1;
  apply = λ x c. x;
  fits = λ x c. true;
  inverse = λ c. c;
  reading = λ x. Some x;
  unstep = unstep1;
  free = λ o. 0;
  wants = λ n. false;
  objects = λ o c. strip (cell o c);
  step = step1;
  at = cell;
  seen = λ c. true;
  Le = λ c. LeHeld;
  has = has_cell;
  inside = inside1;
  touched = touched1;
  reads = reads1;
  writes = writes1;
  IsAt = IsAt1;
  result = result1;
}
