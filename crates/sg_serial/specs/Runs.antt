-- The state of a run of transactions, and what each kind of line makes of it.
use Rattle.std.specs.Prelude.{◌≡◌, ℕ, ◌+◌, ◌-◌, ◌<◌, ◌≤◌, Bool, true, false, cond, not, ◌||◌, ◌&&◌, ◌==◌, nat_le, List, [], ◌∷◌, ◌++◌, map, length, take, Option, Some, None, slice_get, if◌then◌else◌}
use Rattle.std.specs.List.{filter, flat_map, find}
use Rattle.sg_serial.specs.Machine.{Among, Entry, run, Replays, Held, AreCompatible, IsClearOf}
use Rattle.sg_serial.specs.Locks.{Touch, Hold, reads, writes, held_of, released, hold_all, any_conflict}

-- a mark of a transaction: the number that it was given, and the time when it was set
pub record Mark : Type 0 where
  pub number : ℕ
  pub time : ℕ

-- a live transaction: its name, its number and its marks, the first one first
pub record Live : Type 0 where
  pub name : List ℕ
  pub transaction : ℕ
  pub marks : List Mark

-- What has happened since a run began with its first objects: the entries in their order, the committed transactions in
-- theirs and how many of these were answered, the live ones in the order of begin, what they hold, numbers above those of all transactions and entries so far
pub record State (S Op Out Resource : Type 0) : Type 0 where
  pub first : S
  pub history : List (Entry Op Out)
  pub commits : List (List (Entry Op Out))
  pub answered : ℕ
  pub live : List Live
  pub held : List (Hold Resource)
  pub next : ℕ
  pub clock : ℕ

abbrev pub is_live : List Live → ℕ → Bool
is_live [] t = false
is_live (l ∷ ls) t = (l.transaction == t) || is_live ls t

-- the live transactions but for this one
abbrev pub without : ℕ → List Live → List Live
without t ls = filter (λ l. not (l.transaction == t)) ls

abbrev pub is_own : {Op Out : Type 0} → ℕ → Entry Op Out → Bool
is_own t e = e.transaction == t

-- a transaction has begun
abbrev pub began : {S Op Out Resource : Type 0} → State S Op Out Resource → ℕ → List ℕ → State S Op Out Resource
began x t name = record x { live = x.live ++ (record { name = name; transaction = t; marks = [] }) ∷ []; next = t + 1 }

-- a transaction holds more
abbrev pub locked : {S Op Out Resource : Type 0} → (Resource → Resource → Bool) → State S Op Out Resource → ℕ → List (Touch Resource) → State S Op Out Resource
locked same x t ts = record x { held = hold_all same t ts x.held }

-- a transaction is no more
abbrev pub ended : {S Op Out Resource : Type 0} → State S Op Out Resource → ℕ → State S Op Out Resource
ended x t = record x { live = without t x.live; held = released t x.held }

-- only these entries are left in the history
abbrev pub kept : {S Op Out Resource : Type 0} → State S Op Out Resource → (Entry Op Out → Bool) → State S Op Out Resource
kept x keep = record x { history = filter keep x.history }

-- a transaction has committed
abbrev pub committed : {S Op Out Resource : Type 0} → State S Op Out Resource → ℕ → State S Op Out Resource
committed x t = record x { commits = x.commits ++ filter (is_own t) x.history ∷ []; answered = length x.commits + 1; live = without t x.live; held = released t x.held }

-- a transaction has aborted
abbrev pub aborted : {S Op Out Resource : Type 0} → State S Op Out Resource → ℕ → State S Op Out Resource
aborted x t = ended (kept x (λ e. not (is_own t e))) t

-- a transaction has gone back to a time
abbrev pub back : {S Op Out Resource : Type 0} → State S Op Out Resource → ℕ → ℕ → State S Op Out Resource
back x t time = kept x (λ e. not (is_own t e && nat_le time e.time))

-- of each transaction an end is left out
abbrev pub LeavesOutEnds : {Op Out : Type 0} → (Entry Op Out → Bool) → Type 0
LeavesOutEnds {Op} {Out} keep = (e f : Entry Op Out) → e.transaction ≡ f.transaction → e.time ≤ f.time → keep f ≡ true → keep e ≡ true

-- only entries of live transactions are left out
abbrev pub KeepsEnded : {Op Out : Type 0} → (Entry Op Out → Bool) → List Live → List (Entry Op Out) → Type 0
KeepsEnded {Op} {Out} keep ls es = (e : Entry Op Out) → Among e es → is_live ls e.transaction ≡ false → keep e ≡ true

-- no entry is of an earlier time
abbrev pub AreFrom : {Op Out : Type 0} → ℕ → List (Entry Op Out) → Type 0
AreFrom n [] = Unit {0}
AreFrom n (e ∷ es) = (n ≤ e.time) × AreFrom n es

-- the entries stand in the order of their times
abbrev pub AreInOrder : {Op Out : Type 0} → List (Entry Op Out) → Type 0
AreInOrder [] = Unit {0}
AreInOrder (e ∷ es) = AreFrom e.time es × AreInOrder es

-- the entries are of transactions with smaller numbers, and of earlier times
abbrev pub AreBelow : {Op Out : Type 0} → ℕ → ℕ → List (Entry Op Out) → Type 0
AreBelow next clock [] = Unit {0}
AreBelow next clock (e ∷ es) = ((e.transaction < next) × (e.time < clock)) × AreBelow next clock es

-- the live transactions have numbers above this one
abbrev pub AreAbove : ℕ → List Live → Type 0
AreAbove n [] = Unit {0}
AreAbove n (l ∷ ls) = (n < l.transaction) × AreAbove n ls

-- the live transactions stand in the order of their numbers
abbrev pub AreRising : List Live → Type 0
AreRising [] = Unit {0}
AreRising (l ∷ ls) = AreAbove l.transaction ls × AreRising ls

abbrev pub in_order : {A : Type 0} → List (List A) → List A
in_order lists = flat_map (λ es. es) lists

-- the entries of the live transactions
abbrev pub open_entries : {S Op Out Resource : Type 0} → State S Op Out Resource → List (Entry Op Out)
open_entries x = filter (λ e. is_live x.live e.transaction) x.history

module _ {S Op Out Resource : Type 0} (step : S → Op → Out × S) where
  -- the objects as the live transactions have left them
  abbrev pub live_state : State S Op Out Resource → S
  live_state x = run step x.first x.history

  -- the objects after the committed transactions alone, one whole transaction after another
  abbrev pub committed_state : State S Op Out Resource → S
  committed_state x = run step x.first (in_order x.commits)

  -- a transaction has done an operation
  abbrev pub did : State S Op Out Resource → ℕ → Op → State S Op Out Resource
  did x t op = record x { history = x.history ++ (record { transaction = t; op = op; out = (step (live_state x) op).0; time = x.clock }) ∷ []; clock = x.clock + 1 }

module _ {S Op Out Cell Resource : Type 0} (step : S → Op → Out × S) (touches : S → Op → List (Touch Resource)) (covers : Resource → Cell → Bool) where
  -- What holds of each run. The committed transactions replay one after another, and the live ones' entries after them;
  -- leaving out an end of each of some live transactions is the same in the history as there
  pub record IsSerial (x : State S Op Out Resource) : Type 0 where
    pub replays : Replays step x.first (in_order x.commits)
    pub held : Held step touches (reads covers) (writes covers) (held_of x.held) (committed_state step x) (open_entries x)
    pub compatible : AreCompatible (reads covers) (writes covers) (held_of x.held)
    pub whole : (keep : Entry Op Out → Bool) → LeavesOutEnds keep → KeepsEnded keep x.live x.history → run step x.first (filter keep x.history) ≡ run step (committed_state step x) (filter keep (open_entries x))
    pub ordered : AreInOrder x.history
    pub below : AreBelow x.next x.clock x.history
    pub numbers : (t : ℕ) → is_live x.live t ≡ true → t < x.next
    pub holders : (t : ℕ) → is_live x.live t ≡ false → held_of x.held t ≡ []
    pub rising : AreRising x.live

-- the marks of a live transaction
abbrev pub marks_in : Option Live → List Mark
marks_in None = []
marks_in (Some l) = l.marks

abbrev pub marks_of : List Live → ℕ → List Mark
marks_of ls t = marks_in (find (λ l. l.transaction == t) ls)

-- the mark with a number in their order, of which the first is 1
abbrev pub nth_mark : {A : Type 0} → ℕ → List A → Option A
nth_mark number ms = if number == 0 then None else slice_get ms (number - 1)

-- the live transactions, of which one has other marks
abbrev pub remarking : ℕ → (List Mark → List Mark) → List Live → List Live
remarking t f ls = map (λ l. cond (l.transaction == t) (record l { marks = f l.marks }) l) ls

-- a transaction has set a mark, which was given this number
abbrev pub saved : {S Op Out Resource : Type 0} → State S Op Out Resource → (t number : ℕ) → State S Op Out Resource
saved x t number = record x { live = remarking t (λ ms. ms ++ (record { number = number; time = x.clock }) ∷ []) x.live }

-- A transaction has gone back to a mark that it set at this time: what it did behind that is left out. Of its marks it has the first
-- so many, and all that it held
abbrev pub rolled_back : {S Op Out Resource : Type 0} → State S Op Out Resource → (t time n : ℕ) → State S Op Out Resource
rolled_back x t time n = record (back x t time) { live = remarking t (λ ms. take n ms) x.live }

-- a run that begins with this
abbrev pub start : {S Op Out Resource : Type 0} → S → State S Op Out Resource
start first = record { first = first; history = []; commits = []; answered = 0; live = []; held = []; next = 0; clock = 0 }

-- the other live transaction that began first of those that hold a touch in conflict with these
abbrev pub holder : {Resource : Type 0} → (Touch Resource → Touch Resource → Bool) → List Live → List (Hold Resource) → ℕ → List (Touch Resource) → Option Live
holder conflict ls hs t wanted = find (λ l. not (l.transaction == t) && any_conflict conflict (held_of hs l.transaction) wanted) ls

-- nobody else holds anything in conflict with these touches
abbrev pub IsFree : {Resource Cell : Type 0} → (Resource → Cell → Bool) → List (Hold Resource) → ℕ → List (Touch Resource) → Type 0
IsFree covers hs t ts = (u : ℕ) → (u ≡ t → ⊥) → IsClearOf (reads covers) (writes covers) (held_of hs u) ts × IsClearOf (reads covers) (writes covers) ts (held_of hs u)

module _ {S Op Out Cell Resource : Type 0} (step : S → Op → Out × S) (touches : S → Op → List (Touch Resource)) (covers : Resource → Cell → Bool) (same : Resource → Resource → Bool) where
  -- how a line may go
  pub data Goes : State S Op Out Resource → State S Op Out Resource → Type 0 where
    refused : {x : State S Op Out Resource} → Goes x x
    begins : {x : State S Op Out Resource} (t : ℕ) (name : List ℕ) → x.next ≤ t → Goes x (began x t name)
    only_locks : {x : State S Op Out Resource} (t : ℕ) (op : Op) → is_live x.live t ≡ true → IsFree covers x.held t (touches (live_state step x) op) → Goes x (locked same x t (touches (live_state step x) op))
    does : {x : State S Op Out Resource} (t : ℕ) (op : Op) → is_live x.live t ≡ true → IsFree covers x.held t (touches (live_state step x) op) → Goes x (did step (locked same x t (touches (live_state step x) op)) t op)
    saves : {x : State S Op Out Resource} (t number : ℕ) → is_live x.live t ≡ true → Goes x (saved x t number)
    goes_back : {x : State S Op Out Resource} (t time n : ℕ) → is_live x.live t ≡ true → Goes x (rolled_back x t time n)
    commits : {x : State S Op Out Resource} (t : ℕ) → is_live x.live t ≡ true → Goes x (committed x t)
    aborts : {x : State S Op Out Resource} (t : ℕ) → is_live x.live t ≡ true → Goes x (aborted x t)

  -- a run of lines
  pub data GoesOn : State S Op Out Resource → State S Op Out Resource → Type 0 where
    no_line : {x : State S Op Out Resource} → GoesOn x x
    and_line : {x y z : State S Op Out Resource} → GoesOn x y → Goes y z → GoesOn x z

module _ {S Op Out : Type 0} (unstep : S → Out → S) where
  -- what came out of these entries undone, the last one first
  abbrev pub undo_all : S → List (Entry Op Out) → S
  undo_all s [] = s
  undo_all s (e ∷ es) = unstep (undo_all s es) e.out
