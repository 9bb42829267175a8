-- What a running store keeps: whichever of its live transactions are undone, each from some point on, what is left is
-- what the history without these entries gives.
use Rattle.std.specs.Prelude.{◌≡◌, ℕ, ◌<◌, ◌≤◌, Bool, true, false, not, ◌&&◌, nat_le, nat_lt, ◌==◌, List, [], ◌∷◌, filter, map, Option, Some, None}
use Rattle.sg_recovery.specs.Setting.{Setting}
use Rattle.sg_recovery.specs.Log.{Tally, is_in}
use Rattle.sg_recovery.specs.Stands.{settled, wanted}
use Rattle.sg_recovery.specs.Laws.{Each, Note, bare, all_gone_back, Swaps}

-- a verb that got a reply or a reason: its transaction, and where in the log it was done (its top-end's LSN, or the tail)
pub record Entry (V : Type 0) : Type 0 where
  pub transaction : ℕ
  pub at : ℕ
  pub verb : V

-- which entries of which transactions are undone
abbrev pub Choice : Type 0
Choice = ℕ → ℕ → Bool

-- of each transaction those from some point on
abbrev pub IsUpward : Choice → Type 0
IsUpward f = (t a b : ℕ) → a ≤ b → f t a ≡ true → f t b ≡ true

-- of live transactions alone
abbrev pub IsOf : List ℕ → Choice → Type 0
IsOf live f = (t a : ℕ) → f t a ≡ true → is_in t live ≡ true

abbrev pub picked : (s : Setting) → Choice → List (Note s) → List (Note s)
picked s f ns = filter (λ n. f n.transaction n.lsn) ns

abbrev pub left : {V : Type 0} → Choice → List (Entry V) → List (Entry V)
left f h = filter (λ e. not (f e.transaction e.at)) h

-- an LSN is behind a point, where there is one
abbrev pub is_behind : Option ℕ → ℕ → Bool
is_behind None a = false
is_behind (Some b) a = nat_lt b a

-- all entries of live transactions
abbrev pub all_live : List ℕ → Choice
all_live live = λ t a. is_in t live

-- those of a transaction at or after an LSN
abbrev pub from_on : ℕ → ℕ → Choice
from_on t at = λ u a. u == t && nat_le at a

-- the objects after a history, which has the newest entry first
abbrev pub live_after : (s : Setting) → s.S → List (Entry s.V) → s.S
live_after s first [] = first
live_after s first (e ∷ es) = s.step (live_after s first es) e.verb

abbrev pub Shows : (s : Setting) → s.S → List ℕ → List (Note s) → List (Entry s.V) → s.O → Type 0
Shows s first live ns h o = (f : Choice) → IsUpward f → IsOf live f
    → (q : s.O) × (all_gone_back s (picked s f ns) o ≡ Some q) × (s.objects q ≡ live_after s first (left f h))

-- how a later standing note stands to an earlier one
pub record Ranks (s : Setting) (later earlier : Note s) : Type 0 where
  pub lower : earlier.lsn < later.lsn
  pub chained : earlier.transaction ≡ later.transaction → earlier.lsn ≤ later.undo_next
  pub apart : (earlier.transaction ≡ later.transaction → ⊥) → Swaps s later earlier

abbrev pub Pairs : {A : Type 0} → (A → A → Type 0) → List A → Type 0
Pairs R [] = Unit {0}
Pairs R (x ∷ xs) = Each (R x) xs × Pairs R xs

-- a note's transaction is live, and it comes before this LSN and after what it goes on to
pub record IsNote (live : List ℕ) (bound t lsn undo : ℕ) : Type 0 where
  pub is_live : is_in t live ≡ true
  pub number : t < bound
  pub low : lsn < bound
  pub before : undo < lsn

-- THE INVARIANT, at each record boundary, with this LSN above all records so far, and these cells held by each
-- transaction
pub record Running (s : Setting) (first : s.S) (bound : ℕ) (held : ℕ → s.W) (k : Tally s.C s.N) (x : s.X) (h : List (Entry s.V)) : Type 0 where
  pub reading : s.O
  pub reads : settled s k.opened x ≡ Some reading
  pub pages : wanted s k.notes ≤ s.free reading
  pub placed : List (Note s)
  pub are : map (bare s) placed ≡ k.notes
  pub shows : Shows s first k.live placed h reading
  pub lives : Each (λ t. t < bound) k.live
  pub notes : Each (λ n. IsNote k.live bound n.transaction n.lsn n.undo_next) placed
  pub locked : Each (λ n. s.Within n.place (held n.transaction)) placed
  pub ranks : Pairs (Ranks s) placed
  pub entries : Each (λ e. e.transaction < bound) h

-- the objects after the entries of those that aren't live
abbrev pub kept : (s : Setting) → s.S → List ℕ → List (Entry s.V) → s.S
kept s first live h = live_after s first (left (all_live live) h)

-- Some transactions, each with a point behind which it is undone: its own number, or the LSN of one of its marks.
abbrev pub behind : (ℕ → Option ℕ) → Choice
behind from = λ t a. is_behind (from t) a
