-- Small logs, and what each stands for, worked out by hand. The pages hold a number, which is also what is read; a change
-- holds the numbers before and after, and a note how much its verb added.
use Rattle.std.specs.Prelude.{◌≡◌, ℕ, ◌+◌, ◌-◌, nat_le, if◌then◌else◌, true, List, [], ◌∷◌, Some, None}
use Rattle.sg_recovery.specs.Setting.{Setting}
use Rattle.sg_recovery.specs.Log.{Record, Numbered}
use Rattle.sg_recovery.specs.Log.Record.{Begin, Change, TopEnd, PhysComp, TopVoid, CompEnd, Save, Commit, End}
use Rattle.sg_recovery.specs.Stands.{stands}

abbrev pub sums : Setting
sums = record {
  X = ℕ;
  C = ℕ × ℕ;
  O = ℕ;
  S = ℕ;
  N = ℕ;
  V = ℕ;
  apply = λ x c. c.1;
  fits = λ x c. true;
  inverse = λ c. (c.1, c.0);
  reading = λ x. Some x;
  unstep = λ o n cs. if nat_le n o then Some (o - n) else None;
  free = λ o. 0;
  wants = λ n. true;
  objects = λ o. o;
  step = λ s v. s + v;
  Below = λ o p. o ≡ p;
  After = λ v o p. p ≡ o + v;
  W = Unit {0};
  Freed = λ f o p. o ≡ p;
  can_undo = λ o n cs w. true;
  Within = λ a b. Unit {0};
  Clear = λ v w. Unit {0};
  Apart = λ a b. Unit {0};
  Writes = λ v w. Unit {0};
}

abbrev pub Row : Type 0
Row = Numbered (ℕ × ℕ) ℕ

abbrev pub at : ℕ → Record (ℕ × ℕ) ℕ → Row
at lsn r = record { lsn = lsn; is = r }

-- Transaction 1 adds 3, and transaction 2 adds 5. The oldest record stands last
abbrev pub both : List Row
both = at 6 (TopEnd 2 5 2 5) ∷ at 5 (Change 2 2 (3, 8)) ∷ at 4 (TopEnd 1 3 1 3) ∷ at 3 (Change 1 1 (0, 3)) ∷ at 2 (Begin 2 0) ∷ at 1 (Begin 1 0) ∷ []

-- behind that, transaction 1 commits and transaction 2 adds 10 in two changes, without an end
abbrev pub open_action : List Row
open_action = at 9 (Change 2 8 (8, 18)) ∷ at 8 (Change 2 6 (8, 8)) ∷ at 7 (Commit 1 4) ∷ both

-- both changes are taken off, but the end of that isn't there
abbrev pub all_taken : List Row
all_taken = at 11 (PhysComp 2 10 6 (8, 8)) ∷ at 10 (PhysComp 2 9 8 (18, 8)) ∷ open_action

-- transaction 1 is undone below the later note of transaction 2: it takes its 3 away
abbrev pub undoing : List Row
undoing = at 7 (Change 1 4 (8, 5)) ∷ both

-- a mark, behind it 10 more, back to the mark, and 20 more
abbrev pub marked : List Row
marked =
    at 10 (TopEnd 1 9 8 20) ∷ at 9 (Change 1 8 (1, 21)) ∷ at 8 (CompEnd 1 7 4) ∷ at 7 (Change 1 6 (11, 1)) ∷ at 6 (TopEnd 1 5 4 10) ∷ at 5 (Change 1 4 (1, 11)) ∷ at 4 (Save 1 3 1)
    ∷ at 3 (TopEnd 1 2 1 1) ∷ at 2 (Change 1 1 (0, 1)) ∷ at 1 (Begin 1 0) ∷ []

-- these records over pages that hold 0, and the number for which they stand
abbrev pub small_logs : List (List Row × ℕ)
small_logs =
    -- nobody has committed; the first has; the second has
    (both, 0)
    ∷ (at 7 (Commit 1 4) ∷ both, 3)
    ∷ (at 7 (Commit 2 6) ∷ both, 5)
    -- an action without an end is taken off first: before its take-off, in the middle of it, before and behind its end
    ∷ (open_action, 3)
    ∷ (at 10 (PhysComp 2 9 8 (18, 8)) ∷ open_action, 3)
    ∷ (all_taken, 3)
    ∷ (at 12 (TopVoid 2 11 6) ∷ all_taken, 3)
    -- in the middle of an undo, behind its end, and behind the end of the transaction, once the other one has committed
    ∷ (undoing, 0)
    ∷ (at 8 (CompEnd 1 7 1) ∷ undoing, 0)
    ∷ (at 10 (Commit 2 6) ∷ at 9 (End 1 8) ∷ at 8 (CompEnd 1 7 1) ∷ undoing, 5)
    -- the note before the mark and the new one stand, the one behind the mark doesn't; and once all is committed
    ∷ (marked, 0)
    ∷ (at 11 (Commit 1 10) ∷ marked, 21)
    ∷ []

-- each of these logs stands for its number
abbrev pub AllStandFor : List (List Row × ℕ) → Type 0
AllStandFor [] = Unit {0}
AllStandFor (log ∷ logs) = (stands sums 0 log.0 ≡ Some log.1) × AllStandFor logs
