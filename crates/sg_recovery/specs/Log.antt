-- A log of changes and notes of any kind, and what it says: whose transactions go on, which changes are open, which notes
-- stand. A log is a list of numbered records, the newest first, so that to append is to put in front.
use Rattle.std.specs.Prelude.{ℕ, Bool, false, ◌==◌, ◌||◌, ◌&&◌, nat_lt, not, if◌then◌else◌, List, [], ◌∷◌, filter, map}

-- A record, by what it is of and the record of that transaction before it. An action is some changes, which a note or an
-- end of undoing follows. Undoing goes on at the record `undo_next`.
pub data Record (C N : Type 0) : Type 0 where
  Begin : (transaction previous : ℕ) → Record C N
  Change : (transaction previous : ℕ) → C → Record C N
  -- an action has ended, and this note says how it is undone
  TopEnd : (transaction previous undo_next : ℕ) → N → Record C N
  -- a change of an action that didn't end is taken off, by this change
  PhysComp : (transaction previous undo_next : ℕ) → C → Record C N
  -- all of them are
  TopVoid : (transaction previous undo_next : ℕ) → Record C N
  -- an action that has undone another one has ended
  CompEnd : (transaction previous undo_next : ℕ) → Record C N
  Save : (transaction previous mark : ℕ) → Record C N
  Commit : (transaction previous : ℕ) → Record C N
  End : (transaction previous : ℕ) → Record C N

pub record Numbered (C N : Type 0) : Type 0 where
  pub lsn : ℕ
  pub is : Record C N

-- a change of an action that hasn't ended
pub record Open (C : Type 0) : Type 0 where
  pub lsn : ℕ
  pub transaction : ℕ
  pub change : C

-- the end of an action, with its note and its changes, the last one first
pub record Top (C N : Type 0) : Type 0 where
  pub lsn : ℕ
  pub transaction : ℕ
  pub undo_next : ℕ
  pub note : N
  pub changes : List C

-- What a log says: the transactions that have begun and neither committed nor ended, the changes of actions without an end
-- that aren't taken off, and the notes of those transactions that aren't undone. Of all these the newest stands first.
pub record Tally (C N : Type 0) : Type 0 where
  pub live : List ℕ
  pub opened : List (Open C)
  pub notes : List (Top C N)

abbrev pub is_in : ℕ → List ℕ → Bool
is_in transaction [] = false
is_in transaction (other ∷ others) = other == transaction || is_in transaction others

abbrev pub without : ℕ → List ℕ → List ℕ
without transaction others = filter (λ other. not (other == transaction)) others

-- a transaction's open changes, and those of the others
abbrev pub open_of : {C : Type 0} → ℕ → List (Open C) → List (Open C)
open_of transaction ds = filter (λ d. d.transaction == transaction) ds

abbrev pub open_not_of : {C : Type 0} → ℕ → List (Open C) → List (Open C)
open_not_of transaction ds = filter (λ d. not (d.transaction == transaction)) ds

-- the open changes once those of a transaction above a number are taken off
abbrev pub open_up_to : {C : Type 0} → (transaction undo_next : ℕ) → List (Open C) → List (Open C)
open_up_to transaction undo_next ds = filter (λ d. not (d.transaction == transaction && nat_lt undo_next d.lsn)) ds

abbrev pub changes_of : {C : Type 0} → List (Open C) → List C
changes_of ds = map (λ d. d.change) ds

abbrev pub notes_of : {C N : Type 0} → ℕ → List (Top C N) → List (Top C N)
notes_of transaction ns = filter (λ n. n.transaction == transaction) ns

abbrev pub notes_not_of : {C N : Type 0} → ℕ → List (Top C N) → List (Top C N)
notes_not_of transaction ns = filter (λ n. not (n.transaction == transaction)) ns

-- the notes once those of a transaction above a number are undone
abbrev pub notes_up_to : {C N : Type 0} → (transaction undo_next : ℕ) → List (Top C N) → List (Top C N)
notes_up_to transaction undo_next ns = filter (λ n. not (n.transaction == transaction && nat_lt undo_next n.lsn)) ns

-- what a record with this number does to what a log says
abbrev pub said : {C N : Type 0} → (lsn : ℕ) → Record C N → Tally C N → Tally C N
said lsn (Begin transaction previous) k = record k { live = transaction ∷ k.live }
said lsn (Change transaction previous change) k = record k { opened = record { lsn = lsn; transaction = transaction; change = change } ∷ k.opened }
said lsn (TopEnd transaction previous undo_next note) k = record k {
  opened = open_not_of transaction k.opened;
  notes = if is_in transaction k.live
      then record { lsn = lsn; transaction = transaction; undo_next = undo_next; note = note; changes = changes_of (open_of transaction k.opened) } ∷ k.notes
      else k.notes;
}
said lsn (PhysComp transaction previous undo_next change) k = record k { opened = open_up_to transaction undo_next k.opened }
said lsn (TopVoid transaction previous undo_next) k = record k { opened = open_not_of transaction k.opened }
said lsn (CompEnd transaction previous undo_next) k = record k { opened = open_not_of transaction k.opened; notes = notes_up_to transaction undo_next k.notes }
said lsn (Save transaction previous mark) k = k
said lsn (Commit transaction previous) k = record k { live = without transaction k.live; notes = notes_not_of transaction k.notes }
said lsn (End transaction previous) k = record k { live = without transaction k.live; notes = notes_not_of transaction k.notes }

abbrev pub tally : {C N : Type 0} → List (Numbered C N) → Tally C N
tally [] = record { live = []; opened = []; notes = [] }
tally (r ∷ rs) = said r.lsn r.is (tally rs)
