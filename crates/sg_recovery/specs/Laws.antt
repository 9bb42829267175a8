-- What readings, notes and verbs have to do with one another.
use Rattle.std.specs.Prelude.{◌≡◌, ℕ, if◌then◌else◌, List, [], ◌∷◌, Option, Some, None}
use Rattle.sg_recovery.specs.Setting.{Setting}
use Rattle.sg_recovery.specs.Log.{Top}
use Rattle.sg_recovery.specs.Stands.{all_back, undoes}

-- each of these is so
abbrev pub Each : {A : Type 0} → (A → Type 0) → List A → Type 0
Each P [] = Unit {0}
Each P (x ∷ xs) = P x × Each P xs

-- A standing note with its place, the cells that its verb wrote. The log doesn't say the place.
pub record Note (s : Setting) : Type 0 where
  pub lsn : ℕ
  pub transaction : ℕ
  pub undo_next : ℕ
  pub note : s.N
  pub changes : List s.C
  pub place : s.W

abbrev pub bare : (s : Setting) → Note s → Top s.C s.N
bare s n = record { lsn = n.lsn; transaction = n.transaction; undo_next = n.undo_next; note = n.note; changes = n.changes }

-- a note is undone at its place
abbrev pub goes_back : (s : Setting) → Note s → s.O → Option s.O
goes_back s n o = if s.can_undo o n.note n.changes n.place then undoes s (bare s n) o else None

abbrev pub all_gone_back : (s : Setting) → List (Note s) → s.O → Option s.O
all_gone_back s ns o = all_back (goes_back s) ns o

-- a step back keeps a relation of readings: where it can be made in the first, it can in the second
abbrev pub Carried : {A O : Type 0} → (A → O → Option O) → (O → O → Type 0) → A → Type 0
Carried {O = O} back R n = (o p o1 : O) → R o p → back n o ≡ Some o1 → (p1 : O) × (back n p ≡ Some p1) × R o1 p1

abbrev pub Carries : (s : Setting) → (s.O → s.O → Type 0) → Note s → Type 0
Carries s R n = Carried (goes_back s) R n

-- THE COMMUTING, of a later note with an earlier one: to undo the earlier one first leaves no less
abbrev pub Swaps : (s : Setting) → Note s → Note s → Type 0
Swaps s later earlier = (o o1 o2 : s.O) → goes_back s later o ≡ Some o1 → goes_back s earlier o1 ≡ Some o2
    → (p1 : s.O) × (p2 : s.O) × (goes_back s earlier o ≡ Some p1) × (goes_back s later p1 ≡ Some p2) × s.Below o2 p2

-- THE COMMUTING, of a note with a verb: where the note could be undone before the verb, it can after it, and that
-- is what the verb may leave of the reading in which it was undone
abbrev pub Passes : (s : Setting) → s.V → Note s → Type 0
Passes s v n = Carries s (s.After v) n

-- What holds of every setting. No law names a log.
pub record Laws (s : Setting) : Type 0 where
  pub below_same : (o : s.O) → s.Below o o
  pub below_trans : (o p q : s.O) → s.Below o p → s.Below p q → s.Below o q
  pub below_objects : (o p : s.O) → s.Below o p → s.objects o ≡ s.objects p
  pub below_undo : (n : Top s.C s.N) → Carried (undoes s) s.Below n
  pub below_back : (n : Note s) → Carries s s.Below n
  pub after_objects : (v : s.V) (o p : s.O) → s.After v o p → s.objects p ≡ s.step (s.objects o) v
  pub freed_objects : (f : s.W) (o p : s.O) → s.Freed f o p → s.objects o ≡ s.objects p
  -- the locks: a verb that is clear of what another transaction holds passes that one's notes, and its own note
  -- changes places with them
  pub clear_passes : (v : s.V) (held : s.W) (m : Note s) → s.Clear v held → s.Within m.place held → Passes s v m
  pub apart_passes : (f held : s.W) (m : Note s) → s.Apart f held → s.Within m.place held → Carries s (s.Freed f) m
  pub clear_swaps : (v : s.V) (held : s.W) (n m : Note s) → s.Clear v held → s.Writes v n.place → s.Within m.place held → Swaps s n m
