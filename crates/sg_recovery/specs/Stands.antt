-- What a log over some pages stands for.
use Rattle.std.specs.Prelude.{◌≡◌, ℕ, ◌+◌, ◌≤◌, if◌then◌else◌, List, [], ◌∷◌, Option, Some, None}
use Rattle.sg_recovery.specs.Setting.{Setting}
use Rattle.sg_recovery.specs.Log.{Record, Numbered, Open, Top, Tally, tally}
use Rattle.sg_recovery.specs.Log.Record.{Begin, Change, TopEnd, PhysComp, TopVoid, CompEnd, Save, Commit, End}

abbrev pub and_then : {A B : Type 0} → Option A → (A → Option B) → Option B
and_then None f = None
and_then (Some a) f = f a

-- redo of a record
abbrev pub redo : (s : Setting) → Record s.C s.N → s.X → s.X
redo s (Begin t p) x = x
redo s (Change t p c) x = s.apply x c
redo s (TopEnd t p u n) x = x
redo s (PhysComp t p u c) x = s.apply x c
redo s (TopVoid t p u) x = x
redo s (CompEnd t p u) x = x
redo s (Save t p m) x = x
redo s (Commit t p) x = x
redo s (End t p) x = x

-- history repeated
abbrev pub made : (s : Setting) → s.X → List (Numbered s.C s.N) → s.X
made s x [] = x
made s x (r ∷ rs) = redo s r.is (made s x rs)

-- the inverse of a change applied, where it fits
abbrev pub taken_off : (s : Setting) → s.C → s.X → Option s.X
taken_off s c x = if s.fits x (s.inverse c) then Some (s.apply x (s.inverse c)) else None

-- the inverses of some changes applied, from the last back
abbrev pub all_off : (s : Setting) → List (Open s.C) → s.X → Option s.X
all_off s [] x = Some x
all_off s (d ∷ ds) x = and_then (taken_off s d.change x) (all_off s ds)

-- what is read once the unfinished action is taken off
abbrev pub settled : (s : Setting) → List (Open s.C) → s.X → Option s.O
settled s ds x = and_then (all_off s ds x) s.reading

-- some steps back, the first of the list first
abbrev pub all_back : {A O : Type 0} → (A → O → Option O) → List A → O → Option O
all_back back [] o = Some o
all_back back (n ∷ ns) o = and_then (back n o) (all_back back ns)

-- a note is undone
abbrev pub undoes : (s : Setting) → Top s.C s.N → s.O → Option s.O
undoes s n o = s.unstep o n.note n.changes

-- some notes undone, from the last back
abbrev pub all_undone : (s : Setting) → List (Top s.C s.N) → s.O → Option s.O
all_undone s ns o = all_back (undoes s) ns o

-- with these changes open and these notes
abbrev pub stands_with : (s : Setting) → List (Open s.C) → List (Top s.C s.N) → s.X → Option s.O
stands_with s ds ns x = and_then (settled s ds x) (all_undone s ns)

-- what is read once the unfinished action is taken off and the standing notes of those that go on are undone
abbrev pub stands_at : (s : Setting) → Tally s.C s.N → s.X → Option s.O
stands_at s k x = and_then (settled s k.opened x) (all_undone s k.notes)

abbrev pub stands : (s : Setting) → s.X → List (Numbered s.C s.N) → Option s.O
stands s x rs = stands_at s (tally rs) (made s x rs)

-- how many of these notes want a page
abbrev pub wanted : (s : Setting) → List (Top s.C s.N) → ℕ
wanted s [] = 0
wanted s (n ∷ ns) = if s.wants n.note then wanted s ns + 1 else wanted s ns

-- the pages that the undoing of one note may take
abbrev pub wants_one : (s : Setting) → Top s.C s.N → ℕ
wants_one s n = if s.wants n.note then 1 else 0

-- what is read has a free page for each of the notes that want one
abbrev pub HasPages : (s : Setting) → Tally s.C s.N → s.X → Type 0
HasPages s k x = (o : s.O) → settled s k.opened x ≡ Some o → wanted s k.notes ≤ s.free o

-- pages and a log over them stand for some objects
abbrev pub StandsFor : (s : Setting) → s.X → List (Numbered s.C s.N) → s.S → Type 0
StandsFor s x rs m = (o : s.O) × (stands s x rs ≡ Some o) × (s.objects o ≡ m) × HasPages s (tally rs) (made s x rs)
