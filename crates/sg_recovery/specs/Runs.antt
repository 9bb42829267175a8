-- The steps of a running store, each with what it owes, and what a crash may find.
use Rattle.std.specs.Prelude.{◌≡◌, ℕ, ◌+◌, ◌<◌, ◌≤◌, true, false, List, [], ◌∷◌, ◌++◌, Some}
use Rattle.sg_recovery.specs.Setting.{Setting}
use Rattle.sg_recovery.specs.Log.{Record, Numbered, Open, Top, Tally, changes_of, open_of, is_in, open_not_of}
use Rattle.sg_recovery.specs.Log.Record.{Begin, Change, TopEnd, CompEnd, Save, End}
use Rattle.sg_recovery.specs.Stands.{settled, wanted, wants_one, StandsFor}
use Rattle.sg_recovery.specs.Laws.{Each, Note, goes_back}
use Rattle.sg_recovery.specs.Keeps.{Reverts, top_of, HasUndone}
use Rattle.sg_recovery.specs.Shows.{Entry, from_on, left}

-- the note that a top-end now adds, at its place
abbrev pub note_of : (s : Setting) → (l t undo : ℕ) → s.N → List (Open s.C) → s.W → Note s
note_of s l t undo note ds place = record { lsn = l; transaction = t; undo_next = undo; note = note; changes = changes_of (open_of t ds); place = place }

-- a verb's action has come from the first reading to that of the pages, and its note undoes it
pub record DoesVerb (s : Setting) (v : s.V) (n : Note s) (x : s.X) (old : s.O) : Type 0 where
  pub now : s.O
  pub back : s.O
  pub reads : s.reading x ≡ Some now
  pub after : s.After v old now
  pub undone : goes_back s n now ≡ Some back
  pub above : s.Below old back
  pub writes : s.Writes v n.place

-- an action of the system has freed what is buried
pub record DoesFree (s : Setting) (f : s.W) (x : s.X) (old : s.O) : Type 0 where
  pub now : s.O
  pub reads : s.reading x ≡ Some now
  pub freed : s.Freed f old now

-- the verb is clear of what the other live transactions hold
abbrev pub IsGranted : (s : Setting) → (ℕ → s.W) → List ℕ → ℕ → s.V → Type 0
IsGranted s held live t v = (u : ℕ) → is_in u live ≡ true → (u ≡ t → ⊥) → s.Clear v (held u)

-- no other transaction's locks change, and this one's don't become fewer
pub record Locks (s : Setting) (t : ℕ) (old new : ℕ → s.W) : Type 0 where
  pub others : (u : ℕ) → (u ≡ t → ⊥) → new u ≡ old u
  pub more : (p : s.W) → s.Within p (old t) → s.Within p (new t)

-- a transaction of which no note stands gives back what it holds; the others hold what they held
pub record Releases (s : Setting) (ns : List (Top s.C s.N)) (t : ℕ) (old new : ℕ → s.W) : Type 0 where
  pub none : Each (λ n. n.transaction ≡ t → ⊥) ns
  pub others : (u : ℕ) → (u ≡ t → ⊥) → new u ≡ old u

-- an action takes at most so many of the free pages
abbrev pub TakesPages : (s : Setting) → Tally s.C s.N → s.X → ℕ → Type 0
TakesPages s k x most = (old now : s.O) → settled s k.opened x ≡ Some old → s.reading x ≡ Some now → s.free old ≤ s.free now + most

-- From what a log says, these pages and this history, a record with this LSN leads to that history.
pub data Goes (s : Setting) (k : Tally s.C s.N) (x : s.X) (h : List (Entry s.V)) (held : ℕ → s.W) (l : ℕ) : Record s.C s.N → List (Entry s.V) → Type 0 where
  begins : (p : ℕ) → Goes s k x h held l (Begin l p) h
  saves : (t p m : ℕ) → Goes s k x h held l (Save t p m) h
  changes : (t p : ℕ) (c : s.C) → Reverts s k.opened x (record { lsn = l; transaction = t; change = c }) → Goes s k x h held l (Change t p c) h
  does : (t p u : ℕ) (n : s.N) (v : s.V) (place : s.W) → is_in t k.live ≡ true → open_not_of t k.opened ≡ [] → u < l → Each (λ m. m.transaction ≡ t → m.lsn ≤ u) k.notes
      → IsGranted s held k.live t v → s.Within place (held t)
      → ((o : s.O) → settled s k.opened x ≡ Some o → DoesVerb s v (note_of s l t u n k.opened place) x o)
      → ((o : s.O) → s.reading x ≡ Some o → wanted s (top_of s l t u n k.opened ∷ k.notes) ≤ s.free o)
      → Goes s k x h held l (TopEnd t p u n) (record { transaction = t; at = l; verb = v } ∷ h)
  undoes_last : (p : ℕ) (later : List (Top s.C s.N)) (n : Top s.C s.N) (rest : List (Top s.C s.N)) → k.notes ≡ later ++ n ∷ rest → Each (λ m. m.transaction ≡ n.transaction → ⊥) later → open_not_of n.transaction k.opened ≡ []
      → ((o : s.O) → settled s k.opened x ≡ Some o → HasUndone s n x o) → TakesPages s k x (wants_one s n) → Goes s k x h held l (CompEnd n.transaction p n.undo_next) (left (from_on n.transaction n.lsn) h)
  ends : (t p : ℕ) → Each (λ n. n.transaction ≡ t → ⊥) k.notes → Each (λ e. e.transaction ≡ t → ⊥) h → Goes s k x h held l (End t p) h
  ends_over : (t p : ℕ) → is_in t k.live ≡ false → Goes s k x h held l (End t p) h
  frees : (t p u : ℕ) (n : s.N) (f : s.W) → is_in t k.live ≡ false → open_not_of t k.opened ≡ [] → ((o : s.O) → settled s k.opened x ≡ Some o → DoesFree s f x o) → TakesPages s k x 0 → ((v : ℕ) → is_in v k.live ≡ true → s.Apart f (held v))
      → Goes s k x h held l (TopEnd t p u n) h

-- the log and each of its fronts down to this one stand for these objects
abbrev pub AllStand : (s : Setting) → s.X → s.S → (more down : List (Numbered s.C s.N)) → Type 0
AllStand s x m [] down = StandsFor s x down m
AllStand s x m (r ∷ more) down = StandsFor s x (r ∷ (more ++ down)) m × AllStand s x m more down
