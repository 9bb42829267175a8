-- What the layers below and above a log have to show of a record that is appended.
use Rattle.std.specs.Prelude.{◌≡◌, ℕ, List, ◌∷◌, Some}
use Rattle.sg_recovery.specs.Setting.{Setting}
use Rattle.sg_recovery.specs.Log.{Record, Open, Top, Tally, said, changes_of, open_of}
use Rattle.sg_recovery.specs.Stands.{redo, settled, stands_at, undoes, all_undone}

-- the record leaves the objects as they were
abbrev pub Keeps : (s : Setting) → ℕ → Record s.C s.N → Tally s.C s.N → s.X → Type 0
Keeps s l r k x = (o : s.O) → stands_at s k x ≡ Some o → (p : s.O) × (stands_at s (said l r k) (redo s r x) ≡ Some p) × (s.objects o ≡ s.objects p)

-- a change of an open action: with it, and then its inverse, the action is taken off to what it was taken off to
abbrev pub Reverts : (s : Setting) → List (Open s.C) → s.X → Open s.C → Type 0
Reverts s ds x d = settled s (d ∷ ds) (s.apply x d.change) ≡ settled s ds x

-- the note that a top-end now adds
abbrev pub top_of : (s : Setting) → (l t undo : ℕ) → s.N → List (Open s.C) → Top s.C s.N
top_of s l t undo note ds = record { lsn = l; transaction = t; undo_next = undo; note = note; changes = changes_of (open_of t ds) }

-- an action has come from the first reading to that of the pages, and its note undoes it
pub record IsDone (s : Setting) (n : Top s.C s.N) (x : s.X) (old : s.O) : Type 0 where
  pub now : s.O
  pub back : s.O
  pub reads : s.reading x ≡ Some now
  pub undone : undoes s n now ≡ Some back
  pub above : s.Below old back

-- an action has undone a note in the first reading
pub record HasUndone (s : Setting) (n : Top s.C s.N) (x : s.X) (old : s.O) : Type 0 where
  pub now : s.O
  pub reads : s.reading x ≡ Some now
  pub above : (back : s.O) → undoes s n old ≡ Some back → s.Below back now

-- an action of the system has left what the losers' notes don't look at
pub record IsAside (s : Setting) (ns : List (Top s.C s.N)) (x : s.X) (old : s.O) : Type 0 where
  pub now : s.O
  pub reads : s.reading x ≡ Some now
  pub same : (o : s.O) → all_undone s ns old ≡ Some o → (p : s.O) × (all_undone s ns now ≡ Some p) × (s.objects o ≡ s.objects p)
