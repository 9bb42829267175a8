-- The steps of an opening behind the redo of history, and those of a run, as lists of appended records.
use Rattle.std.specs.Prelude.{◌≡◌, ℕ, ◌<◌, ◌≤◌, true, false, List, [], ◌∷◌, ◌++◌, Some}
use Rattle.sg_recovery.specs.Setting.{Setting}
use Rattle.sg_recovery.specs.Log.{Record, Numbered, Open, Top, Tally, tally, is_in, open_not_of, open_up_to}
use Rattle.sg_recovery.specs.Log.Record.{Change, TopEnd, PhysComp, TopVoid, CompEnd, Commit, End}
use Rattle.sg_recovery.specs.Stands.{made, settled, wants_one}
use Rattle.sg_recovery.specs.Laws.{Each}
use Rattle.sg_recovery.specs.Keeps.{Reverts, HasUndone}
use Rattle.sg_recovery.specs.Shows.{Entry, from_on, left, Running}
use Rattle.sg_recovery.specs.Runs.{DoesFree, TakesPages, IsGranted, Locks, Releases, Goes}
use Rattle.sg_recovery.specs.Chains.{next_lsn}

-- what opening appends, by what the log says so far and the pages: the last open change is taken off; all are; a change
-- of an undo or of a freeing; the greatest standing note, whichever loser's it is, has been undone; a loser has no note
-- left; with no note left what is buried is freed
pub data Opens (s : Setting) (k : Tally s.C s.N) (x : s.X) (l : ℕ) : Record s.C s.N → Type 0 where
  takes_off : (t p u : ℕ) (d : Open s.C) (ds : List (Open s.C)) → k.opened ≡ d ∷ ds → open_up_to t u (d ∷ ds) ≡ ds → Opens s k x l (PhysComp t p u (s.inverse d.change))
  voids : (t p u : ℕ) → k.opened ≡ [] → Opens s k x l (TopVoid t p u)
  changes : (t p : ℕ) (c : s.C) → Reverts s k.opened x (record { lsn = l; transaction = t; change = c }) → Opens s k x l (Change t p c)
  undoes_greatest : (p : ℕ) (n : Top s.C s.N) (rest : List (Top s.C s.N)) → k.notes ≡ n ∷ rest → open_not_of n.transaction k.opened ≡ []
      → ((o : s.O) → settled s k.opened x ≡ Some o → HasUndone s n x o) → TakesPages s k x (wants_one s n) → Opens s k x l (CompEnd n.transaction p n.undo_next)
  ends : (t p : ℕ) → Each (λ n. n.transaction ≡ t → ⊥) k.notes → Opens s k x l (End t p)
  frees : (t p u : ℕ) (n : s.N) (f : s.W) → is_in t k.live ≡ false → k.notes ≡ [] → open_not_of t k.opened ≡ [] → ((o : s.O) → settled s k.opened x ≡ Some o → DoesFree s f x o) → Opens s k x l (TopEnd t p u n)

-- each of these records is such a step, behind those under it
abbrev pub AreOpening : (s : Setting) → s.X → (more down : List (Numbered s.C s.N)) → Type 0
AreOpening s x [] down = Unit {0}
AreOpening s x (r ∷ more) down = Opens s (tally (more ++ down)) (made s x (more ++ down)) r.lsn r.is × AreOpening s x more down

-- A run: the records since the last commit, those before them, the locks, and the history.
pub data Run (s : Setting) (first : s.S) (x : s.X) : (more down : List (Numbered s.C s.N)) → (ℕ → s.W) → List (Entry s.V) → Type 0 where
  starts : (down : List (Numbered s.C s.N)) (held : ℕ → s.W) (h : List (Entry s.V)) → Running s first (next_lsn down) held (tally down) (made s x down) h → Run s first x [] down held h
  goes : (more down : List (Numbered s.C s.N)) (held : ℕ → s.W) (h g : List (Entry s.V)) (r : Numbered s.C s.N) → Run s first x more down held h → next_lsn (more ++ down) ≤ r.lsn
      → Goes s (tally (more ++ down)) (made s x (more ++ down)) h held r.lsn r.is g → Run s first x (r ∷ more) down held g
  commits : (more down : List (Numbered s.C s.N)) (held : ℕ → s.W) (h : List (Entry s.V)) (l t p : ℕ) → Run s first x more down held h → next_lsn (more ++ down) ≤ l
      → Run s first x [] (record { lsn = l; is = Commit t p } ∷ (more ++ down)) held h
  looks : (more down : List (Numbered s.C s.N)) (held : ℕ → s.W) (h : List (Entry s.V)) (t : ℕ) (v : s.V) → Run s first x more down held h → is_in t (tally (more ++ down)).live ≡ true
      → ((o : s.O) → settled s (tally (more ++ down)).opened (made s x (more ++ down)) ≡ Some o → s.After v o o) → IsGranted s held (tally (more ++ down)).live t v
      → Run s first x more down held (record { transaction = t; at = next_lsn (more ++ down); verb = v } ∷ h)
  forgets : (more down : List (Numbered s.C s.N)) (held : ℕ → s.W) (h : List (Entry s.V)) (t from : ℕ) → Run s first x more down held h → is_in t (tally (more ++ down)).live ≡ true
      → Each (λ n. n.transaction ≡ t → n.lsn < from) (tally (more ++ down)).notes → Run s first x more down held (left (from_on t from) h)
  locks : (more down : List (Numbered s.C s.N)) (held new : ℕ → s.W) (h : List (Entry s.V)) (t : ℕ) → Run s first x more down held h → Locks s t held new → Run s first x more down new h
  releases : (more down : List (Numbered s.C s.N)) (held new : ℕ → s.W) (h : List (Entry s.V)) (t : ℕ) → Run s first x more down held h → Releases s (tally (more ++ down)).notes t held new → Run s first x more down new h
