-- The steps of a running store, from the lock table, the reading after a verb, and its note.
use Rattle.std.proofs.Common.{◌≡◌, ℕ, ◌<◌, ◌≤◌, true, List, [], ◌∷◌, Some, None, Ok, sym, ◌∙◌, subst}
use Rattle.sg_serial.specs.Locks.{Hold, held_of, first_holder, hold_all}
use Rattle.sg_serial.proofs.Holding.{held-hold_all}
use Rattle.sg_ops.specs.Table.{Table as Operations}
use Rattle.sg_model.specs.Verb.{Verb, Reply}
use Rattle.sg_model.specs.Verb.Op.{On}
use Rattle.sg_model.specs.Step.{on}
use Rattle.sg_model.specs.Touches.{Cell, Resource, same_resource, conflict}
use Rattle.sg_recovery.specs.Setting.{Setting}
use Rattle.sg_recovery.specs.Log.{Tally, Top, changes_of, open_of, open_not_of, is_in}
use Rattle.sg_recovery.specs.Log.Record.{TopEnd}
use Rattle.sg_recovery.specs.Stands.{settled, wanted}
use Rattle.sg_recovery.specs.Laws.{Each}
use Rattle.sg_recovery.specs.Keeps.{top_of, HasUndone}
use Rattle.sg_recovery.specs.Shows.{Entry}
use Rattle.sg_recovery.specs.Cells.{After, setting_of}
use Rattle.sg_recovery.specs.Runs.{Goes, DoesVerb}
use Rattle.sg_recovery.specs.Runs.Goes.{does}
use Rattle.sg_recovery.proofs.Basic.{some_one}
use Rattle.sg_reading.specs.Reading.{Reading, plain, slot, at}
use Rattle.sg_reading.specs.Back.{Undoing, UndoNote, unstep}
use Rattle.sg_reading.specs.Did.{Did}
use Rattle.sg_reading.specs.Model.{Ground, model_cells}
use Rattle.sg_reading.specs.Noted.{BringsBytes, noted, PutsBackOf, IsFormedSlot, AreUndone}
use Rattle.sg_reading.proofs.Whole.{le_of}
use Rattle.sg_reading.proofs.Does.{does_verb}
use Rattle.sg_reading.proofs.Joins.{granted, within_held}

-- an undo that left what `unstep` says
pub line_undoes : (t : Operations) (g : Ground) (n : Top g.C UndoNote) (x : g.X) (old now : Reading) → g.reading x ≡ Some now
    → ((b : Reading) → unstep t old n.note (g.befores n.changes) ≡ Some b → (c : Cell) → at now c ≡ at b c) → HasUndone (setting_of (model_cells t g)) n x old
line_undoes t g n x old now reads same = record { now = now; reads = reads; above = λ b e c. le_of c.part (at b c) (at now c) (sym (same b e c)) }

module _ (t : Operations) (law : AreUndone t) (g : Ground) where
  abbrev pub S : Setting
  S = setting_of (model_cells t g)

  -- a verb that was granted, was performed and is noted
  pub line_goes : (k : Tally g.C UndoNote) (x : g.X) (h : List (Entry Did)) (hs : List (Hold Resource)) (l by p u : ℕ) (d : Did) (n : List ℕ) (verb : Verb) (r : Reply) (old now : Reading)
      → is_in by k.live ≡ true → open_not_of by k.opened ≡ [] → u < l → Each (λ m. m.transaction ≡ by → m.lsn ≤ u) k.notes
      → first_holder conflict by d.touches hs ≡ None
      → settled S k.opened x ≡ Some old → g.reading x ≡ Some now
      → d.op ≡ On n verb → After (model_cells t g) d old now
      → BringsBytes verb → IsFormedSlot (slot old n) → (on t verb (plain (slot old n).thing)).0 ≡ Ok r → (noted verb (slot old n).thing ≡ Undoing.WasNothing → ⊥)
      → PutsBackOf t verb d.bands (g.befores (changes_of (open_of by k.opened))) (slot old n).thing
      → ((o : Reading) → g.reading x ≡ Some o → wanted S (top_of S l by u (record { name = n; undoes = noted verb (slot old n).thing }) k.opened ∷ k.notes) ≤ g.free o)
      → Goes S k x h (held_of (hold_all same_resource by d.touches hs)) l (TopEnd by p u (record { name = n; undoes = noted verb (slot old n).thing })) (record { transaction = by; at = l; verb = d } ∷ h)
  line_goes k x h hs l by p u d n verb r old now live alone before chained none settles reads op did bytes formed said changes puts pages =
      does by p u (record { name = n; undoes = noted verb (slot old n).thing }) d d.touches live alone before chained
      (λ v is ne. subst (λ w. S.Clear d w) (sym (held-hold_all same_resource by d.touches hs v ne)) (granted t g hs k.live by d none v is ne))
      (within_held t g hs by d.touches)
      (λ o e. subst (λ z. DoesVerb S d (record { lsn = l; transaction = by; undo_next = u; note = record { name = n; undoes = noted verb (slot old n).thing }; changes = changes_of (open_of by k.opened); place = d.touches }) x z)
      (some_one old o (sym settles ∙ e))
      (does_verb t law g d n verb op old now did r bytes formed said changes (changes_of (open_of by k.opened)) puts x reads l by u))
      pages
