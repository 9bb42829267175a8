-- Notes undone one after another.
use Rattle.std.proofs.Common.{◌≡◌, ℕ, Bool, true, false, cond, List, [], ◌∷◌, map, Option, Some, None, refl, sym, ap, ◌∙◌, arith}
use Rattle.std.specs.Prelude.{◌+◌}
use Rattle.std.specs.FinMap.{get}
use Rattle.sg_ops.specs.Table.{Table as Operations}
use Rattle.sg_recovery.specs.Stands.{and_then, wanted}
use Rattle.sg_recovery.specs.Laws.{Note, bare, goes_back, all_gone_back}
use Rattle.sg_recovery.specs.Shows.{Choice, picked}
use Rattle.sg_reading.specs.Reading.{Reading}
use Rattle.sg_reading.specs.Back.{Undoing, unstep}
use Rattle.sg_reading.specs.Back.Undoing.{WasOver}
use Rattle.sg_reading.specs.Model.{Ground, wants_page}
use Rattle.sg_room.specs.Marks.{marks_of, NamesRoots, kind_of}
use Rattle.std.specs.Prelude.{not, ◌==◌}
use Rattle.sg_recovery.specs.Log.{Top, notes_not_of}
use Rattle.sg_room.specs.Lines.{top_step, top_steps, not_of}
use Rattle.sg_room.specs.Steps.{chosen, undone_all, one_kept, reserved_in, readings, step_of, steps_of}
use Rattle.sg_reading.proofs.Notes.{some_one}
use Rattle.sg_room.proofs.Undone.{unstep_marks, unstep_names}

module _ (t : Operations) (g : Ground) where
  one_back : (n : Note (readings t g)) (o p : Reading) → goes_back (readings t g) n o ≡ Some p → unstep t o n.note (g.befores n.changes) ≡ Some p
  one_back n o p h = go ((readings t g).can_undo o n.note n.changes n.place) h
    where
      go : (b : Bool) → cond b (unstep t o n.note (g.befores n.changes)) None ≡ Some p → unstep t o n.note (g.befores n.changes) ≡ Some p
      go true e = e
      go false e = absurd (cc)

  -- ANY NOTES UNDONE CHANGE THE MARKS AS THEIR STEPS SAY
  pub back_marks : (ns : List (Note (readings t g))) (o q : Reading) → all_gone_back (readings t g) ns o ≡ Some q → NamesRoots o → (marks_of q ≡ undone_all (steps_of t g ns) (marks_of o)) × NamesRoots q
  back_marks [] o q h names = (ap marks_of (sym (some_one o q h)), ap (λ (r : Reading). get r.tombs []) (sym (some_one o q h)) ∙ names)
  back_marks (n ∷ ns) o q h names = go (goes_back (readings t g) n o) refl (λ p e k. back_marks ns p q e k)
    where
      go : (x : Option Reading) → goes_back (readings t g) n o ≡ x → ((p : Reading) → all_gone_back (readings t g) ns p ≡ Some q → NamesRoots p → (marks_of q ≡ undone_all (steps_of t g ns) (marks_of p)) × NamesRoots q)
          → (marks_of q ≡ undone_all (steps_of t g (n ∷ ns)) (marks_of o)) × NamesRoots q
      go None e rec = absurd (let f : and_then None (all_gone_back (readings t g) ns) ≡ Some q = sym (ap (λ x. and_then x (all_gone_back (readings t g) ns)) e) ∙ h in cc)
      go (Some p) e rec =
          let u = one_back n o p e in
          let r = rec p (sym (ap (λ x. and_then x (all_gone_back (readings t g) ns)) e) ∙ h) (unstep_names t o n.note (g.befores n.changes) p u names) in
          (r.0 ∙ ap (undone_all (steps_of t g ns)) (unstep_marks t o n.note (g.befores n.changes) p u names), r.1)

  -- the steps of the notes that are picked
  pub picked_steps : (f : Choice) (ns : List (Note (readings t g))) → steps_of t g (picked (readings t g) f ns) ≡ chosen f (steps_of t g ns)
  picked_steps f [] = refl
  picked_steps f (n ∷ ns) = go (f n.transaction n.lsn) (picked_steps f ns)
    where
      go : (b : Bool) → steps_of t g (picked (readings t g) f ns) ≡ chosen f (steps_of t g ns)
          → steps_of t g (cond b (n ∷ picked (readings t g) f ns) (picked (readings t g) f ns)) ≡ cond b (step_of t g n ∷ chosen f (steps_of t g ns)) (chosen f (steps_of t g ns))
      go true e = ap (λ ss. step_of t g n ∷ ss) e
      go false e = e

  plus_none : (k : ℕ) → k ≡ 0 + k
  plus_none k = omega arith

  kept_one : (u : Undoing) (k : ℕ) → cond (wants_page u) (k + 1) k ≡ one_kept (kind_of u) + k
  kept_one (WasOver key value) k = omega arith
  kept_one u k = plus_none k

  -- AS MANY OF THEM WANT A PAGE AS THE RESERVE COUNTS
  pub wanted_steps : (ns : List (Note (readings t g))) → wanted (readings t g) (map (bare (readings t g)) ns) ≡ reserved_in (steps_of t g ns)
  wanted_steps [] = refl
  wanted_steps (n ∷ ns) = kept_one n.note.undoes (wanted (readings t g) (map (bare (readings t g)) ns)) ∙ ap (λ k. one_kept (kind_of n.note.undoes) + k) (wanted_steps ns)

  -- the steps of notes are those of the log's
  pub same_steps : (ns : List (Note (readings t g))) → top_steps t g (map (bare (readings t g)) ns) ≡ steps_of t g ns
  same_steps [] = refl
  same_steps (n ∷ ns) = ap (λ ss. step_of t g n ∷ ss) (same_steps ns)

  -- and those of the others' notes
  pub other_steps : (u : ℕ) (ns : List (Top (readings t g).C (readings t g).N)) → top_steps t g (notes_not_of u ns) ≡ chosen (not_of u) (top_steps t g ns)
  other_steps u [] = refl
  other_steps u (n ∷ ns) = go (not (n.transaction == u)) (other_steps u ns)
    where
      go : (b : Bool) → top_steps t g (notes_not_of u ns) ≡ chosen (not_of u) (top_steps t g ns) → top_steps t g (cond b (n ∷ notes_not_of u ns) (notes_not_of u ns)) ≡ cond b (top_step t g n ∷ chosen (not_of u) (top_steps t g ns)) (chosen (not_of u) (top_steps t g ns))
      go true e = ap (λ ss. top_step t g n ∷ ss) e
      go false e = e
