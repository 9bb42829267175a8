-- The stock of an image, and what a reading says of its marks.
use Rattle.std.proofs.Common.{◌≡◌, ℕ, List, [], ◌∷◌, Option, Some, None, refl, sym, ap, ◌∙◌, subst}
use Rattle.std.specs.FinMap.{get}
use Rattle.sg_ops.specs.Table.{Table as Operations}
use Rattle.sg_model.specs.Verb.{Verb}
use Rattle.sg_model.specs.Verb.Verb.{Discard}
use Rattle.sg_recovery.specs.Log.{Top, Tally}
use Rattle.sg_recovery.specs.Stands.{settled, and_then, undoes, all_undone, stands_at}
use Rattle.sg_reading.specs.Reading.{Thing, Reading, plain, objects, slot}
use Rattle.sg_reading.specs.Reading.Thing.{There}
use Rattle.sg_reading.specs.Noted.{IsRootFree}
use Rattle.sg_reading.specs.Model.{Ground}
use Rattle.sg_reading.proofs.Notes.{some_one}
use Rattle.sg_reading.proofs.Slotted.{get_objects}
use Rattle.sg_room.specs.Marks.{Marks, mark_of, grave_of, marks_of, NamesRoots, stock_with, stock_of}
use Rattle.sg_room.specs.Steps.{RunStock, undone_all, readings}
use Rattle.sg_room.specs.Lines.{ShowsStock, settled_marks, top_steps}
use Rattle.sg_room.specs.Most.{BothThere, FreeRoot}
use Rattle.sg_room.specs.Most.BothThere.{nothing, both}
use Rattle.sg_room.proofs.Maps.{opt, get_mapped}
use Rattle.sg_room.proofs.Undone.{unstep_marks, unstep_names}

module _ (t : Operations) (g : Ground) where
  -- the notes of losers undone
  pub tops_marks : (ns : List (Top (readings t g).C (readings t g).N)) (o q : Reading) → all_undone (readings t g) ns o ≡ Some q → NamesRoots o → marks_of q ≡ undone_all (top_steps t g ns) (marks_of o)
  tops_marks [] o q h names = ap marks_of (sym (some_one o q h))
  tops_marks (n ∷ ns) o q h names = go (undoes (readings t g) n o) refl (λ p e k. tops_marks ns p q e k)
    where
      go : (x : Option Reading) → undoes (readings t g) n o ≡ x → ((p : Reading) → all_undone (readings t g) ns p ≡ Some q → NamesRoots p → marks_of q ≡ undone_all (top_steps t g ns) (marks_of p)) → marks_of q ≡ undone_all (top_steps t g (n ∷ ns)) (marks_of o)
      go None e rec = absurd (let f : and_then None (all_undone (readings t g) ns) ≡ Some q = sym (ap (λ x. and_then x (all_undone (readings t g) ns)) e) ∙ h in cc)
      go (Some p) e rec = rec p (sym (ap (λ x. and_then x (all_undone (readings t g) ns)) e) ∙ h) (unstep_names t o n.note (g.befores n.changes) p e names) ∙ ap (undone_all (top_steps t g ns)) (unstep_marks t o n.note (g.befores n.changes) p e names)

  -- AN IMAGE OF NOW has the objects that recovery finds, with the settled marks
  pub image_stock : (k : Tally (readings t g).C (readings t g).N) (x : (readings t g).X) (r : RunStock) (o : Reading) → settled (readings t g) k.opened x ≡ Some o → ShowsStock t g k.notes o r
      → (q : Reading) → stands_at (readings t g) k x ≡ Some q → stock_of q ≡ stock_with (objects q) (settled_marks r)
  image_stock k x r o reads shows q e = ap (stock_with (objects q))
      (tops_marks k.notes o q (sym (ap (λ o. and_then o (all_undone (readings t g) k.notes)) reads) ∙ e) shows.names
      ∙ (ap (λ ss. undone_all ss (marks_of o)) shows.steps ∙ ap (undone_all r.steps) shows.marks))

  -- a reading's objects have marks, and live roots are free of tombstones
  both_in : (th : Option Thing) → BothThere (plain th) (opt mark_of th)
  both_in None = nothing
  both_in (Some (There o w)) = both o (record { root = w.root; peak = w.peak })

  pub both_there : (notes : List (Top (readings t g).C (readings t g).N)) (o : Reading) (r : RunStock) → ShowsStock t g notes o r → (n : List ℕ) → BothThere (get (objects o) n) (get r.marks.live n)
  both_there notes o r h n = subst (λ x. BothThere x (get r.marks.live n)) (sym (get_objects o n)) (subst (BothThere (plain (slot o n).thing)) (sym (get_mapped mark_of o.things n) ∙ ap (λ (m : Marks). get m.live n) h.marks) (both_in (slot o n).thing))

  free_in : (verb : Verb) (o : Reading) (n : List ℕ) (m : Marks) → marks_of o ≡ m → (th : Option Thing) → IsRootFree th (slot o n).buried → FreeRoot verb n (opt mark_of th) m
  free_in Discard o n m e None h = tt
  free_in Discard o n m e (Some (There p w)) h = ap (λ (k : Marks). get k.graves (w.root ∷ n)) (sym e) ∙ (get_mapped grave_of o.tombs (w.root ∷ n) ∙ ap (opt grave_of) h)
  free_in verb o n m e th h = tt

  pub free_root : (notes : List (Top (readings t g).C (readings t g).N)) (o : Reading) (r : RunStock) → ShowsStock t g notes o r → (verb : Verb) (n : List ℕ) → IsRootFree (slot o n).thing (slot o n).buried → FreeRoot verb n (get r.marks.live n) r.marks
  free_root notes o r h verb n free = subst (λ w. FreeRoot verb n w r.marks) (sym (get_mapped mark_of o.things n) ∙ ap (λ (m : Marks). get m.live n) h.marks) (free_in verb o n r.marks h.marks (slot o n).thing free)
