-- Each line keeps what a store shows of the stock.
use Rattle.std.proofs.Common.{◌≡◌, ℕ, Bool, true, false, cond, List, [], ◌∷◌, ◌++◌, Option, Some, None, refl, sym, ap, ◌∙◌, subst}
use Rattle.std.specs.Prelude.{◌+◌, ◌≤◌, ◌==◌, not, max}
use Rattle.std.specs.FinMap.{get, len, get-retain_keys}
use Rattle.sg_ops.specs.Table.{Table as Operations}
use Rattle.sg_model.specs.Objects.{Objects}
use Rattle.sg_model.specs.Verb.{Verb}
use Rattle.sg_model.proofs.Parts.{exact}
use Rattle.sg_recovery.specs.Log.{Tally, Top, notes_not_of}
use Rattle.sg_recovery.specs.Laws.{all_gone_back}
use Rattle.sg_recovery.specs.Stands.{wanted, settled}
use Rattle.sg_recovery.specs.Shows.{Entry, Choice, IsUpward, IsOf, picked, left, live_after, Running}
use Rattle.sg_reading.specs.Reading.{Thing, Tomb, Reading, objects, slot}
use Rattle.sg_reading.specs.Back.{Before, back, raises}
use Rattle.sg_reading.specs.Noted.{noted}
use Rattle.sg_reading.specs.Left.{Leaves, IsLeft, left_buried}
use Rattle.sg_reading.specs.Model.{Ground}
use Rattle.sg_reading.proofs.Slotted.{get_objects}
use Rattle.sg_room.specs.Marks.{Marks, mark_of, grave_of, marks_of, NamesRoots, marks_after, Kind, kind_of, kind_by, undone, isnt_of, freed, stock_with}
use Rattle.sg_room.specs.Steps.{Step, RunStock, chosen, undone_all, reserved_in, did, readings, steps_of}
use Rattle.std.specs.Str.{bytes_eq}
use Rattle.sg_model.proofs.Parts.{get_del}
use Rattle.sg_reading.specs.Back.{without_tomb}
use Rattle.sg_room.specs.Lines.{without_grave, ShowsStock, top_step, top_steps, less_one, stays_buried, FreesTombs, not_of, committed, ShowsUndone}
use Rattle.sg_room.proofs.Maps.{opt, get_mapped}
use Rattle.sg_room.proofs.Slots.{same_marks}
use Rattle.sg_room.proofs.Lefts.{left_marks, undone_marks}
use Rattle.sg_room.proofs.NoteKinds.{same_kind}
use Rattle.sg_room.proofs.Back.{back_marks, picked_steps, wanted_steps, same_steps, other_steps}
use Rattle.sg_reading.proofs.Notes.{some_one}

step_at : (transaction at : ℕ) (name : List ℕ) (a b : Kind) → a ≡ b → ◌≡◌ {A = Step} (record { transaction = transaction; at = at; name = name; kind = a }) (record { transaction = transaction; at = at; name = name; kind = b })
step_at transaction at name a b e = λ i. record { transaction = transaction; at = at; name = name; kind = e i }

module _ (t : Operations) (g : Ground) where
  -- A VERB
  pub does_shows : (notes : List (Top (readings t g).C (readings t g).N)) (o now : Reading) (r : RunStock) (n : Top (readings t g).C (readings t g).N) (verb : Verb) → ShowsStock t g notes o r → n.note.undoes ≡ noted verb (slot o n.note.name).thing
      → (l : IsLeft t n.transaction n.note.name verb o now) → NamesRoots now → now.peak ≡ max o.peak (len now.things + len now.tombs) → ShowsStock t g (n ∷ notes) now (did t n.transaction n.lsn l.root n.note.name verb (objects o) r)
  does_shows notes o now r n verb h u l names rows = record {
    names = names;
    marks = left_marks t n.transaction n.note.name verb o now l h.names names rows ∙ ap (marks_after t n.transaction l.root n.note.name verb (get (objects o) n.note.name)) h.marks;
    steps = (λ i. step_at n.transaction n.lsn n.note.name (kind_of n.note.undoes) (kind_by verb (get (objects o) n.note.name) (get r.marks.live n.note.name)) kinds i ∷ h.steps i);
  }
    where
      kinds : kind_of n.note.undoes ≡ kind_by verb (get (objects o) n.note.name) (get r.marks.live n.note.name)
      kinds = ap kind_of u ∙ (same_kind verb (slot o n.note.name).thing
          ∙ (ap (λ x. kind_by verb x (opt mark_of (slot o n.note.name).thing)) (sym (get_objects o n.note.name))
          ∙ ap (kind_by verb (get (objects o) n.note.name)) (sym (get_mapped mark_of o.things n.note.name) ∙ ap (λ (m : Marks). get m.live n.note.name) h.marks)))

  steps_split : (later rest : List (Top (readings t g).C (readings t g).N)) → top_steps t g (later ++ rest) ≡ top_steps t g later ++ top_steps t g rest
  steps_split [] rest = refl
  steps_split (n ∷ later) rest = ap (λ ss. top_step t g n ∷ ss) (steps_split later rest)

  -- THE UNDOING OF ONE NOTE
  pub undo_shows : (later : List (Top (readings t g).C (readings t g).N)) (n : Top (readings t g).C (readings t g).N) (rest : List (Top (readings t g).C (readings t g).N)) (cs : List Before) (th : Option Thing) (o now : Reading) (r : RunStock) → ShowsStock t g (later ++ n ∷ rest) o r
      → back t n.note.undoes cs (slot o n.note.name) ≡ Some th → Leaves n.note.name th (left_buried (raises n.note.undoes) (slot o n.note.name).buried) o now → NamesRoots now → now.peak ≡ o.peak
      → ShowsStock t g (later ++ rest) now (less_one (top_steps t g later) (top_step t g n) (top_steps t g rest) r)
  undo_shows later n rest cs th o now r h is l names rows = record {
    names = names;
    marks = undone_marks t cs n.note.name n.note.undoes th o now is l h.names names rows ∙ ap (undone (kind_of n.note.undoes) n.note.name) h.marks;
    steps = steps_split later rest;
  }

  -- WHICHEVER ENTRIES ARE UNDONE
  pub undone_shows : (first : Objects) (bound : ℕ) (held : ℕ → (readings t g).W) (k : Tally (readings t g).C (readings t g).N) (x : (readings t g).X) (h : List (Entry (readings t g).V)) (run : Running (readings t g) first bound held k x h) (r : RunStock)
      → (o : Reading) → settled (readings t g) k.opened x ≡ Some o → ShowsStock t g k.notes o r → (f : Choice) → IsUpward f → IsOf k.live f → ShowsUndone t g first h run.placed o r f
  undone_shows first bound held k x h run r o reads shows f up of =
      let same : run.reading ≡ o = some_one run.reading o (sym run.reads ∙ reads) in
      let placed : steps_of t g run.placed ≡ r.steps = sym (same_steps t g run.placed) ∙ (ap (top_steps t g) run.are ∙ shows.steps) in
      let q = run.shows f up of in
      let gone : all_gone_back (readings t g) (picked (readings t g) f run.placed) o ≡ Some q.0 = ap (all_gone_back (readings t g) (picked (readings t g) f run.placed)) (sym same) ∙ q.1 in
      let m = (back_marks t g (picked (readings t g) f run.placed) o q.0 gone shows.names).0
      ∙ (ap (λ ss. undone_all ss (marks_of o)) (picked_steps t g f run.placed ∙ ap (chosen f) placed) ∙ ap (undone_all (chosen f r.steps)) shows.marks) in
      record {
        now = q.0;
        gone = gone;
        objects = q.2;
        stock = ap (λ s. stock_with s (marks_of q.0)) q.2 ∙ ap (stock_with (live_after (readings t g) first (left f h))) m;
        reserved = wanted_steps t g (picked (readings t g) f run.placed) ∙ ap reserved_in (picked_steps t g f run.placed ∙ ap (chosen f) placed);
      }

  -- the reserve is free
  pub reserve_free : (first : Objects) (bound : ℕ) (held : ℕ → (readings t g).W) (k : Tally (readings t g).C (readings t g).N) (x : (readings t g).X) (h : List (Entry (readings t g).V)) (run : Running (readings t g) first bound held k x h) (r : RunStock)
      → (o : Reading) → settled (readings t g) k.opened x ≡ Some o → ShowsStock t g k.notes o r → reserved_in r.steps ≤ (readings t g).free o
  reserve_free first bound held k x h run r o reads shows =
      subst (λ n. n ≤ (readings t g).free o) (sym (ap (wanted (readings t g)) run.are) ∙ (wanted_steps t g run.placed ∙ ap reserved_in (sym (same_steps t g run.placed) ∙ (ap (top_steps t g) run.are ∙ shows.steps))))
      (subst (λ q. wanted (readings t g) k.notes ≤ (readings t g).free q) (some_one run.reading o (sym run.reads ∙ reads)) run.pages)

-- A COMMIT
same_grave : (t : ℕ) (x : Option Tomb) → opt grave_of (stays_buried t x) ≡ cond (isnt_of t (opt grave_of x)) (opt grave_of x) None
same_grave t None = refl
same_grave t (Some d) = go (d.dropper == t)
  where
    go : (b : Bool) → opt grave_of (cond b None (Some d)) ≡ cond (not b) (Some (grave_of d)) None
    go true = refl
    go false = refl

pub frees_marks : (t : ℕ) (old now : Reading) → FreesTombs t old now → marks_of now ≡ freed t (marks_of old)
frees_marks t old now h = same_marks (marks_of now) (freed t (marks_of old))
    (λ q. get_mapped mark_of now.things q ∙ (ap (opt mark_of) (h.things q) ∙ sym (get_mapped mark_of old.things q)))
    (λ q. get_mapped grave_of now.tombs q ∙ (ap (opt grave_of) (h.tombs q) ∙ (same_grave t (get old.tombs q)
    ∙ (ap (λ x. cond (isnt_of t x) x None) (sym (get_mapped grave_of old.tombs q))
    ∙ sym (get-retain_keys (marks_of old).graves (λ k. isnt_of t (get (marks_of old).graves k)) q (λ k e. ap (λ k. isnt_of t (get (marks_of old).graves k)) (sym (exact q k e))))))))
    h.rows

none_stays : (t : ℕ) (x : Option Tomb) → x ≡ None → stays_buried t x ≡ None
none_stays t None e = refl
none_stays t (Some d) e = absurd (cc)

pub commit_shows : (t : Operations) (g : Ground) (transaction : ℕ) (notes : List (Top (readings t g).C (readings t g).N)) (o now : Reading) (r : RunStock) → ShowsStock t g notes o r → FreesTombs transaction o now
    → ShowsStock t g (notes_not_of transaction notes) now (committed transaction r)
commit_shows t g transaction notes o now r h f = record {
  names = f.tombs [] ∙ none_stays transaction (get o.tombs []) h.names;
  marks = frees_marks transaction o now f ∙ ap (freed transaction) h.marks;
  steps = other_steps t g transaction notes ∙ ap (chosen (not_of transaction)) h.steps;
}

-- one tombstone freed
pub frees_one : (o : Reading) (n : List ℕ) (r : ℕ) → marks_of (without_tomb o n (Some r)) ≡ without_grave (r ∷ n) (marks_of o)
frees_one o n r = same_marks (marks_of (without_tomb o n (Some r))) (without_grave (r ∷ n) (marks_of o)) (λ q. refl)
    (λ q. get_mapped grave_of (without_tomb o n (Some r)).tombs q ∙ (ap (opt grave_of) (get_del o.tombs (r ∷ n) q) ∙ (none_out (bytes_eq (r ∷ n) q) (get o.tombs q)
    ∙ (ap (cond (bytes_eq (r ∷ n) q) None) (sym (get_mapped grave_of o.tombs q)) ∙ sym (get_del (marks_of o).graves (r ∷ n) q)))))
    refl
  where
    none_out : (b : Bool) (x : Option Tomb) → opt grave_of (cond b None x) ≡ cond b None (opt grave_of x)
    none_out true x = refl
    none_out false x = refl
