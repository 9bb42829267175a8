-- What a verb makes of the stock of what pages read as.
use Rattle.std.proofs.Common.{◌≡◌, ℕ, Bool, true, cond, List, [], ◌∷◌, ◌++◌, length, Option, Some, None, refl, sym, ap, ◌∙◌, subst}
use Rattle.std.specs.Prelude.{◌+◌, max, is_ok}
use Rattle.std.specs.FinMap.{get, len}
use Rattle.sg_ops.specs.Table.{Table as Operations}
use Rattle.sg_catalog.specs.Catalog.{rows}
use Rattle.sg_model.specs.Objects.{Object, Objects}
use Rattle.sg_model.specs.Objects.Object.{Array, Table, Blob}
use Rattle.sg_model.specs.Verb.{Verb}
use Rattle.sg_model.specs.Verb.Verb.{Discard, Put}
use Rattle.sg_model.specs.Verb.Op.{On}
use Rattle.sg_model.specs.Step.{on, step}
use Rattle.sg_space.specs.View.{Space}
use Rattle.sg_reading.specs.Reading.{Thing, Reading, objects, plain}
use Rattle.sg_reading.specs.Reading.Thing.{There}
use Rattle.sg_reading.specs.Back.{Undoing}
use Rattle.sg_reading.specs.Left.{IsLeft}
use Rattle.sg_reading.specs.Model.{bare_ground}
use Rattle.sg_reading.specs.Noted.{noted, noted_put}
use Rattle.sg_reading.proofs.Slotted.{get_objects}
use Rattle.sg_contents.specs.Standing.{Contents, IsContents}
use Rattle.sg_contents.specs.Meaning.{reading}
use Rattle.sg_objects.specs.Notes.{note_bytes}
use Rattle.sg_reader.proofs.Slots.{slot_formed}
use Rattle.sg_room.specs.Marks.{mark_of, marks_of, NamesRoots, marks_after, kind_of, kind_by}
use Rattle.sg_room.specs.Steps.{Step, RunStock}
use Rattle.sg_room.specs.Lines.{ShowsStock, LeavesPeaks}
use Rattle.sg_room.specs.Most.{Accepts, BothThere, FreeRoot}
use Rattle.sg_room.specs.Most.Accepts.{noted as with_note, looked}
use Rattle.sg_room.proofs.Maps.{opt, get_mapped}
use Rattle.sg_room.proofs.Lefts.{left_marks}
use Rattle.sg_room.proofs.NoteKinds.{same_kind}
use Rattle.sg_room.proofs.Crash.{both_there, free_root}
use Rattle.sg_stock.proofs.Sums.{count_rows}
use Rattle.sg_ground.proofs.Lawful.{unchanged}

-- the catalogue's peak counts objects and tombstones
counts : (new : Space) (s s' : Contents) → IsContents new s' → s'.catalog.peak ≡ max s.catalog.peak (length (rows s'.catalog))
    → (reading s').peak ≡ max (reading s).peak (len (reading s').things + len (reading s').tombs)
unfolding reading
counts new s s' h peak = peak ∙ ap (max s.catalog.peak) (sym (count_rows new s' h))

-- a drop and a put that are accepted have a note
note_put : (name k : List ℕ) (old : Option (List ℕ)) → note_bytes name (noted_put k old) ≡ [] → ⊥
note_put name k None e = cc
note_put name k (Some v) e = cc

leaves_peaks : (t : Operations) (name : List ℕ) (verb : Verb) (th : Option Thing) → note_bytes name (noted verb th) ≡ []
    → is_ok (on t verb (plain th)).0 ≡ true → LeavesPeaks verb
leaves_peaks t name Discard None e ok = absurd (cc)
leaves_peaks t name Discard (Some (There o w)) e ok = absurd (cc)
leaves_peaks t name (Put k v) None e ok = absurd (cc)
leaves_peaks t name (Put k v) (Some (There (Array row) w)) e ok = absurd (cc)
leaves_peaks t name (Put k v) (Some (There (Table m) w)) e ok = absurd (note_put name k (get m k) e)
leaves_peaks t name (Put k v) (Some (There (Blob x) w)) e ok = absurd (cc)
leaves_peaks t name verb th e ok = tt

module _ (t : Operations) where
  accepted : (o : Reading) (name : List ℕ) (verb : Verb) → is_ok (on t verb (plain (get o.things name))).0 ≡ true
      → is_ok (on t verb (get (objects o) name)).0 ≡ true
  accepted o name verb ok = subst (λ x. is_ok (on t verb x).0 ≡ true) (sym (get_objects o name)) ok

  -- A VERB WITHOUT A NOTE
  pub looked_stock : (o : Reading) (name : List ℕ) (verb : Verb) → note_bytes name (noted verb (get o.things name)) ≡ []
      → is_ok (on t verb (plain (get o.things name))).0 ≡ true → (step t (objects o) (On name verb)).1 ≡ objects o
      → (u : ℕ) (r : RunStock) → Accepts t (objects o) r u name verb r
  looked_stock o name verb none ok same u r =
      looked (accepted o name verb ok) (leaves_peaks t name verb (get o.things name) none ok)
      (subst (λ x. (on t verb x).1 ≡ x) (sym (get_objects o name)) (unchanged t o name verb same))

  kinds : (o : Reading) (name : List ℕ) (verb : Verb)
      → kind_of (noted verb (get o.things name)) ≡ kind_by verb (get (objects o) name) (get (marks_of o).live name)
  kinds o name verb = same_kind verb (get o.things name)
      ∙ (ap (λ x. kind_by verb x (opt mark_of (get o.things name))) (sym (get_objects o name))
      ∙ ap (kind_by verb (get (objects o) name)) (sym (get_mapped mark_of o.things name)))

  shows_own : (o : Reading) → NamesRoots o → ShowsStock t bare_ground [] o (record { marks = marks_of o; steps = [] })
  shows_own o names = record { names = names; marks = refl; steps = refl }

  -- A VERB WITH ONE
  pub verb_stock : (old new : Space) (s s' : Contents) (transaction : ℕ) (name : List ℕ) (verb : Verb) → NamesRoots (reading s) → NamesRoots (reading s')
      → IsContents old s → IsContents new s' → IsLeft t transaction name verb (reading s) (reading s')
      → s'.catalog.peak ≡ max s.catalog.peak (length (rows s'.catalog)) → is_ok (on t verb (plain (get (reading s).things name))).0 ≡ true
      → (u : Undoing) → u ≡ noted verb (get (reading s).things name) → (at : ℕ) (steps : List Step)
      → Accepts t (objects (reading s)) (record { marks = marks_of (reading s); steps = steps }) transaction name verb
      (record { marks = marks_of (reading s'); steps = record { transaction = transaction; at = at; name = name; kind = kind_of u } ∷ steps })
  verb_stock old new s s' transaction name verb names names' h h' l peak ok u is at steps =
      subst (λ (r : RunStock). Accepts t (objects (reading s)) (record { marks = marks_of (reading s); steps = steps }) transaction name verb r)
      (λ i. record { marks = sym marks i; steps = record { transaction = transaction; at = at; name = name; kind = sym kind i } ∷ steps })
      (with_note at l.root (accepted (reading s) name verb ok)
      (both_there t bare_ground [] (reading s) (record { marks = marks_of (reading s); steps = [] }) (shows_own (reading s) names) name)
      (free_root t bare_ground [] (reading s) (record { marks = marks_of (reading s); steps = [] }) (shows_own (reading s) names) verb name
      (slot_formed old s h name).1))
    where
      marks : marks_of (reading s') ≡ marks_after t transaction l.root name verb (get (objects (reading s)) name) (marks_of (reading s))
      marks = left_marks t transaction name verb (reading s) (reading s') l names names' (counts new s s' h' peak)

      kind : kind_of u ≡ kind_by verb (get (objects (reading s)) name) (get (marks_of (reading s)).live name)
      kind = ap kind_of is ∙ kinds (reading s) name verb
