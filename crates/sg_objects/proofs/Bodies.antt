-- What any verb comes to, whatever its body is: it was refused, it only read, or a body turned.
use Rattle.std.proofs.Common.{◌≡◌, ℕ, ◌+◌, ◌≤◌, List, [], ◌∷◌, Option, Some, None, Ok, refl, sym, ap, ◌∙◌, subst, arith}
use Rattle.std.specs.FinMap.{get}
use Rattle.sg_ops.specs.Table.{Table as Operations}
use Rattle.sg_catalog.specs.declared.row.ObjectKind.{ObjectKind}
use Rattle.sg_model.specs.Step.{on}
use Rattle.sg_model.specs.Verb.{Verb, Outcome, Reply}
use Rattle.sg_space.specs.Units.{Units}
use Rattle.sg_space.specs.View.{View, Space, OnlyReads}
use Rattle.sg_reading.specs.Reading.{Thing, plain, slot}
use Rattle.sg_reading.specs.Did.{slot_after}
use Rattle.sg_reading.specs.Back.{Undoing, raises}
use Rattle.sg_reading.specs.Back.Undoing.{WasNothing, WasMake, WasDrop, WasPush, WasPop, WasSet, WasApply, WasPut, WasOver, WasBytes}
use Rattle.sg_reading.specs.Left.{left_buried, TakesForBody}
use Rattle.sg_reading.specs.Noted.{noted}
use Rattle.sg_contents.specs.Standing.{Body, Contents, IsContents}
use Rattle.sg_contents.specs.Changes.{with_body, BodyTurns}
use Rattle.sg_contents.specs.Meaning.{reading, thing_of, IsCounted}
use Rattle.sg_contents.proofs.After.{same_peak}
use Rattle.sg_objects.specs.Done.{IsDone, done_by}
use Rattle.sg_objects.specs.Found.{IsAt}
use Rattle.sg_objects.specs.Needs.{Needed, needed, needed_back, HasTaken}
use Rattle.sg_objects.specs.Notes.{note_bytes}
use Rattle.sg_objects.specs.Undone.{IsUndone}
use Rattle.sg_objects.proofs.Located.{body_changes, body_counted, body_leaves, peak_kept}

-- A NOTE OF SOMETHING HAS BYTES
abbrev pub IsSomething : Undoing → Type 0
IsSomething WasNothing = ⊥
IsSomething other = Unit {0}

pub some_note : (name : List ℕ) (u : Undoing) → IsSomething u → note_bytes name u ≡ [] → ⊥
some_note name WasNothing some e = some
some_note name WasMake some e = cc
some_note name (WasDrop root) some e = cc
some_note name WasPush some e = cc
some_note name (WasPop item) some e = cc
some_note name (WasSet index item) some e = cc
some_note name (WasApply index code arg) some e = cc
some_note name (WasPut key) some e = cc
some_note name (WasOver key value) some e = cc
some_note name (WasBytes size) some e = cc

pub noted_some : {note : List ℕ} (name : List ℕ) (u : Undoing) → IsSomething u → note ≡ note_bytes name u → note ≡ [] → ⊥
noted_some name u some is e = some_note name u some (sym is ∙ e)

-- THE CALLS BEFORE IT ONLY READ
pub from_start : {v w : View} {new : Space} {s s' : Contents} {t : Operations} {by : ℕ} {name : List ℕ} {verb : Verb} {outcome : Outcome} {note : List ℕ} → OnlyReads v w → v.Shows → IsDone t by name verb outcome note w.space new s s' → IsDone t by name verb outcome note v.space new s s'
from_start {new = new} {s = s} {s' = s'} {t = t} {by = by} {name = name} {verb = verb} {outcome = outcome} {note = note} k shows d = subst (λ (x : Space). IsDone t by name verb outcome note x new s s') (k.same shows) d

pub undone_from : {v w : View} {new : Space} {s s' : Contents} {u : Undoing} {name : List ℕ} {th : Option Thing} → OnlyReads v w → v.Shows → IsUndone u name w.space new s th s' → IsUndone u name v.space new s th s'
undone_from {new = new} {s = s} {s' = s'} {u = u} {name = name} {th = th} k shows d = subst (λ (x : Space). IsUndone u name x new s th s') (k.same shows) d

-- NOTHING HAS CHANGED
pub none_taken : {old new : Space} → new ≡ old → HasTaken (record { pages = 0; bands = 0; reserve = 0 }) old new
none_taken {old} {new} e = record {
  pages = (let f : new.pages.free ≡ old.pages.free = ap (λ (x : Space). x.pages.free) e in omega arith);
  bands = (let f : new.bands.free ≡ old.bands.free = ap (λ (x : Space). x.bands.free) e in omega arith);
}

-- a verb that got a reply, and only read
pub read_done : {old new : Space} {s : Contents} (t : Operations) (by : ℕ) (name : List ℕ) (verb : Verb) (reply : Reply) (note : List ℕ) → new ≡ old → IsContents old s → (on t verb (plain (get (reading s).things name))).0 ≡ Ok reply → (slot_after t (done_by (reading s) by name verb 0 []) verb (slot (reading s) name)).thing ≡ get (reading s).things name → ((r : ℕ) → (slot_after t (done_by (reading s) by name verb 0 []) verb (slot (reading s) name)).buried r ≡ get (reading s).tombs (r ∷ name)) → HasTaken (needed verb (get (reading s).things name)) old new → note ≡ note_bytes name (noted verb (get (reading s).things name)) → IsDone t by name verb (Ok reply) note old new s s
read_done {old} {new} {s} t by name verb reply note same h is left buried taken noted_is = record {
  contents = subst (λ (x : Space). IsContents x s) (sym same) h;
  outcome_is = is;
  effect = record {
    root = 0;
    bands = [];
    none = λ z. refl;
    leaves = record {
      thing = sym left;
      things = λ other ne. refl;
      tomb = λ r. sym (buried r);
      tombs = λ r other ne. refl;
    };
  };
  note_is = noted_is;
  alone = λ none. (same, refl);
  counted = λ c. subst (λ (x : Space). IsCounted x s) (sym same) c;
  peak = peak_kept h.catalog;
  taken = taken;
}

-- A BODY TURNED
pub body_done : {old new : Space} {kind : ObjectKind} {s : Contents} {root : ℕ} (t : Operations) (by : ℕ) (name : List ℕ) (verb : Verb) (reply : Reply) (b' : Body) (bands note : List ℕ) → IsContents old s → (f : IsAt kind s name root) → BodyTurns old new kind root (s.body root) b' → (on t verb (plain (get (reading s).things name))).0 ≡ Ok reply → TakesForBody verb (get (reading s).things name) bands → (slot_after t (done_by (reading s) by name verb 0 bands) verb (slot (reading s) name)).thing ≡ Some (thing_of root b') → ((r : ℕ) → (slot_after t (done_by (reading s) by name verb 0 bands) verb (slot (reading s) name)).buried r ≡ get (reading s).tombs (r ∷ name)) → HasTaken (needed verb (get (reading s).things name)) old new → note ≡ note_bytes name (noted verb (get (reading s).things name)) → (note ≡ [] → ⊥) → IsDone t by name verb (Ok reply) note old new s (with_body root b' s)
body_done {old} {new} {kind} {s} {root} t by name verb reply b' bands note h f turns is none left buried taken noted_is some = record {
  contents = body_changes b' h f turns;
  outcome_is = is;
  effect = record {
    root = 0;
    bands = bands;
    none = none;
    leaves = body_leaves b' _ _ h f left buried;
  };
  note_is = noted_is;
  alone = λ e. absurd (some e);
  counted = body_counted b' h f turns;
  peak = peak_kept h.catalog;
  taken = taken;
}

-- A NOTE WAS UNDONE BY A BODY THAT TURNED
pub body_undone : {old new : Space} {kind : ObjectKind} {s : Contents} {root : ℕ} (u : Undoing) → raises u ≡ None → (name : List ℕ) (th : Option Thing) (b' : Body) → IsContents old s → (f : IsAt kind s name root) → BodyTurns old new kind root (s.body root) b' → th ≡ Some (thing_of root b') → HasTaken (needed_back u) old new → IsUndone u name old new s th (with_body root b' s)
body_undone {old} {new} {kind} {s} {root} u plain_note name th b' h f turns th_is taken = record {
  contents = body_changes b' h f turns;
  leaves = body_leaves b' th _ h f th_is (λ r. ap (λ (d : Option ℕ). left_buried d (slot (reading s) name).buried r) plain_note);
  peak = same_peak root b' s;
  counted = body_counted b' h f turns;
  taken = taken;
}

-- WHAT IT TOOK, by how many pages it had and has
pub pages_taken : {old new : Space} (n : Needed) (had has : ℕ) → new.pages.free + has ≡ old.pages.free + had → new.bands ≡ old.bands → has + n.reserve ≤ had + n.pages → HasTaken n old new
pages_taken {old} {new} n had has exactly bands few = record {
  pages = omega (arith, exactly, few);
  bands = (let f : new.bands.free ≡ old.bands.free = ap (λ (u : Units (List ℕ)). u.free) bands in omega arith);
}
