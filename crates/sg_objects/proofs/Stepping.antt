-- THE STEP: what a call did to all that stands there is the model's step on the objects, with its outcome.
use Rattle.std.proofs.Common.{◌≡◌, ℕ, Bool, true, false, cond, List, [], ◌∷◌, map, Option, Some, None, Ok, Err, refl, sym, ap, ◌∙◌}
use Rattle.std.specs.Prelude.{is_ok}
use Rattle.std.specs.Str.{bytes_eq}
use Rattle.std.specs.Ordering.{nat_cmp, eq_by_cmp}
use Rattle.std.specs.Cmp.Lexicographic.{slice_cmp, nat_list_cmp_total}
use Rattle.std.specs.FinMap.{get, entries, get-entries, get-from_entries, find}
use Rattle.sg_ops.specs.Table.{Table as Operations}
use Rattle.sg_model.specs.Objects.{Object}
use Rattle.sg_model.specs.Step.{on, step, put_at}
use Rattle.sg_model.specs.Verb.{Verb, Outcome}
use Rattle.sg_model.specs.Verb.Op.{On}
use Rattle.sg_model.proofs.Footprint.{get_put_at}
use Rattle.sg_model.proofs.Parts.{same_entries, bytes_same, bytes_self}
use Rattle.sg_model.proofs.Refused.{step_refused, replied}
use Rattle.sg_space.specs.View.{Space}
use Rattle.sg_reading.specs.Reading.{Thing, Reading, objects, object_of, plain, plain_entry}
use Rattle.sg_reading.specs.Did.{Did, grown}
use Rattle.sg_contents.specs.Standing.{Contents}
use Rattle.sg_contents.specs.Meaning.{reading}
use Rattle.sg_objects.specs.Done.{IsDone, IsLeft, done_by}

-- THE OBJECTS OF A READING, name by name
plain_cond : (b : Bool) (th : Thing) (r : Option Thing) (m : Option Object) → m ≡ plain r → cond b (Some (object_of th)) m ≡ plain (cond b (Some th) r)
plain_cond true th r m e = refl
plain_cond false th r m e = e

find_plain : (q : List ℕ) (es : List (List ℕ × Thing)) → find (slice_cmp nat_cmp) q (map plain_entry es) ≡ plain (find (slice_cmp nat_cmp) q es)
find_plain q [] = refl
find_plain q (e ∷ es) = plain_cond (eq_by_cmp (slice_cmp nat_cmp) q e.0) e.1 (find (slice_cmp nat_cmp) q es) (find (slice_cmp nat_cmp) q (map plain_entry es)) (find_plain q es)

pub get_objects : (o : Reading) (n : List ℕ) → get (objects o) n ≡ plain (get o.things n)
unfolding objects
get_objects o n = get-from_entries nat_list_cmp_total (map plain_entry (entries o.things)) n ∙ (find_plain n (entries o.things) ∙ sym (ap plain (get-entries o.things n)))

grown_plain : (d : Did) (verb : Verb) (done : Bool) (th : Option Thing) (o : Option Object) → plain (grown d verb done th o) ≡ o
grown_plain d verb done th None = refl
grown_plain d verb done th (Some o) = refl

-- what an accepted verb left
pub left_step : (t : Operations) (by : ℕ) (name : List ℕ) (verb : Verb) (r r' : Reading) → IsLeft t by name verb r r' → objects r' ≡ put_at (objects r) name (on t verb (get (objects r) name)).1
left_step t by name verb r r' l = same_entries (objects r') (put_at (objects r) name (on t verb (get (objects r) name)).1) (λ q. get_objects r' q ∙ (at q (bytes_eq name q) refl ∙ sym (get_put_at (objects r) name (on t verb (get (objects r) name)).1 q)))
  where
    here : plain (get r'.things name) ≡ (on t verb (get (objects r) name)).1
    here =
        ap plain (l.leaves).thing
        ∙ (grown_plain (done_by r by name verb l.root l.bands) verb (is_ok (on t verb (plain (get r.things name))).0) (get r.things name) (on t verb (plain (get r.things name))).1
        ∙ ap (λ (o : Option Object). (on t verb o).1) (sym (get_objects r name)))

    at : (q : List ℕ) (b : Bool) → bytes_eq name q ≡ b → plain (get r'.things q) ≡ cond (bytes_eq name q) (on t verb (get (objects r) name)).1 (get (objects r) q)
    at q true e = ap (λ (n : List ℕ). plain (get r'.things n)) (sym (bytes_same name q e)) ∙ (here ∙ sym (ap (λ (b : Bool). cond b (on t verb (get (objects r) name)).1 (get (objects r) q)) e))
    at q false e =
        ap plain ((l.leaves).things q (λ f. not_both (bytes_eq name q) (ap (bytes_eq name) f ∙ bytes_self name) e))
        ∙ (sym (get_objects r q) ∙ sym (ap (λ (b : Bool). cond b (on t verb (get (objects r) name)).1 (get (objects r) q)) e))
      where
        not_both : (b : Bool) → b ≡ true → b ≡ false → ⊥
        not_both b f g = cc

-- THE STEP
pub step_is : {old new : Space} {s s' : Contents} {note : List ℕ} (t : Operations) (by : ℕ) (name : List ℕ) (verb : Verb) (outcome : Outcome) → IsDone t by name verb outcome note old new s s' → step t (objects (reading s)) (On name verb) ≡ (outcome, objects (reading s'))
unfolding step
step_is {s = s} {s' = s'} t by name verb (Ok reply) d =
    let out = ap (λ (o : Option Object). (on t verb o).0) (get_objects (reading s) name) ∙ d.outcome_is in
    let left = left_step t by name verb (reading s) (reading s') d.effect in
    pair out (sym left)
  where
    pair : {A B : Type 0} {a a' : A} {b b' : B} → a ≡ a' → b ≡ b' → ◌≡◌ {A = A × B} (a, b) (a', b')
    pair e f = λ i. (e i, f i)
step_is {s = s} {s' = s'} t by name verb (Err reason) d =
    let out = ap (λ (o : Option Object). (on t verb o).0) (get_objects (reading s) name) ∙ d.outcome_is in
    let same = step_refused t (objects (reading s)) (On name verb) (ap replied out) in
    pair out (same ∙ ap (λ (c : Contents). objects (reading c)) (sym d.effect))
  where
    pair : {A B : Type 0} {a a' : A} {b b' : B} → a ≡ a' → b ≡ b' → ◌≡◌ {A = A × B} (a, b) (a', b')
    pair e f = λ i. (e i, f i)
