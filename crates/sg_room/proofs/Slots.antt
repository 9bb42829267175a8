-- What one slot makes of the marks.
use Rattle.std.proofs.Common.{◌≡◌, ℕ, Bool, true, false, cond, List, [], ◌∷◌, Option, Some, None, refl, sym, ap, ◌∙◌}
use Rattle.std.specs.Prelude.{◌+◌, ◌==◌, ◌&&◌, max, is_ok}
use Rattle.std.specs.Str.{bytes_eq}
use Rattle.std.specs.Ordering.{nat_cmp}
use Rattle.std.specs.Cmp.Lexicographic.{slice_cmp}
use Rattle.std.specs.FinMap.{FinMap, get, len}
use Rattle.sg_ops.specs.Table.{Table as Operations}
use Rattle.sg_model.specs.Objects.{Object}
use Rattle.sg_model.specs.Verb.{Verb}
use Rattle.sg_model.specs.Verb.Verb.{Discard}
use Rattle.sg_model.specs.Step.{on}
use Rattle.sg_model.proofs.Parts.{get_put, get_del, same_entries, bytes_same}
use Rattle.sg_reading.specs.Reading.{Thing, Tomb, Reading, plain, Slot, slot}
use Rattle.sg_reading.specs.Reading.Thing.{There}
use Rattle.sg_reading.specs.Did.{Did, grown, entombed, buried_by, slot_after}
use Rattle.sg_room.specs.Marks.{Mark, Grave, Marks, mark_of, grave_of, form_of, marks_of, NamesRoots, marked, with_mark, with_grave, counted, marks_after}
use Rattle.sg_room.proofs.Maps.{opt, get_mapped, len_mapped}

-- marks that say the same are one
pub same_marks : (a b : Marks) → ((q : List ℕ) → get a.live q ≡ get b.live q) → ((q : List ℕ) → get a.graves q ≡ get b.graves q) → a.rows ≡ b.rows → a ≡ b
same_marks a b l g r = λ i. record { live = same_entries a.live b.live l i; graves = same_entries a.graves b.graves g i; rows = r i }

-- all slots but one are as before
abbrev pub SlotsAre : List ℕ → Slot → Reading → Reading → Type 0
SlotsAre name s old now = (n : List ℕ) → slot now n ≡ cond (bytes_eq name n) s (slot old n)

abbrev pub mark_in : Slot → Option Mark
mark_in s = opt mark_of s.thing

abbrev pub grave_in : ℕ → Slot → Option Grave
grave_in r s = opt grave_of (s.buried r)

cond_out : {A B : Type 0} (f : A → B) (b : Bool) (x y : A) → f (cond b x y) ≡ cond b (f x) (f y)
cond_out f true x y = refl
cond_out f false x y = refl

module _ (name : List ℕ) (s : Slot) (old now : Reading) (are : SlotsAre name s old now) where
  pub live_by : (q : List ℕ) → get (marks_of now).live q ≡ cond (bytes_eq name q) (mark_in s) (get (marks_of old).live q)
  live_by q = get_mapped mark_of now.things q ∙ (ap mark_in (are q) ∙ (cond_out mark_in (bytes_eq name q) s (slot old q) ∙ ap (cond (bytes_eq name q) (mark_in s)) (sym (get_mapped mark_of old.things q))))

  pub grave_by : (r : ℕ) (q : List ℕ) → get (marks_of now).graves (r ∷ q) ≡ cond (bytes_eq name q) (grave_in r s) (get (marks_of old).graves (r ∷ q))
  grave_by r q = get_mapped grave_of now.tombs (r ∷ q) ∙ (ap (grave_in r) (are q) ∙ (cond_out (grave_in r) (bytes_eq name q) s (slot old q) ∙ ap (cond (bytes_eq name q) (grave_in r s)) (sym (get_mapped grave_of old.tombs (r ∷ q)))))

pub no_grave : (o : Reading) → NamesRoots o → get (marks_of o).graves [] ≡ None
no_grave o h = get_mapped grave_of o.tombs [] ∙ ap (opt grave_of) h

-- A VERB

pub get_with_mark : (m : Marks) (n : List ℕ) (w : Option Mark) (q : List ℕ) → get (with_mark m n w).live q ≡ cond (bytes_eq n q) w (get m.live q)
get_with_mark m n None q = get_del m.live n q
get_with_mark m n (Some w) q = get_put m.live n w q

pub mark_graves : (m : Marks) (n : List ℕ) (w : Option Mark) → (with_mark m n w).graves ≡ m.graves
mark_graves m n None = refl
mark_graves m n (Some w) = refl

pub mark_rows : (m : Marks) (n : List ℕ) (w : Option Mark) → (with_mark m n w).rows ≡ m.rows
mark_rows m n None = refl
mark_rows m n (Some w) = refl

pub grave_live : (by : ℕ) (verb : Verb) (n : List ℕ) (o : Option Object) (w : Option Mark) (m : Marks) → (with_grave by verb n o w m).live ≡ m.live
grave_live by Discard n (Some o) (Some w) m = refl
grave_live by verb n o w m = refl

pub grave_rows : (by : ℕ) (verb : Verb) (n : List ℕ) (o : Option Object) (w : Option Mark) (m : Marks) → (with_grave by verb n o w m).rows ≡ m.rows
grave_rows by Discard n (Some o) (Some w) m = refl
grave_rows by verb n o w m = refl

mark_grown : (d : Did) (verb : Verb) (done : Bool) (th : Option Thing) (o : Option Object) → opt mark_of (grown d verb done th o) ≡ marked d.root verb done (opt mark_of th) o
mark_grown d verb done th None = refl
mark_grown d verb done None (Some o) = refl
mark_grown d verb done (Some (There p w)) (Some o) = refl

grave_cond : (b : Bool) (d : Tomb) (x : Option Tomb) → opt grave_of (cond b (Some d) x) ≡ cond b (Some (grave_of d)) (opt grave_of x)
grave_cond true d x = refl
grave_cond false d x = refl

-- the tombstones behind a verb
pub both_conds : {A : Type 0} (a b : Bool) (n x y : Option A) → cond b x y ≡ y → cond b (cond a n x) y ≡ cond (a && b) n y
both_conds true true n x y h = refl
both_conds true false n x y h = refl
both_conds false true n x y h = h
both_conds false false n x y h = refl

module _ (d : Did) (n : List ℕ) (s : Slot) (m : Marks) (at : (r : ℕ) → get m.graves (r ∷ n) ≡ grave_in r s) (r : ℕ) (q : List ℕ) where
  stays_in : (b : Bool) → bytes_eq n q ≡ b → cond b (grave_in r s) (get m.graves (r ∷ q)) ≡ get m.graves (r ∷ q)
  stays_in true e = sym (at r) ∙ ap (λ k. get m.graves (r ∷ k)) (bytes_same n q e)
  stays_in false e = refl

  stays : cond (bytes_eq n q) (grave_in r s) (get m.graves (r ∷ q)) ≡ get m.graves (r ∷ q)
  stays = stays_in (bytes_eq n q) refl

  dug : (th : Option Thing) → cond (bytes_eq n q) (opt grave_of (entombed d th r (s.buried r))) (get m.graves (r ∷ q)) ≡ get (with_grave d.by Discard n (plain th) (opt mark_of th) m).graves (r ∷ q)
  dug None = stays
  dug (Some (There o w)) =
      ap (λ x. cond (bytes_eq n q) x (get m.graves (r ∷ q))) (grave_cond (w.root == r) (record { dropper = d.by; thing = There o w }) (s.buried r))
      ∙ (both_conds (w.root == r) (bytes_eq n q) (Some (grave_of (record { dropper = d.by; thing = There o w }))) (grave_in r s) (get m.graves (r ∷ q)) stays
      ∙ sym (get_put m.graves (w.root ∷ n) (grave_of (record { dropper = d.by; thing = There o w })) (r ∷ q)))

  pub graves_after : (verb : Verb) → cond (bytes_eq n q) (opt grave_of (buried_by d verb s r)) (get m.graves (r ∷ q)) ≡ get (with_grave d.by verb n (plain s.thing) (mark_in s) m).graves (r ∷ q)
  graves_after Discard = dug s.thing
  graves_after verb = stays

-- no tombstone is put under the empty key
grave_none : (by : ℕ) (verb : Verb) (n : List ℕ) (o : Option Object) (w : Option Mark) (m : Marks) → get m.graves [] ≡ None → get (with_grave by verb n o w m).graves [] ≡ None
grave_none by Discard n (Some o) (Some w) m h = get_put m.graves (w.root ∷ n) (record { dropper = by; form = form_of o; mark = w }) [] ∙ h
grave_none by verb n o w m h = h

pub each_key : {A : Type 0} (a b : FinMap (slice_cmp nat_cmp) A) → get a [] ≡ get b [] → ((r : ℕ) (q : List ℕ) → get a (r ∷ q) ≡ get b (r ∷ q)) → (q : List ℕ) → get a q ≡ get b q
each_key a b e h [] = e
each_key a b e h (r ∷ q) = h r q

module _ (t : Operations) (d : Did) (verb : Verb) (name : List ℕ) (old now : Reading) (are : SlotsAre name (slot_after t d verb (slot old name)) old now) (before : NamesRoots old) (behind : NamesRoots now)
    (rows : now.peak ≡ max old.peak (len now.things + len now.tombs)) where
  abbrev m : Marks
  m = marks_of old

  abbrev th : Option Thing
  th = (slot old name).thing

  mark_here : get m.live name ≡ opt mark_of th
  mark_here = get_mapped mark_of old.things name

  abbrev m1 : Marks
  m1 = with_grave d.by verb name (plain th) (opt mark_of th) m

  abbrev w1 : Option Mark
  w1 = marked d.root verb (is_ok (on t verb (plain th)).0) (opt mark_of th) (on t verb (plain th)).1

  abbrev m2 : Marks
  m2 = with_mark m1 name w1

  lives : (q : List ℕ) → get (marks_of now).live q ≡ get m2.live q
  lives q = live_by name (slot_after t d verb (slot old name)) old now are q
      ∙ (ap (λ w. cond (bytes_eq name q) w (get m.live q)) (mark_grown d verb (is_ok (on t verb (plain th)).0) th (on t verb (plain th)).1)
      ∙ (ap (λ (l : FinMap (slice_cmp nat_cmp) Mark). cond (bytes_eq name q) w1 (get l q)) (sym (grave_live d.by verb name (plain th) (opt mark_of th) m)) ∙ sym (get_with_mark m1 name w1 q)))

  graves : (q : List ℕ) → get (marks_of now).graves q ≡ get m2.graves q
  graves = each_key (marks_of now).graves m2.graves
      (no_grave now behind ∙ (sym (grave_none d.by verb name (plain th) (opt mark_of th) m (no_grave old before)) ∙ ap (λ g. get g []) (sym (mark_graves m1 name w1))))
      (λ r q. grave_by name (slot_after t d verb (slot old name)) old now are r q
      ∙ (graves_after d name (slot old name) m (λ r. get_mapped grave_of old.tombs (r ∷ name)) r q verb ∙ ap (λ g. get g (r ∷ q)) (sym (mark_graves m1 name w1))))

  same_live : (marks_of now).live ≡ m2.live
  same_live = same_entries (marks_of now).live m2.live lives

  same_graves : (marks_of now).graves ≡ m2.graves
  same_graves = same_entries (marks_of now).graves m2.graves graves

  same_rows : (marks_of now).rows ≡ (counted m2).rows
  same_rows = rows ∙ (ap (λ k. max old.peak (k + len now.tombs)) (sym (len_mapped mark_of now.things)) ∙ (ap (λ k. max old.peak (len (marks_of now).live + k)) (sym (len_mapped grave_of now.tombs))
      ∙ (ap (λ l. max old.peak (len l + len (marks_of now).graves)) same_live ∙ (ap (λ g. max old.peak (len m2.live + len g)) same_graves
      ∙ ap (λ k. max k (len m2.live + len m2.graves)) (sym (mark_rows m1 name w1 ∙ grave_rows d.by verb name (plain th) (opt mark_of th) m))))))

  -- A VERB CHANGES THE MARKS SO
  pub verb_marks : marks_of now ≡ marks_after t d.by d.root name verb (plain th) (marks_of old)
  verb_marks = same_marks (marks_of now) (counted m2) lives graves same_rows
      ∙ ap (λ w. counted (with_mark (with_grave d.by verb name (plain th) w m) name (marked d.root verb (is_ok (on t verb (plain th)).0) w (on t verb (plain th)).1))) (sym mark_here)
