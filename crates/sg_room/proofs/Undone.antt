-- What the undoing of a note makes of the marks.
use Rattle.std.proofs.Common.{◌≡◌, ℕ, Bool, true, false, cond, List, [], ◌∷◌, Option, Some, None, refl, sym, ap, ◌∙◌, subst}
use Rattle.std.specs.Prelude.{◌==◌}
use Rattle.std.specs.Str.{bytes_eq}
use Rattle.std.specs.FinMap.{get, remove}
use Rattle.sg_ops.specs.Table.{Table as Operations}
use Rattle.sg_model.proofs.Parts.{get_put, get_del, bytes_same}
use Rattle.sg_reading.specs.Reading.{Around, Thing, Tomb, Reading, Slot, slot}
use Rattle.sg_reading.specs.Reading.Thing.{There}
use Rattle.sg_reading.specs.Back.{Undoing, UndoNote, Before, back, raises, with_thing, without_tomb, put_back, unstep}
use Rattle.sg_reading.specs.Back.Undoing.{WasMake, WasDrop}
use Rattle.sg_reading.proofs.Notes.{after, some_one}
use Rattle.sg_reading.proofs.Slotted.{slot_put}
use Rattle.sg_reading.specs.Left.{around, IsOfObject}
use Rattle.sg_reading.proofs.Stock.{note_around, note_others}
use Rattle.sg_room.specs.Marks.{Mark, Marks, mark_of, grave_of, marks_of, NamesRoots, kind_of, raised, undone}
use Rattle.sg_room.proofs.Maps.{opt, get_mapped}
use Rattle.sg_room.proofs.Slots.{same_marks, SlotsAre, mark_in, grave_in, live_by, grave_by, no_grave, both_conds, each_key}

abbrev mark_around : Around → Mark
mark_around w = record { root = w.root; peak = w.peak }

mark_by_around : (th : Option Thing) → opt mark_of th ≡ opt mark_around (around th)
mark_by_around None = refl
mark_by_around (Some (There o w)) = refl

grave_gone : (b : Bool) (x : Option Tomb) → opt grave_of (cond b None x) ≡ cond b None (opt grave_of x)
grave_gone true x = refl
grave_gone false x = refl

module _ (t : Operations) (cs : List Before) (name : List ℕ) (old now : Reading) (before : NamesRoots old) (behind : NamesRoots now) (rows : now.peak ≡ old.peak) where
  abbrev s : Slot
  s = slot old name

  abbrev m : Marks
  m = marks_of old

  mark_here : get m.live name ≡ mark_in s
  mark_here = get_mapped mark_of old.things name

  graves_here : (r : ℕ) → get m.graves (r ∷ name) ≡ grave_in r s
  graves_here r = get_mapped grave_of old.tombs (r ∷ name)

  no_change : get (marks_of now).graves [] ≡ get m.graves []
  no_change = no_grave now behind ∙ sym (no_grave old before)

  same_live : (q : List ℕ) (b : Bool) → bytes_eq name q ≡ b → cond b (mark_in s) (get m.live q) ≡ get m.live q
  same_live q true e = sym mark_here ∙ ap (get m.live) (bytes_same name q e)
  same_live q false e = refl

  same_graves : (th : Option Thing) → SlotsAre name (after None s th) old now → (q : List ℕ) → get (marks_of now).graves q ≡ get m.graves q
  same_graves th are = each_key (marks_of now).graves m.graves no_change (λ r q. grave_by name (after None s th) old now are r q ∙ stays_same r q (bytes_eq name q) refl)
    where
      stays_same : (r : ℕ) (q : List ℕ) (b : Bool) → bytes_eq name q ≡ b → cond b (grave_in r s) (get m.graves (r ∷ q)) ≡ get m.graves (r ∷ q)
      stays_same r q true e = sym (graves_here r) ∙ ap (λ k. get m.graves (r ∷ k)) (bytes_same name q e)
      stays_same r q false e = refl

  -- a note of an object
  of_object : (u : Undoing) (th : Option Thing) → IsOfObject u → back t u cs s ≡ Some th → SlotsAre name (after None s th) old now → marks_of now ≡ m
  of_object u th i h are = same_marks (marks_of now) m
      (λ q. live_by name (after None s th) old now are q ∙ (ap (λ w. cond (bytes_eq name q) w (get m.live q)) (mark_by_around th ∙ (ap (opt mark_around) (note_around t u cs s th i h) ∙ sym (mark_by_around s.thing))) ∙ same_live q (bytes_eq name q) refl))
      (same_graves th are)
      rows

  -- a make
  of_make : SlotsAre name (after None s None) old now → marks_of now ≡ record m { live = remove m.live name }
  of_make are = same_marks (marks_of now) (record m { live = remove m.live name })
      (λ q. live_by name (after None s None) old now are q ∙ sym (get_del m.live name q))
      (same_graves None are)
      rows

  -- a drop
  of_drop : (r : ℕ) (d : Tomb) → s.buried r ≡ Some d → SlotsAre name (after (Some r) s (Some d.thing)) old now → marks_of now ≡ raised r name (Some (grave_of d)) m
  of_drop r d h are = same_marks (marks_of now) (raised r name (Some (grave_of d)) m)
      (λ q. live_by name (after (Some r) s (Some d.thing)) old now are q ∙ sym (get_put m.live name (mark_of d.thing) q))
      (each_key (marks_of now).graves (remove m.graves (r ∷ name)) (no_change ∙ sym (get_del m.graves (r ∷ name) []))
      (λ p q. grave_by name (after (Some r) s (Some d.thing)) old now are p q
      ∙ (ap (λ x. cond (bytes_eq name q) x (get m.graves (p ∷ q))) (grave_gone (r == p) (s.buried p))
      ∙ (both_conds (r == p) (bytes_eq name q) None (grave_in p s) (get m.graves (p ∷ q)) (here p q (bytes_eq name q) refl)
      ∙ sym (get_del m.graves (r ∷ name) (p ∷ q))))))
      rows
    where
      here : (p : ℕ) (q : List ℕ) (b : Bool) → bytes_eq name q ≡ b → cond b (grave_in p s) (get m.graves (p ∷ q)) ≡ get m.graves (p ∷ q)
      here p q true e = sym (graves_here p) ∙ ap (λ k. get m.graves (p ∷ k)) (bytes_same name q e)
      here p q false e = refl

  by_make : (a th : Option Thing) → back t WasMake cs (record s { thing = a }) ≡ Some th → th ≡ None
  by_make None th h = absurd (cc)
  by_make (Some x) th h = sym (some_one None th h)

  by_drop : (r : ℕ) (a th : Option Thing) (e : Option Tomb) → back t (WasDrop r) cs (record { thing = a; buried = λ k. e }) ≡ Some th → (d : Tomb) × (e ≡ Some d) × (th ≡ Some d.thing)
  by_drop r (Some x) th e h = absurd (cc)
  by_drop r None th None h = absurd (cc)
  by_drop r None th (Some d) h = (d, refl, sym (some_one (Some d.thing) th h))

  -- THE UNDOING OF A NOTE CHANGES THE MARKS SO
  pub note_marks : (u : Undoing) (th : Option Thing) → back t u cs s ≡ Some th → SlotsAre name (after (raises u) s th) old now → marks_of now ≡ undone (kind_of u) name m
  note_marks WasMake th h are = of_make (subst (λ th. SlotsAre name (after None s th) old now) (by_make s.thing th h) are)
  note_marks (WasDrop r) th h are =
      let d = by_drop r s.thing th (s.buried r) h in
      of_drop r d.0 d.1 (subst (λ th. SlotsAre name (after (Some r) s th) old now) d.2 are) ∙ ap (λ g. raised r name g m) (sym (graves_here r ∙ ap (opt grave_of) d.1))
  note_marks u th h are = of_object u th tt h are

-- so of readings
tombs_without : (o : Reading) (n : List ℕ) (r : Option ℕ) → get (without_tomb o n r).tombs [] ≡ get o.tombs []
tombs_without o n None = refl
tombs_without o n (Some r) = get_del o.tombs (r ∷ n) []

tombs_with : (o : Reading) (n : List ℕ) (th : Option Thing) → (with_thing o n th).tombs ≡ o.tombs
tombs_with o n None = refl
tombs_with o n (Some th) = refl

pub unstep_names : (t : Operations) (o : Reading) (n : UndoNote) (cs : List Before) (p : Reading) → unstep t o n cs ≡ Some p → NamesRoots o → NamesRoots p
unstep_names t o n cs p h names = go (back t n.undoes cs (slot o n.name)) h
  where
    go : (x : Option (Option Thing)) → put_back o n x ≡ Some p → NamesRoots p
    go None e = absurd (cc)
    go (Some th) e = ap (λ (q : Reading). get q.tombs []) (sym (some_one (with_thing (without_tomb o n.name (raises n.undoes)) n.name th) p e))
        ∙ (ap (λ g. get g []) (tombs_with (without_tomb o n.name (raises n.undoes)) n.name th) ∙ (tombs_without o n.name (raises n.undoes) ∙ names))

pub unstep_marks : (t : Operations) (o : Reading) (n : UndoNote) (cs : List Before) (p : Reading) → unstep t o n cs ≡ Some p → NamesRoots o → marks_of p ≡ undone (kind_of n.undoes) n.name (marks_of o)
unstep_marks t o n cs p h names = go (back t n.undoes cs (slot o n.name)) refl
  where
    go : (x : Option (Option Thing)) → back t n.undoes cs (slot o n.name) ≡ x → marks_of p ≡ undone (kind_of n.undoes) n.name (marks_of o)
    go None e = absurd (let f : put_back o n None ≡ Some p = sym (ap (put_back o n) e) ∙ h in cc)
    go (Some th) e =
        let is = some_one (with_thing (without_tomb o n.name (raises n.undoes)) n.name th) p (sym (ap (put_back o n) e) ∙ h) in
        note_marks t cs n.name o p names (unstep_names t o n cs p h names) (note_others t o n cs p h).0 n.undoes th e (λ k. sym (ap (λ q. slot q k) is) ∙ slot_put o n.name (raises n.undoes) th k)
