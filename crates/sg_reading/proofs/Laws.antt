-- THE LAWS OF CELLS, for all notes and all verbs.
use Rattle.std.proofs.Common.{◌≡◌, ℕ, ◌≤◌, Bool, true, false, cond, not, List, [], ◌∷◌, ◌++◌, map, Option, Some, None, refl, sym, ap, ◌∙◌, subst, le_trans}
use Rattle.std.specs.Prelude.{◌||◌, ◌&&◌, is_ok}
use Rattle.std.specs.List.{list_any}
use Rattle.std.specs.Str.{bytes_eq}
use Rattle.std.specs.FinMap.{get}
use Rattle.sg_serial.specs.Machine.{any_touch}
use Rattle.sg_serial.specs.Locks.{Touch, reads, writes}
use Rattle.sg_serial.proofs.Kept.{and_true}
use Rattle.sg_ops.specs.Table.{Table as Operations}
use Rattle.sg_model.specs.Verb.{Verb, Op}
use Rattle.sg_model.specs.Verb.Op.{On, Names as AllNames}
use Rattle.sg_model.specs.Step.{on, put_at, step}
use Rattle.sg_model.specs.Touches.{Part, Cell, Region, Resource, covers_part, covers, cell, seen, Reach, reach_of, touch_of, touches}
use Rattle.sg_model.specs.Touches.Part.{Kind, Length, Item, Key, Body, Buried}
use Rattle.sg_model.specs.Touches.Region.{Just, EachKey, Everything}
use Rattle.sg_model.specs.Touches.Resource.{Of, Names}
use Rattle.sg_model.proofs.Parts.{reads_part, writes_part, part_same, bytes_self, bytes_same}
use Rattle.sg_model.proofs.Footprint.{any_read, any_write, both_true, get_put_at, footprint}
use Rattle.sg_recovery.specs.Cells.{After, Undone, CellLaws, setting_of}
use Rattle.sg_recovery.specs.Laws.{Laws}
use Rattle.sg_recovery.proofs.Basic.{or_cases, or_left, or_right}
use Rattle.sg_recovery.proofs.Cells.{cells_laws}
use Rattle.sg_reading.specs.Reading.{Thing, Reading, plain, objects, slot, Extra, Shown, shown, at, NearExtra, Extends, Le}
use Rattle.sg_reading.specs.Back.{UndoNote, Before, back, raises, with_thing, without_tomb, put_back, unstep, note_reach, note_touches, below_region, below, inside}
use Rattle.sg_reading.specs.Did.{Did, slot_after, result_of, result, IsAt}
use Rattle.sg_reading.specs.Model.{Ground, is_tomb, model_cells}
use Rattle.sg_reading.proofs.Notes.{never, some_one, after, writes_of}
use Rattle.sg_reading.proofs.Whole.{le_of, same_of, same_is, slot_local}
use Rattle.sg_reading.proofs.Did.{grown_plain, slot_touched, slot_verb}
use Rattle.sg_reading.proofs.Slotted.{get_objects, cell_shown, slot_put}

-- no less, and no less again

all_left : (bs cs ds : List ℕ) → (bs ++ cs) ++ ds ≡ bs ++ (cs ++ ds)
all_left [] cs ds = refl
all_left (b ∷ bs) cs ds = ap (λ xs. b ∷ xs) (all_left bs cs ds)

extends_trans : (a b c : List ℕ) → Extends a b → Extends b c → Extends a c
extends_trans a b c h k = (h.0 ++ k.0, k.1 ∙ (ap (λ xs. xs ++ k.0) h.1 ∙ all_left a h.0 k.0))

le_more : (q : Part) (a b c : Shown q) → Le q a b → Le q b c → Le q a c
le_more q a b c h k = record { sort = h.sort ∙ k.sort; value = h.value ∙ k.value; extra = extras q a.extra b.extra c.extra h.extra k.extra }
  where
    extras : (q : Part) (x y z : Extra q) → NearExtra (λ m n. m ≤ n) Extends q x y → NearExtra (λ m n. m ≤ n) Extends q y z → NearExtra (λ m n. m ≤ n) Extends q x z
    extras Kind x y z h k = h ∙ k
    extras Length x y z h k = le_trans h k
    extras (Item i) x y z h k = tt
    extras (Key l) x y z h k = tt
    extras Body x y z h k = (le_trans h.0 k.0, extends_trans x.bands y.bands z.bands h.1 k.1)
    extras (Buried r) x y z h k = h ∙ k

-- sets of cells

below_region_covers : (r s : Region) (q : Part) → below_region r s ≡ true → covers_part r q ≡ true → covers_part s q ≡ true
below_region_covers (Just p) s q h i = subst (λ (x : Part). covers_part s x ≡ true) (part_same p q i) h
below_region_covers EachKey (Just p) q h i = never h
below_region_covers EachKey EachKey q h i = i
below_region_covers EachKey Everything q h i = refl
below_region_covers Everything (Just p) q h i = never h
below_region_covers Everything EachKey q h i = never h
below_region_covers Everything Everything q h i = refl

below_covers : (a b : Resource) (c : Cell) → below a b ≡ true → covers a c ≡ true → covers b c ≡ true
below_covers (Of m r) (Of n s) c h i =
    let x = and_true (bytes_eq n m) (below_region r s) h in
    let y = and_true (bytes_eq m c.name) (covers_part r c.part) i in
    both_true (bytes_eq n c.name) (covers_part s c.part) (ap (λ (k : List ℕ). bytes_eq n k) (sym (bytes_same m c.name y.0)) ∙ x.0) (below_region_covers r s c.part x.1 y.1)
below_covers (Of m r) Names c h i = never h
below_covers Names (Of n s) c h i = never h
below_covers Names Names c h i = i

any_below : (x : Touch Resource) (ys : List (Touch Resource)) (c : Cell) → list_any (λ y. y.write && below x.what y.what) ys ≡ true → covers x.what c ≡ true → any_touch (writes covers) ys c ≡ true
any_below x [] c h i = never h
any_below x (y ∷ ys) c h i = or_cases (y.write && below x.what y.what) (list_any (λ y. y.write && below x.what y.what) ys) (any_touch (writes covers) (y ∷ ys) c ≡ true) h
    (λ e. let k = and_true y.write (below x.what y.what) e in or_left (y.write && covers y.what c) (any_touch (writes covers) ys c) (both_true y.write (covers y.what c) k.0 (below_covers x.what y.what c k.1 i)))
    (λ e. or_right (y.write && covers y.what c) (any_touch (writes covers) ys c) (any_below x ys c e i))

inside_has : (a b : List (Touch Resource)) (c : Cell) → inside a b ≡ true → any_touch (writes covers) a c ≡ true → any_touch (writes covers) b c ≡ true
inside_has [] b c h k = never k
inside_has (x ∷ xs) b c h k =
    let both = and_true (not x.write || list_any (λ y. y.write && below x.what y.what) b) (inside xs b) h in
    or_cases (x.write && covers x.what c) (any_touch (writes covers) xs c) (any_touch (writes covers) b c ≡ true) k
    (λ e. let w = and_true x.write (covers x.what c) e in any_below x b c (is_in x.write (list_any (λ y. y.write && below x.what y.what) b) w.0 both.0) w.1)
    (λ e. inside_has xs b c both.1 e)
  where
    is_in : (w r : Bool) → w ≡ true → (not w || r) ≡ true → r ≡ true
    is_in true r e f = f
    is_in false r e f = never e

-- the objects of readings

values : (o p : Reading) → ((c : Cell) → not (is_tomb c.part) ≡ true → Le c.part (at o c) (at p c)) → (n : List ℕ) (q : Part) → seen (get (objects o) n) q ≡ seen (get (objects p) n) q
values o p h n (Buried r) = refl
values o p h n Kind = by_le o p n Kind (h (record { name = n; part = Kind }) refl)
  where
    by_le : (o p : Reading) (n : List ℕ) (q : Part) → Le q (at o (record { name = n; part = q })) (at p (record { name = n; part = q })) → seen (get (objects o) n) q ≡ seen (get (objects p) n) q
    by_le o p n q l = cell_shown o (record { name = n; part = q }) ∙ (l.value ∙ sym (cell_shown p (record { name = n; part = q })))
values o p h n Length = cell_shown o (record { name = n; part = Length }) ∙ ((h (record { name = n; part = Length }) refl).value ∙ sym (cell_shown p (record { name = n; part = Length })))
values o p h n (Item i) = cell_shown o (record { name = n; part = Item i }) ∙ ((h (record { name = n; part = Item i }) refl).value ∙ sym (cell_shown p (record { name = n; part = Item i })))
values o p h n (Key k) = cell_shown o (record { name = n; part = Key k }) ∙ ((h (record { name = n; part = Key k }) refl).value ∙ sym (cell_shown p (record { name = n; part = Key k })))
values o p h n Body = cell_shown o (record { name = n; part = Body }) ∙ ((h (record { name = n; part = Body }) refl).value ∙ sym (cell_shown p (record { name = n; part = Body })))

module _ (t : Operations) where
  pub objects_seen : (o p : Reading) → ((c : Cell) → not (is_tomb c.part) ≡ true → Le c.part (at o c) (at p c)) → objects o ≡ objects p
  objects_seen o p h = (footprint t).exact (objects o) (objects p) (λ c. values o p h c.name c.part)

  -- NOTES

  abbrev Inv : Reading → UndoNote → List Before → Reading → Type 0
  Inv o n cs o1 = (th : Option Thing) × (back t n.undoes cs (slot o n.name) ≡ Some th) × (with_thing (without_tomb o n.name (raises n.undoes)) n.name th ≡ o1)

  inverted : (o : Reading) (n : UndoNote) (cs : List Before) (o1 : Reading) → unstep t o n cs ≡ Some o1 → Inv o n cs o1
  inverted o n cs o1 h = go (back t n.undoes cs (slot o n.name)) refl h
    where
      go : (r : Option (Option Thing)) → back t n.undoes cs (slot o n.name) ≡ r → put_back o n r ≡ Some o1 → Inv o n cs o1
      go None e k = absurd (cc)
      go (Some th) e k = (th, e, some_one (with_thing (without_tomb o n.name (raises n.undoes)) n.name th) o1 k)

  note_at : (o : Reading) (n : UndoNote) (th : Option Thing) (c : Cell)
      → at (with_thing (without_tomb o n.name (raises n.undoes)) n.name th) c ≡ shown (cond (bytes_eq n.name c.name) (after (raises n.undoes) (slot o n.name) th) (slot o c.name)) c.part
  note_at o n th c = ap (λ s. shown s c.part) (slot_put o n.name (raises n.undoes) th c.name)

  has_is : (o : Reading) (n : UndoNote) (c : Cell) → any_touch (writes covers) (note_touches o n) c ≡ (bytes_eq n.name c.name && writes_of n.undoes (slot o n.name) c.part)
  has_is o n c = any_write n.name (note_reach n.undoes (plain (slot o n.name).thing)) c

  pub note_local : (g : Ground) (n : UndoNote) (ks : List g.C) (o o1 p : Reading) → unstep t o n (g.befores ks) ≡ Some o1
      → ((c : Cell) → any_touch (writes covers) (note_touches o n) c ≡ true → Le c.part (at o c) (at p c)) → Undone (model_cells t g) n ks o o1 p
  note_local g n ks o o1 p h le =
      let got = inverted o n cs o1 h in
      let th = got.0 in
      let u = slot_local t n.undoes cs (slot o n.name) (slot p n.name) th got.1 there in
      let now = with_thing (without_tomb p n.name (raises n.undoes)) n.name u.end in
      let at_o1 : (c : Cell) → bytes_eq n.name c.name ≡ true → at o1 c ≡ shown (after (raises n.undoes) (slot o n.name) th) c.part =
      λ c e. ap (λ x. at x c) (sym got.2) ∙ (note_at o n th c ∙ ap (λ b. shown (cond b (after (raises n.undoes) (slot o n.name) th) (slot o c.name)) c.part) e) in
      let at_now : (c : Cell) → bytes_eq n.name c.name ≡ true → at now c ≡ shown (after (raises n.undoes) (slot p n.name) u.end) c.part =
      λ c e. note_at p n u.end c ∙ ap (λ b. shown (cond b (after (raises n.undoes) (slot p n.name) u.end) (slot p c.name)) c.part) e in
      record {
        end = now;
        is = ap (λ r. put_back p n r) u.is;
        same = ap (λ rs. map (touch_of n.name) rs) u.same;
        inner = λ c z.
            (let w = and_true (bytes_eq n.name c.name) (writes_of n.undoes (slot o n.name) c.part) (sym (has_is o n c) ∙ z) in
            subst (λ a. Le c.part a (at now c)) (sym (at_o1 c w.0)) (subst (λ a. Le c.part (shown (after (raises n.undoes) (slot o n.name) th) c.part) a) (sym (at_now c w.0)) (u.inner c.part w.1)));
        exact = λ f c z.
            (let w = and_true (bytes_eq n.name c.name) (writes_of n.undoes (slot o n.name) c.part) (sym (has_is o n c) ∙ z) in
            at_now c w.0 ∙ (sym (same_is c.part (shown (after (raises n.undoes) (slot o n.name) th) c.part) (shown (after (raises n.undoes) (slot p n.name) u.end) c.part)
            (u.exact (λ q x. same_of q (shown (slot o n.name) q) (shown (slot p n.name) q) (sym (f (record { name = n.name; part = q }) (in_note q x)))) c.part w.1))
            ∙ sym (at_o1 c w.0)));
        outer = λ c z. out u.end u.outer c (bytes_eq n.name c.name) refl (sym (has_is o n c) ∙ z);
      }
    where
      cs : List Before
      cs = g.befores ks

      in_note : (q : Part) → writes_of n.undoes (slot o n.name) q ≡ true → any_touch (writes covers) (note_touches o n) (record { name = n.name; part = q }) ≡ true
      in_note q x = has_is o n (record { name = n.name; part = q }) ∙ both_true (bytes_eq n.name n.name) (writes_of n.undoes (slot o n.name) q) (bytes_self n.name) x

      there : (q : Part) → writes_of n.undoes (slot o n.name) q ≡ true → Le q (shown (slot o n.name) q) (shown (slot p n.name) q)
      there q x = le (record { name = n.name; part = q }) (in_note q x)

      out : (end : Option Thing) → ((q : Part) → writes_of n.undoes (slot o n.name) q ≡ false → shown (after (raises n.undoes) (slot p n.name) end) q ≡ shown (slot p n.name) q)
          → (c : Cell) (b : Bool) → bytes_eq n.name c.name ≡ b → (bytes_eq n.name c.name && writes_of n.undoes (slot o n.name) c.part) ≡ false → at (with_thing (without_tomb p n.name (raises n.undoes)) n.name end) c ≡ at p c
      out end f c true e z =
          note_at p n end c ∙ (ap (λ b. shown (cond b (after (raises n.undoes) (slot p n.name) end) (slot p c.name)) c.part) e
          ∙ (f c.part (sym (ap (λ b. b && writes_of n.undoes (slot o n.name) c.part) e) ∙ z) ∙ ap (λ m. shown (slot p m) c.part) (bytes_same n.name c.name e)))
      out end f c false e z = note_at p n end c ∙ ap (λ b. shown (cond b (after (raises n.undoes) (slot p n.name) end) (slot p c.name)) c.part) e

  -- VERBS

  abbrev ReachAt : Verb → Reading → List ℕ → List Reach
  ReachAt verb o n = reach_of verb (plain (slot o n).thing)

  pub touches_at : (o : Reading) (n : List ℕ) (verb : Verb) → touches (objects o) (On n verb) ≡ map (touch_of n) (ReachAt verb o n)
  unfolding touches
  touches_at o n verb = ap (λ x. map (touch_of n) (reach_of verb x)) (get_objects o n)

  module _ (d : Did) (n : List ℕ) (verb : Verb) (o p : Reading) (is : touches (objects o) (On n verb) ≡ d.touches)
      (same : (c : Cell) → (any_touch (reads covers) d.touches c || any_touch (writes covers) d.touches c) ≡ true → at p c ≡ at o c) where
    are : d.touches ≡ map (touch_of n) (ReachAt verb o n)
    are = sym is ∙ touches_at o n verb

    same_there : (q : Part) → any_touch reads_part (ReachAt verb o n) q ≡ true → shown (slot p n) q ≡ shown (slot o n) q
    same_there q h = same (record { name = n; part = q }) (or_left (any_touch (reads covers) d.touches (record { name = n; part = q })) (any_touch (writes covers) d.touches (record { name = n; part = q }))
        (ap (λ ts. any_touch (reads covers) ts (record { name = n; part = q })) are ∙ (any_read n (ReachAt verb o n) (record { name = n; part = q })
        ∙ both_true (bytes_eq n n) (any_touch reads_part (ReachAt verb o n) q) (bytes_self n) h)))

    still_at : touches (objects p) (On n verb) ≡ d.touches
    still_at = touches_at p n verb ∙ (ap (λ rs. map (touch_of n) rs) (slot_touched t d verb (slot o n) (slot p n) same_there) ∙ sym are)

    same_result : (c : Cell) → any_touch (writes covers) d.touches c ≡ true → result_of t d (On n verb) p c ≡ result_of t d (On n verb) o c
    same_result c w =
        let k = and_true (bytes_eq n c.name) (any_touch writes_part (ReachAt verb o n) c.part) (sym (any_write n (ReachAt verb o n) c) ∙ (ap (λ ts. any_touch (writes covers) ts c) (sym are) ∙ w)) in
        ap (λ b. shown (cond b (slot_after t d verb (slot p n)) (slot p c.name)) c.part) k.0
        ∙ (slot_verb t d verb (slot o n) (slot p n) same_there c.part k.1
        ∙ sym (ap (λ b. shown (cond b (slot_after t d verb (slot o n)) (slot o c.name)) c.part) k.0))

  -- the verb of a Did
  abbrev LocalOf : Did → Op → Reading → Reading → Type 0
  LocalOf d op o p = (touches (objects o) op ≡ d.touches) → ((c : Cell) → (any_touch (reads covers) d.touches c || any_touch (writes covers) d.touches c) ≡ true → at p c ≡ at o c)
      → (touches (objects p) op ≡ d.touches) × ((c : Cell) → any_touch (writes covers) d.touches c ≡ true → result_of t d op p c ≡ result_of t d op o c)

  local_of : (d : Did) (op : Op) (o p : Reading) → LocalOf d op o p
  unfolding touches
  local_of d (On n verb) o p is same = (still_at d n verb o p is same, same_result d n verb o p is same)
  local_of d AllNames o p is same = (is, (λ c w. never (ap (λ ts. any_touch (writes covers) ts c) is ∙ w)))

  pub verb_local : (d : Did) (o p : Reading) → IsAt d o → ((c : Cell) → (any_touch (reads covers) d.touches c || any_touch (writes covers) d.touches c) ≡ true → at p c ≡ at o c)
      → IsAt d p × ((c : Cell) → any_touch (writes covers) d.touches c ≡ true → result t d p c ≡ result t d o c)
  verb_local d o p = local_of d d.op o p

  -- what a verb leaves is what the step leaves
  result_value : (d : Did) (op : Op) (o : Reading) (c : Cell) → (result_of t d op o c).value ≡ cell (step t (objects o) op).1 c
  unfolding step
  result_value d (On n verb) o c = go (bytes_eq n c.name) refl
    where
      go : (b : Bool) → bytes_eq n c.name ≡ b → (shown (cond (bytes_eq n c.name) (slot_after t d verb (slot o n)) (slot o c.name)) c.part).value ≡ seen (get (put_at (objects o) n (on t verb (get (objects o) n)).1) c.name) c.part
      go b e = ap (λ x. (shown (cond x (slot_after t d verb (slot o n)) (slot o c.name)) c.part).value) e ∙ (by_bool b
          ∙ (ap (λ x. seen (cond x (on t verb (get (objects o) n)).1 (get (objects o) c.name)) c.part) (sym e) ∙ sym (ap (λ x. seen x c.part) (get_put_at (objects o) n (on t verb (get (objects o) n)).1 c.name))))
        where
          by_bool : (b : Bool) → (shown (cond b (slot_after t d verb (slot o n)) (slot o c.name)) c.part).value ≡ seen (cond b (on t verb (get (objects o) n)).1 (get (objects o) c.name)) c.part
          by_bool true = ap (λ x. seen x c.part) (grown_plain d verb (is_ok (on t verb (plain (slot o n).thing)).0) (slot o n).thing (on t verb (plain (slot o n).thing)).1) ∙ ap (λ x. seen (on t verb x).1 c.part) (sym (get_objects o n))
          by_bool false = sym (cell_shown o c)
  result_value d AllNames o c = sym (cell_shown o c)

  pub verb_step : (g : Ground) (d : Did) (o p : Reading) → After (model_cells t g) d o p → objects p ≡ (step t (objects o) d.op).1
  verb_step g d o p a = (footprint t).exact (objects p) (step t (objects o) d.op).1 (λ c. go c (any_touch (writes covers) d.touches c) refl)
    where
      go : (c : Cell) (b : Bool) → any_touch (writes covers) d.touches c ≡ b → cell (objects p) c ≡ cell (step t (objects o) d.op).1 c
      go c true w = cell_shown p c ∙ (ap (λ (x : Shown c.part). x.value) (a.1 c w) ∙ result_value d d.op o c)
      go c false w = cell_shown p c ∙ (ap (λ (x : Shown c.part). x.value) (a.2 c w) ∙ (sym (cell_shown o c)
          ∙ sym ((footprint t).frame (objects o) d.op c (ap (λ ts. any_touch (writes covers) ts c) a.0 ∙ w))))

  -- ALL THE LAWS, over any pages that read so
  pub model_laws : (g : Ground) → CellLaws (model_cells t g)
  model_laws g = record {
    le_same = λ c x. le_of c.part x x refl;
    le_trans = λ c x y z h k. le_more c.part x y z h k;
    inside_has = inside_has;
    objects_seen = objects_seen;
    note_local = note_local g;
    verb_local = verb_local;
    verb_step = verb_step g;
  }

  -- so the commuting of a running store holds
  pub model_setting : (g : Ground) → Laws (setting_of (model_cells t g))
  model_setting g = cells_laws (model_cells t g) (model_laws g)
