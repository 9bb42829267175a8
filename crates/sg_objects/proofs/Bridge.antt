-- THE BRIDGE to the laws of cells: what each cell of the reading shows after a verb, and after a note was undone.
use Rattle.std.proofs.Common.{◌≡◌, ◌≢◌, ℕ, ◌==◌, ◌&&◌, Bool, true, false, cond, List, [], ◌∷◌, Option, Some, None, refl, sym, ap, ◌∙◌}
use Rattle.std.specs.Str.{bytes_eq}
use Rattle.std.specs.FinMap.{get}
use Rattle.sg_ops.specs.Table.{Table as Operations}
use Rattle.sg_model.specs.Touches.{Part, Cell}
use Rattle.sg_model.specs.Touches.Part.{Kind, Length, Item, Key, Body, Buried}
use Rattle.sg_model.specs.Verb.{Verb}
use Rattle.sg_model.proofs.Parts.{get_put, get_del, bytes_same, bytes_self}
use Rattle.sg_space.specs.View.{Space}
use Rattle.sg_reading.specs.Reading.{Thing, Tomb, Reading, Slot, slot, shown, at}
use Rattle.sg_reading.specs.Did.{slot_after, result, IsAt}
use Rattle.sg_reading.specs.Back.{Undoing, back, raises, with_thing, without_tomb, put_back, unstep}
use Rattle.sg_contents.specs.Standing.{Contents}
use Rattle.sg_contents.specs.Meaning.{reading}
use Rattle.sg_objects.specs.Done.{IsLeft, done_by}
use Rattle.sg_objects.specs.Undone.{IsUndone, left_buried}

-- slots with the same thing and the same tombstones show the same
pub shown_same : (s p : Slot) → s.thing ≡ p.thing → ((r : ℕ) → s.buried r ≡ p.buried r) → (q : Part) → shown s q ≡ shown p q
shown_same s p th buried Kind = λ i. shown (record { thing = th i; buried = s.buried }) Kind
shown_same s p th buried Length = λ i. shown (record { thing = th i; buried = s.buried }) Length
shown_same s p th buried (Item n) = λ i. shown (record { thing = th i; buried = s.buried }) (Item n)
shown_same s p th buried (Key k) = λ i. shown (record { thing = th i; buried = s.buried }) (Key k)
shown_same s p th buried Body = λ i. shown (record { thing = th i; buried = s.buried }) Body
shown_same s p th buried (Buried r) = λ i. shown (record { thing = th i; buried = λ q. buried q i }) (Buried r)

not_both : (b : Bool) → b ≡ true → b ≡ false → ⊥
not_both b e f = cc

-- A VERB: each cell shows what the model's verb leaves there
pub result_is : (t : Operations) (by : ℕ) (name : List ℕ) (verb : Verb) (o now : Reading) → (l : IsLeft t by name verb o now) → (c : Cell) → at now c ≡ result t (done_by o by name verb l.root l.bands) o c
result_is t by name verb o now l c = go (bytes_eq name c.name) refl
  where
    go : (b : Bool) → bytes_eq name c.name ≡ b → at now c ≡ shown (cond (bytes_eq name c.name) (slot_after t (done_by o by name verb l.root l.bands) verb (slot o name)) (slot o c.name)) c.part
    go true e =
        ap (λ (n : List ℕ). shown (slot now n) c.part) (sym (bytes_same name c.name e))
        ∙ (shown_same (slot now name) (slot_after t (done_by o by name verb l.root l.bands) verb (slot o name)) (l.leaves).thing (l.leaves).tomb c.part
        ∙ ap (λ (b : Bool). shown (cond b (slot_after t (done_by o by name verb l.root l.bands) verb (slot o name)) (slot o c.name)) c.part) (sym e))
    go false e =
        let ne : c.name ≢ name = λ f. not_both (bytes_eq name c.name) (ap (bytes_eq name) f ∙ bytes_self name) e in
        shown_same (slot now c.name) (slot o c.name) ((l.leaves).things c.name ne) (λ r. (l.leaves).tombs r c.name ne) c.part
        ∙ ap (λ (b : Bool). shown (cond b (slot_after t (done_by o by name verb l.root l.bands) verb (slot o name)) (slot o c.name)) c.part) (sym e)

-- and it was done where its touches are those of the verb
pub is_at : (t : Operations) (by : ℕ) (name : List ℕ) (verb : Verb) (o now : Reading) → (l : IsLeft t by name verb o now) → IsAt (done_by o by name verb l.root l.bands) o
is_at t by name verb o now l = refl

-- A NOTE: each cell shows what the model's unstep leaves there
thing_of : (o : Reading) (n : List ℕ) (th : Option Thing) (m : List ℕ) → get (with_thing o n th).things m ≡ cond (bytes_eq n m) th (get o.things m)
thing_of o n None m = get_del o.things n m
thing_of o n (Some th) m = get_put o.things n th m

same_tombs : (o : Reading) (n : List ℕ) (th : Option Thing) → (with_thing o n th).tombs ≡ o.tombs
same_tombs o n None = refl
same_tombs o n (Some th) = refl

same_things : (o : Reading) (n : List ℕ) (d : Option ℕ) → (without_tomb o n d).things ≡ o.things
same_things o n None = refl
same_things o n (Some r) = refl

tombs_left : (o : Reading) (n : List ℕ) (d : Option ℕ) (m : List ℕ) (r : ℕ) → get (without_tomb o n d).tombs (r ∷ m) ≡ cond (bytes_eq n m) (left_buried d (slot o m).buried r) (get o.tombs (r ∷ m))
tombs_left o n None m r = same (bytes_eq n m) (get o.tombs (r ∷ m))
  where
    same : (b : Bool) (x : Option Tomb) → x ≡ cond b x x
    same true x = refl
    same false x = refl
tombs_left o n (Some q) m r = get_del o.tombs (q ∷ n) (r ∷ m) ∙ apart (q == r) (bytes_eq n m) (get o.tombs (r ∷ m))
  where
    apart : (a b : Bool) (x : Option Tomb) → cond (a && b) None x ≡ cond b (cond a None x) x
    apart true true x = refl
    apart true false x = refl
    apart false true x = refl
    apart false false x = refl

abbrev pub undone : Reading → List ℕ → Undoing → Option Thing → Reading
undone o name u th = with_thing (without_tomb o name (raises u)) name th

pub unstep_is : (t : Operations) (o : Reading) (name : List ℕ) (u : Undoing) (th : Option Thing) → back t u [] (slot o name) ≡ Some th → unstep t o (record { name = name; undoes = u }) [] ≡ Some (undone o name u th)
unstep_is t o name u th e = ap (put_back o (record { name = name; undoes = u })) e

pub undone_is : {old new : Space} {s s' : Contents} {th : Option Thing} (u : Undoing) (name : List ℕ) → IsUndone u name old new s th s' → (c : Cell) → at (reading s') c ≡ at (undone (reading s) name u th) c
undone_is {s = s} {s' = s'} {th = th} u name d c =
    shown_same (slot (reading s') c.name) (slot (undone (reading s) name u th) c.name)
    (thing (bytes_eq name c.name) refl ∙ sym (thing_of (without_tomb (reading s) name (raises u)) name th c.name))
    (λ r. tomb (bytes_eq name c.name) refl r ∙ sym (ap (λ m. get m (r ∷ c.name)) (same_tombs (without_tomb (reading s) name (raises u)) name th) ∙ tombs_left (reading s) name (raises u) c.name r))
    c.part
  where
    far : bytes_eq name c.name ≡ false → c.name ≢ name
    far e f = not_both (bytes_eq name c.name) (ap (bytes_eq name) f ∙ bytes_self name) e

    thing : (b : Bool) → bytes_eq name c.name ≡ b → get (reading s').things c.name ≡ cond (bytes_eq name c.name) th (get (without_tomb (reading s) name (raises u)).things c.name)
    thing true e = ap (λ (n : List ℕ). get (reading s').things n) (sym (bytes_same name c.name e)) ∙ ((d.leaves).thing ∙ sym (ap (λ (b : Bool). cond b th (get (without_tomb (reading s) name (raises u)).things c.name)) e))
    thing false e =
        (d.leaves).things c.name (far e)
        ∙ (ap (λ m. get m c.name) (sym (same_things (reading s) name (raises u)))
        ∙ sym (ap (λ (b : Bool). cond b th (get (without_tomb (reading s) name (raises u)).things c.name)) e))

    tomb : (b : Bool) → bytes_eq name c.name ≡ b → (r : ℕ) → get (reading s').tombs (r ∷ c.name) ≡ cond (bytes_eq name c.name) (left_buried (raises u) (slot (reading s) c.name).buried r) (get (reading s).tombs (r ∷ c.name))
    tomb true e r =
        ap (λ (n : List ℕ). get (reading s').tombs (r ∷ n)) (sym (bytes_same name c.name e))
        ∙ ((d.leaves).tomb r
        ∙ (ap (λ (n : List ℕ). left_buried (raises u) (slot (reading s) n).buried r) (bytes_same name c.name e)
        ∙ sym (ap (λ (b : Bool). cond b (left_buried (raises u) (slot (reading s) c.name).buried r) (get (reading s).tombs (r ∷ c.name))) e)))
    tomb false e r = (d.leaves).tombs r c.name (far e) ∙ sym (ap (λ (b : Bool). cond b (left_buried (raises u) (slot (reading s) c.name).buried r) (get (reading s).tombs (r ∷ c.name))) e)
