-- WHAT IS BURIED after a verb, an undoing and a freeing was buried before, or the verb has dropped it.
use Rattle.std.proofs.Common.{◌≡◌, ◌⊎◌, ◌==◌, ◌&&◌, ℕ, Bool, true, false, cond, inl, inr, List, ◌∷◌, Option, Some, None, refl, sym, ap, ◌∙◌, subst}
use Rattle.std.specs.Prelude.{◌||◌, option_and_then}
use Rattle.std.specs.List.{find}
use Rattle.std.specs.FinMap.{FinMap, get, len, get-empty, empty_of_len}
use Rattle.std.specs.Cmp.Lexicographic.{slice_cmp}
use Rattle.std.specs.Ordering.{nat_cmp}
use Rattle.std.specs.Str.{bytes_eq}
use Rattle.std.proofs.lemmas.Bool.{eq-eqb}
use Rattle.sg_base.specs.declared.numbers.TxnId.{TxnId}
use Rattle.sg_catalog.specs.Catalog.{rows, buried, is_buried, is_by, is_tomb_of}
use Rattle.sg_catalog.specs.declared.row.Row.{Row}
use Rattle.sg_ops.specs.Table.{Table as Operations}
use Rattle.sg_serial.specs.Locks.{Touch}
use Rattle.sg_model.specs.Verb.{Verb}
use Rattle.sg_model.specs.Verb.Verb.{Discard}
use Rattle.sg_model.specs.Verb.Op.{On}
use Rattle.sg_model.specs.Touches.{Cell, Resource, touches, covers_part}
use Rattle.sg_model.specs.Touches.Part.{Buried}
use Rattle.sg_model.specs.Touches.Region.{Just}
use Rattle.sg_model.proofs.Parts.{bytes_same, bytes_self}
use Rattle.sg_reading.specs.Reading.{Thing, Tomb, Reading, around_of, objects, Slot, slot}
use Rattle.sg_reading.specs.Back.{Undoing, raises}
use Rattle.sg_reading.specs.Did.{Did, entombed, buried_by}
use Rattle.sg_reading.specs.Left.{Leaves, IsLeft, done_by, left_buried, tomb_cell}
use Rattle.sg_before.specs.Forgot.{Forgets}
use Rattle.sg_contents.specs.Standing.{Body, Contents}
use Rattle.sg_contents.specs.Meaning.{reading, tomb_at}
use Rattle.sg_contents.proofs.Among.{found_among}
use Rattle.sg_contents.proofs.Reading.{tomb_of, tomb_in, get_tomb}
use Rattle.sg_store.specs.Ground.{are_written}
use Rattle.sg_store.specs.Drops.{drops, is_discard}
use Rattle.sg_ground.specs.Ground.{IsBuried}
use Rattle.sg_ground.proofs.Buried.{finds}

apart : (b : Bool) → b ≡ true → b ≡ false → ⊥
apart b e f = cc

-- where there is no tombstone nothing is buried
pub none_there : (o : Reading) → len o.tombs ≡ 0 → (u : ℕ) (f : List (Touch Resource)) → IsBuried o u f → ⊥
none_there o e u f h =
    let none = ap (λ (m : FinMap (slice_cmp nat_cmp) Tomb). get m (h.root ∷ h.name)) (empty_of_len o.tombs e) ∙ get-empty (slice_cmp nat_cmp) (h.root ∷ h.name) in
    let z : ◌≡◌ {A = Option Tomb} None (Some h.tomb) = sym none ∙ h.there in
    cc

-- the same tombstone, where the readings have the same under its key
moved : (o now : Reading) (d : ℕ) (f : List (Touch Resource)) (h : IsBuried now d f) → get o.tombs (h.root ∷ h.name) ≡ Some h.tomb → IsBuried o d f
moved o now d f h there = record { root = h.root; name = h.name; tomb = h.tomb; there = there; dropper = h.dropper; cell = h.cell }

-- a drop writes all of a name, and so each tombstone of it
in_name : (a b : Bool) → ((a && b) || false) ≡ true → ((a && true) || false) ≡ true
in_name true b h = refl
in_name false b h = h

written : (o : Reading) (name : List ℕ) (root : ℕ) (c : Cell) → are_written (tomb_cell name root) c ≡ true → are_written (touches (objects o) (On name Discard)) c ≡ true
unfolding touches
written o name root c h = in_name (bytes_eq name c.name) (covers_part (Just (Buried root)) c.part) h

-- A VERB
entombed_is : (d : Did) (th : Option Thing) (r : ℕ) (old : Option Tomb) (tomb : Tomb) → entombed d th r old ≡ Some tomb → (old ≡ Some tomb) ⊎ (tomb.dropper ≡ d.by)
entombed_is d None r old tomb e = inl e
entombed_is d (Some th) r old tomb e = go ((around_of th).root == r) e
  where
    go : (b : Bool) → cond b (Some (record { dropper = d.by; thing = th })) old ≡ Some tomb → (old ≡ Some tomb) ⊎ (tomb.dropper ≡ d.by)
    go true e = inr (let k : record { dropper = d.by; thing = th } ≡ tomb = cc in sym (ap (λ (x : Tomb). x.dropper) k))
    go false e = inl e

buried_by_is : (d : Did) (verb : Verb) (s : Slot) (r : ℕ) (tomb : Tomb) → buried_by d verb s r ≡ Some tomb → (s.buried r ≡ Some tomb) ⊎ ((verb ≡ Discard) × (tomb.dropper ≡ d.by))
buried_by_is d Discard s r tomb e = elim (entombed_is d s.thing r (s.buried r) tomb e) [
  | inl i ↦ inl i
  | inr j ↦ inr (refl, j)
]
buried_by_is d verb s r tomb e = inl e

pub after_verb : (t : Operations) (by : ℕ) (name : List ℕ) (verb : Verb) (o now : Reading) (l : IsLeft t by name verb o now) (d : ℕ) (f : List (Touch Resource)) → IsBuried now d f
    → IsBuried o d f ⊎ ((d ≡ by) × ((c : Cell) → are_written f c ≡ true → are_written (touches (objects o) (On name verb)) c ≡ true) × (drops (On name verb) ≡ true))
after_verb t by name verb o now l d f h = go (bytes_eq name h.name) refl
  where
    here : name ≡ h.name → IsBuried o d f ⊎ ((d ≡ by) × ((c : Cell) → are_written f c ≡ true → are_written (touches (objects o) (On name verb)) c ≡ true) × (drops (On name verb) ≡ true))
    here same =
        let key : get now.tombs (h.root ∷ name) ≡ Some h.tomb = subst (λ (n : List ℕ). get now.tombs (h.root ∷ n) ≡ Some h.tomb) (sym same) h.there in
        elim (buried_by_is (done_by o by name verb l.root l.bands) verb (slot o name) h.root h.tomb (sym (l.leaves.tomb h.root) ∙ key)) [
          | inl i ↦ inl (moved o now d f h (subst (λ (n : List ℕ). get o.tombs (h.root ∷ n) ≡ Some h.tomb) same i))
          | inr j ↦ inr (
            sym h.dropper ∙ j.1,
            (λ c w. subst (λ (v : Verb). are_written (touches (objects o) (On name v)) c ≡ true) (sym j.0)
                (written o name h.root c (subst (λ (p : List (Touch Resource)). are_written p c ≡ true) (h.cell ∙ ap (λ (n : List ℕ). tomb_cell n h.root) (sym same)) w))),
            ap is_discard j.0,
          )
        ]

    go : (b : Bool) → bytes_eq name h.name ≡ b → IsBuried o d f ⊎ ((d ≡ by) × ((c : Cell) → are_written f c ≡ true → are_written (touches (objects o) (On name verb)) c ≡ true) × (drops (On name verb) ≡ true))
    go true e = here (bytes_same name h.name e)
    go false e = inl (moved o now d f h (sym (l.leaves.tombs h.root h.name (λ same. apart (bytes_eq name h.name) (ap (bytes_eq name) same ∙ bytes_self name) e)) ∙ h.there))

-- AN UNDOING
left_is : (r : Option ℕ) (b : ℕ → Option Tomb) (root : ℕ) (tomb : Tomb) → left_buried r b root ≡ Some tomb → b root ≡ Some tomb
left_is None b root tomb e = e
left_is (Some r) b root tomb e = go (r == root) e
  where
    go : (c : Bool) → cond c None (b root) ≡ Some tomb → b root ≡ Some tomb
    go true e = absurd (cc)
    go false e = e

pub after_undo : (u : Undoing) (name : List ℕ) (th : Option Thing) (o now : Reading) → Leaves name th (left_buried (raises u) (slot o name).buried) o now → (d : ℕ) (f : List (Touch Resource)) → IsBuried now d f → IsBuried o d f
after_undo u name th o now l d f h = go (bytes_eq name h.name) refl
  where
    here : name ≡ h.name → IsBuried o d f
    here same =
        let key : get now.tombs (h.root ∷ name) ≡ Some h.tomb = subst (λ (n : List ℕ). get now.tombs (h.root ∷ n) ≡ Some h.tomb) (sym same) h.there in
        moved o now d f h (subst (λ (n : List ℕ). get o.tombs (h.root ∷ n) ≡ Some h.tomb) same (left_is (raises u) (slot o name).buried h.root h.tomb (sym (l.tomb h.root) ∙ key)))

    go : (b : Bool) → bytes_eq name h.name ≡ b → IsBuried o d f
    go true e = here (bytes_same name h.name e)
    go false e = moved o now d f h (sym (l.tombs h.root h.name (λ same. apart (bytes_eq name h.name) (ap (bytes_eq name) same ∙ bytes_self name) e)) ∙ h.there)

-- A FREEING
pub after_free : (name : List ℕ) (root : ℕ) (o now : Reading) → Forgets name root o now → (d : ℕ) (f : List (Touch Resource)) → IsBuried now d f → IsBuried o d f
after_free name root o now k d f h = go (bytes_eq (root ∷ name) (h.root ∷ h.name)) refl
  where
    go : (b : Bool) → bytes_eq (root ∷ name) (h.root ∷ h.name) ≡ b → IsBuried o d f
    go true e = absurd (let z : ◌≡◌ {A = Option Tomb} None (Some h.tomb) = sym k.gone ∙ (ap (get now.tombs) (bytes_same (root ∷ name) (h.root ∷ h.name) e) ∙ h.there) in cc)
    go false e = moved o now d f h (sym (k.tombs h.root h.name (λ same. apart (bytes_eq (root ∷ name) (h.root ∷ h.name)) ((λ i. bytes_eq (root ∷ name) (same.0 i ∷ same.1 i)) ∙ bytes_self (root ∷ name)) e)) ∙ h.there)

-- A ROW of a dropper that isn't there
tomb_by : (body : ℕ → Body) (y : Row) (u : TxnId) (tomb : Tomb) (d : Option TxnId) → y.dropper ≡ d → tomb_of body y d ≡ Some tomb → tomb.dropper ≡ u.0 → is_by y.dropper u ≡ true
tomb_by body y u tomb None e f g = absurd (cc)
tomb_by body y u tomb (Some by) e f g =
    let k : tomb_at body by y ≡ tomb = cc in
    ap (λ (x : Option TxnId). is_by x u) e ∙ same by.0 u.0 (ap (λ (x : Tomb). x.dropper) k ∙ g)
  where
    same : (a b : ℕ) → a ≡ b → (a == b) ≡ true
    same a b e = eq-eqb a b e

pub none_of : (s : Contents) (u : TxnId) → buried (Some u) (rows s.catalog) ≡ None → (f : List (Touch Resource)) → IsBuried (reading s) u.0 f → ⊥
none_of s u none f h = at (find (is_tomb_of h.name h.root) (rows s.catalog)) refl
  where
    at : (o : Option Row) → find (is_tomb_of h.name h.root) (rows s.catalog) ≡ o → ⊥
    at None e = let z : ◌≡◌ {A = Option Tomb} None (Some h.tomb) = sym (get_tomb s h.root h.name ∙ ap (option_and_then (tomb_in s.body)) e) ∙ h.there in cc
    at (Some y) e =
        let there : tomb_in s.body y ≡ Some h.tomb = sym (get_tomb s h.root h.name ∙ ap (option_and_then (tomb_in s.body)) e) ∙ h.there in
        let by = tomb_by s.body y u h.tomb y.dropper refl there h.dropper in
        let r = finds (is_buried (Some u)) (rows s.catalog) y (found_among (is_tomb_of h.name h.root) (rows s.catalog) y e) by in
        let z : ◌≡◌ {A = Option Row} None (Some r.0) = sym none ∙ r.1 in
        cc
