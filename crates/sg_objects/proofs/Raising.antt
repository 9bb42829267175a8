-- What undoes the making and the dropping of objects.
use Rattle.std.proofs.Common.{◌≡◌, ℕ, length, arith, List, ◌∷◌, Option, Some, None, option_map, IsSome, refl, sym, ap, ◌∙◌, subst, inl}
use Rattle.std.specs.Prelude.{option_and_then}
use Rattle.std.specs.List.{find}
use Rattle.std.specs.FinMap.{get}
use Rattle.sg_array.specs.Array.{Array, IsArray}
use Rattle.sg_array.specs.Calls as array
use Rattle.sg_catalog.specs.Calls as catalog
use Rattle.sg_catalog.specs.Calls.{IsRaised, IsRemoved, CanRaise}
use Rattle.sg_catalog.specs.Catalog.{Catalog, rows, there, is_tomb_of}
use Rattle.sg_catalog.specs.declared.row.ObjectKind.{ObjectKind}
use Rattle.sg_catalog.specs.declared.row.ObjectKind.TheVariants as kinds
use Rattle.sg_catalog.specs.declared.row.Row.{Row}
use Rattle.sg_base.specs.declared.numbers.TxnId.{TxnId}
use Rattle.sg_space.specs.Units.{Units}
use Rattle.sg_space.specs.View.{Space}
use Rattle.sg_space.proofs.Known.{same_some}
use Rattle.sg_reading.specs.Reading.{Thing, Tomb}
use Rattle.sg_reading.specs.Back.{raised, unmade}
use Rattle.sg_reading.specs.Back.Undoing.{WasMake, WasDrop}
use Rattle.sg_contents.specs.Standing.{Body, Contents, Holds, IsContents, IsBody, map_bands}
use Rattle.sg_contents.specs.Standing.Body.{AnArray}
use Rattle.sg_contents.specs.Changes.{BodyGone}
use Rattle.sg_contents.specs.Meaning.{reading, thing_at, tomb_at}
use Rattle.sg_contents.proofs.Standing.{nothing_owned}
use Rattle.sg_contents.proofs.Framing.{map_same}
use Rattle.sg_contents.proofs.Reading.{get_thing, get_tomb, tomb_of, tomb_in}
use Rattle.sg_contents.proofs.Catalogued.{row_raised, raised_thing, raised_others, raised_tomb, raised_tombs, body_left, row_gone, unmade_thing, unmade_others, unmade_tombs}
use Rattle.sg_objects.specs.Found.{IsAt}
use Rattle.sg_objects.specs.Undone.{IsUndone}
use Rattle.sg_objects.specs.Needs.{pages_alone, HasTaken}
use Rattle.sg_objects.proofs.Located.{array_body}
use Rattle.sg_objects.proofs.Making.{catalog_taken}
use Rattle.sg_contents.proofs.Counted.{counted_place, counted_unmade}

-- what there is, where a tombstone can be raised
pub record WasTomb (s : Contents) (name : List ℕ) (root : ℕ) (th : Option Thing) : Type 0 where
  pub absent : there name (rows s.catalog) ≡ None
  pub row : Row
  pub found : find (is_tomb_of name root) (rows s.catalog) ≡ Some row
  pub th_is : th ≡ Some (thing_at s.body row)

mapped_none : {A B : Type 0} (f : A → B) (o : Option A) → option_map f o ≡ None → o ≡ None
mapped_none f None e = refl
mapped_none f (Some x) e = absurd (cc)

tomb_thing : (body : ℕ → Body) (row : Row) (o : Option TxnId) (d : Tomb) → tomb_of body row o ≡ Some d → d.thing ≡ thing_at body row
tomb_thing body row None d e = absurd (cc)
tomb_thing body row (Some by) d e = ap (λ (t : Tomb). t.thing) (same_some d (tomb_at body by row) (sym e))

chosen : (body : ℕ → Body) (o : Option Row) (d : Tomb) → option_and_then (tomb_in body) o ≡ Some d → (row : Row) × (o ≡ Some row) × (d.thing ≡ thing_at body row)
chosen body None d e = absurd (cc)
chosen body (Some row) d e = (row, refl, tomb_thing body row row.dropper d e)

raise_there : (x : Option Thing) (o : Option Tomb) (th : Option Thing) → raised x o ≡ Some th → (x ≡ None) × ((d : Tomb) × (o ≡ Some d) × (th ≡ Some d.thing))
raise_there (Some y) o th e = absurd (cc)
raise_there None None th e = absurd (cc)
raise_there None (Some d) th e = (refl, (d, refl, cc))

pub was_tomb : (s : Contents) (name : List ℕ) (root : ℕ) (th : Option Thing) → raised (get (reading s).things name) (get (reading s).tombs (root ∷ name)) ≡ Some th → WasTomb s name root th
was_tomb s name root th e =
    let x = raise_there (get (reading s).things name) (get (reading s).tombs (root ∷ name)) th e in
    let d = x.1 in
    let one = chosen s.body (find (is_tomb_of name root) (rows s.catalog)) d.0 (sym (get_tomb s root name) ∙ d.1) in
    record {
      absent = mapped_none (thing_at s.body) (there name (rows s.catalog)) (sym (get_thing s name) ∙ x.0);
      row = one.0;
      found = one.1;
      th_is = d.2 ∙ ap (λ (y : Thing). Some y) one.2;
    }

pub can_raise : {s : Contents} {name : List ℕ} {root : ℕ} {th : Option Thing} → WasTomb s name root th → CanRaise name root s.catalog
can_raise w = record { tomb = subst (λ (o : Option Row). IsSome o) (sym w.found) refl; absent = w.absent }

pub catalog_kept : {old new : Space} {c c' : Catalog} → catalog.Turns old new c c' → map_bands new ≡ map_bands old
catalog_kept {old} {new} t = map_same old new (t.pages).all (ap (λ (u : Units (List ℕ)). u.count) t.bands)

same_catalog_peak : (s : Contents) (c : Catalog) → c.peak ≡ s.catalog.peak → (reading (record s { catalog = c })).peak ≡ (reading s).peak
unfolding reading
same_catalog_peak s c e = e

pub undo_drop_done : {old new : Space} {s : Contents} {c : Catalog} (name : List ℕ) (root : ℕ) (th : Option Thing) → IsContents old s → catalog.Turns old new s.catalog c → (a : IsRaised name root s.catalog c) → WasTomb s name root th → IsUndone (WasDrop root) name old new s th (record s { catalog = c })
undo_drop_done {old} {new} {s} {c} name root th h t a w = record {
  contents = subst (λ (k : ℕ). Holds k new (record s { catalog = c }) (rows c)) (sym (catalog_kept t)) (row_raised name root h t a);
  leaves = record {
    thing = raised_thing name root h t a ∙ (ap (λ (r : Row). Some (thing_at s.body r)) (same_some (a.change).row w.row (sym (a.change).was ∙ w.found)) ∙ sym w.th_is);
    things = raised_others name root h t a;
    tomb = raised_tomb name root h t a;
    tombs = raised_tombs name root h t a;
  };
  peak = same_catalog_peak s c (a.change).peak;
  counted = λ was. counted_place was t (a.change).rows_are refl;
  taken = catalog_taken t (a.change).pages;
}

-- UNMAKING
pub array_gone : {old new : Space} {root : ℕ} {a : Array} → array.IsGone old new root a → BodyGone old new root (AnArray a)
array_gone g = record { pages = g.pages; bands = nothing_owned g.bands }

unmade_none : (x : Option Thing) (th : Option Thing) → unmade x ≡ Some th → th ≡ None
unmade_none None th e = absurd (cc)
unmade_none (Some y) th e = cc

gone_taken : {old mid new : Space} {root : ℕ} {b : Body} {c c' : Catalog} → catalog.Turns old mid c c' → c'.pages ≡ c.pages → BodyGone mid new root b → HasTaken (pages_alone 0) old new
gone_taken {c = c} {c' = c'} t same g =
    let e : length c'.pages ≡ length c.pages = ap (λ (xs : List ℕ). length xs) same in
    let one = (t.pages).exactly in
    let two = (g.pages).exactly in
    let three = ap (λ (u : Units (List ℕ)). u.free) t.bands in
    let four = (g.bands).exactly in
    record { pages = omega (arith, e, one, two); bands = omega (arith, three, four) }

pub undo_make_done : {old mid new : Space} {s : Contents} {c : Catalog} (name : List ℕ) (th : Option Thing) → IsContents old s → (t : catalog.Turns old mid s.catalog c) → (a : IsRemoved name s.catalog c) → BodyGone mid new ((a.change).row).root.0 (s.body ((a.change).row).root.0) → unmade (get (reading s).things name) ≡ Some th → IsUndone WasMake name old new s th (record s { catalog = c })
undo_make_done {old} {mid} {new} {s} {c} name th h t a g e = record {
  contents = subst (λ (k : ℕ). Holds k new (record s { catalog = c }) (rows c)) (sym (map_same mid new (g.pages).all (g.bands).all ∙ catalog_kept t)) (row_gone name h t a g);
  leaves = record {
    thing = unmade_thing name h t a ∙ sym (unmade_none (get (reading s).things name) th e);
    things = unmade_others name h t a;
    tomb = λ r. unmade_tombs name h t a r name;
    tombs = λ r other ne. unmade_tombs name h t a r other;
  };
  peak = same_catalog_peak s c (a.change).peak;
  counted = λ was. counted_unmade was t (a.change).rows_are g;
  taken = gone_taken t (a.change).pages g;
}

-- the array whose row has gone stands there still
pub left_array : {old mid : Space} {s : Contents} {c : Catalog} {name : List ℕ} {root : ℕ} → IsContents old s → catalog.Turns old mid s.catalog c → (a : IsRemoved name s.catalog c) → IsAt kinds.Array s name root → (x : Array) × (s.body root ≡ AnArray x) × IsArray mid.pages.at root x
left_array {old} {mid} {s} {c} {name} {root} h t a f =
    let same = same_some (a.change).row f.row (sym (a.change).was ∙ f.found) in
    let body = (body_left name h t a).body (a.change).row (inl refl) in
    let here = subst (λ (r : Row). IsBody mid r.kind r.root.0 (s.body r.root.0)) same body in
    array_body mid root (s.body root) (subst (λ (r : ℕ). IsBody mid kinds.Array r (s.body r)) f.root_is (subst (λ (k : ObjectKind). IsBody mid k (f.row).root.0 (s.body (f.row).root.0)) f.kind_is here))

pub array_went : {mid new : Space} {s : Contents} {c : Catalog} {name : List ℕ} {root : ℕ} {x : Array} (a : IsRemoved name s.catalog c) → IsAt kinds.Array s name root → s.body root ≡ AnArray x → array.IsGone mid new root x → BodyGone mid new ((a.change).row).root.0 (s.body ((a.change).row).root.0)
array_went {mid} {new} {s} {c} {name} {root} {x} a f is g =
    let same = same_some (a.change).row f.row (sym (a.change).was ∙ f.found) in
    subst (λ (r : Row). BodyGone mid new r.root.0 (s.body r.root.0)) (sym same)
    (subst (λ (r : ℕ). BodyGone mid new r (s.body r)) (sym f.root_is) (subst (λ (b : Body). BodyGone mid new root b) (sym is) (array_gone g)))

pub has_row : {kind : ObjectKind} {s : Contents} {name : List ℕ} {root : ℕ} → IsAt kind s name root → IsSome (there name (rows s.catalog))
has_row f = subst (λ (o : Option Row). IsSome o) (sym f.found) refl
