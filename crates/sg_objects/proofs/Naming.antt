-- What can be undone has a name.
use Rattle.std.proofs.Common.{◌≡◌, ℕ, suc, ◌&&◌, Bool, true, false, cond, List, [], ◌∷◌, Option, Some, None, option_map, inl, inr, refl, sym, ap, ◌∙◌}
use Rattle.std.specs.Prelude.{is_none, option_and_then, ◌⊎◌}
use Rattle.std.specs.FinMap.{get}
use Rattle.std.specs.List.{find}
use Rattle.std.specs.Str.{bytes_eq}
use Rattle.std.proofs.lemmas.Slice.Eq.{bytes_eq-Decides}
use Rattle.sg_base.specs.Spelling.{is_name}
use Rattle.sg_ops.specs.Table.{Table as Operations}
use Rattle.sg_catalog.specs.Catalog.{rows, filled, row_at, is_there, is_tomb_at, is_tomb_of, there}
use Rattle.sg_catalog.specs.Row.{IsFormed}
use Rattle.sg_catalog.specs.declared.row.Row.{Row}
use Rattle.sg_catalog.proofs.Lists.{found_passes}
use Rattle.sg_reading.specs.Reading.{Thing, Tomb, Slot, slot}
use Rattle.sg_reading.specs.Back.{Undoing, Before, Plan, back, carried_out, planned, raised, unmade}
use Rattle.sg_reading.specs.Back.Plan.{TakeLast, Append, Replace, Reverse, Forget, Restore, Lay}
use Rattle.sg_reading.specs.Back.Undoing.{WasNothing, WasMake, WasDrop, WasPush, WasPop, WasSet, WasApply, WasPut, WasOver, WasBytes}
use Rattle.sg_space.specs.View.{Space}
use Rattle.sg_contents.specs.Standing.{Contents, IsContents}
use Rattle.sg_contents.specs.Meaning.{reading, thing_at, tomb_in}
use Rattle.sg_contents.proofs.Reading.{get_thing, get_tomb}

-- A ROW that is found has a name
named_in : (places : List (Option Row)) → ((i : ℕ) (row : Row) → row_at places i ≡ Some row → IsFormed row) → (test : Row → Bool) (row : Row)
    → find test (filled places) ≡ Some row → is_name row.name ≡ true
named_in [] h test row e = absurd (cc)
named_in (None ∷ places) h test row e = named_in places (λ i. h (suc i)) test row e
named_in (Some x ∷ places) h test row e = go (test x) e (named_in places (λ i. h (suc i)) test row)
  where
    go : (b : Bool) → cond b (Some x) (find test (filled places)) ≡ Some row → (find test (filled places) ≡ Some row → is_name row.name ≡ true)
        → is_name row.name ≡ true
    go true f rest = (let same : x ≡ row = cc in ap (λ (r : Row). is_name r.name) (sym same)) ∙ (h 0 x refl).name
    go false f rest = rest f

both : (a b : Bool) → (a && b) ≡ true → (a ≡ true) × (b ≡ true)
both true b e = (refl, e)
both false b e = absurd (cc)

named_as : {space : Space} {s : Contents} (name : List ℕ) (test : Row → Bool) (row : Row) → IsContents space s → find test (rows s.catalog) ≡ Some row
    → row.name ≡ name → is_name name ≡ true
named_as {s = s} name test row h e same = sym (ap is_name same) ∙ named_in s.catalog.places (λ i r f. h.catalog.raw.formed i r f) test row e

there_named : {space : Space} {s : Contents} (name : List ℕ) (row : Row) → IsContents space s → there name (rows s.catalog) ≡ Some row → is_name name ≡ true
there_named {s = s} name row h e = named_as name (is_there name) row h e
    ((bytes_eq-Decides row.name name).0 (both (is_none row.dropper) (bytes_eq row.name name)
    (found_passes (is_there name) (rows s.catalog) row e)).1)

tomb_named : {space : Space} {s : Contents} (name : List ℕ) (root : ℕ) (row : Row) → IsContents space s
    → find (is_tomb_of name root) (rows s.catalog) ≡ Some row → is_name name ≡ true
tomb_named {s = s} name root row h e = named_as name (is_tomb_of name root) row h e
    ((bytes_eq-Decides row.name name).0 (both (is_tomb_at root row) (bytes_eq row.name name) (found_passes (is_tomb_of name root) (rows s.catalog) row e)).1)

-- WHAT STANDS UNDER A NAME, or is buried, has one
some_row : {X : Type 0} (f : Row → X) (o : Option Row) (x : X) → option_map f o ≡ Some x → (row : Row) × (o ≡ Some row)
some_row f None x e = absurd (cc)
some_row f (Some row) x e = (row, refl)

some_tomb : (f : Row → Option Tomb) (o : Option Row) (x : Tomb) → option_and_then f o ≡ Some x → (row : Row) × (o ≡ Some row)
some_tomb f None x e = absurd (cc)
some_tomb f (Some row) x e = (row, refl)

thing_named : {space : Space} {s : Contents} (name : List ℕ) (th : Thing) → IsContents space s → get (reading s).things name ≡ Some th → is_name name ≡ true
thing_named {s = s} name th h e = let one = some_row (thing_at s.body) (there name (rows s.catalog)) th
    (sym (get_thing s name) ∙ e) in there_named name one.0 h one.1

buried_named : {space : Space} {s : Contents} (name : List ℕ) (root : ℕ) (d : Tomb) → IsContents space s → get (reading s).tombs (root ∷ name) ≡ Some d
    → is_name name ≡ true
buried_named {s = s} name root d h e = let one = some_tomb (tomb_in s.body) (find (is_tomb_of name root) (rows s.catalog)) d
    (sym (get_tomb s root name) ∙ e) in tomb_named name root one.0 h one.1

-- NOTHING IS UNDONE where nothing stands, and nothing is buried
abbrev Stands : Slot → Type 0
Stands x = ((th : Thing) × (x.thing ≡ Some th)) ⊎ ((root : ℕ) × (d : Tomb) × (x.buried root ≡ Some d))

none_done : (t : Operations) (p : Option Plan) (th : Option Thing) → carried_out t p None ≡ Some th → ⊥
none_done t None th e = absurd (cc)
none_done t (Some TakeLast) th e = absurd (cc)
none_done t (Some (Append item)) th e = absurd (cc)
none_done t (Some (Replace index item)) th e = absurd (cc)
none_done t (Some (Reverse index code arg)) th e = absurd (cc)
none_done t (Some (Forget key)) th e = absurd (cc)
none_done t (Some (Restore key value)) th e = absurd (cc)
none_done t (Some (Lay n patches)) th e = absurd (cc)

carried_stands : (t : Operations) (u : Undoing) (cs : List Before) (x : Slot) (th : Option Thing) → carried_out t (planned u cs x.thing) x.thing ≡ Some th
    → Stands x
carried_stands t u cs x th e = go x.thing refl e
  where
    go : (o : Option Thing) → x.thing ≡ o → carried_out t (planned u cs o) o ≡ Some th → Stands x
    go None is f = absurd (none_done t (planned u cs None) th f)
    go (Some y) is f = inl (y, is)

unmade_stands : (x : Slot) (th : Option Thing) → unmade x.thing ≡ Some th → Stands x
unmade_stands x th e = go x.thing refl e
  where
    go : (o : Option Thing) → x.thing ≡ o → unmade o ≡ Some th → Stands x
    go None is f = absurd (cc)
    go (Some y) is f = inl (y, is)

raised_stands : (root : ℕ) (x : Slot) (th : Option Thing) → raised x.thing (x.buried root) ≡ Some th → Stands x
raised_stands root x th e = go x.thing (x.buried root) refl refl e
  where
    go : (o : Option Thing) (d : Option Tomb) → x.thing ≡ o → x.buried root ≡ d → raised o d ≡ Some th → Stands x
    go None None is was f = absurd (cc)
    go None (Some d) is was f = inr (root, d, was)
    go (Some y) d is was f = inl (y, is)

back_stands : (t : Operations) (u : Undoing) (cs : List Before) (x : Slot) (th : Option Thing) → back t u cs x ≡ Some th → Stands x
back_stands t WasMake cs x th e = unmade_stands x th e
back_stands t (WasDrop root) cs x th e = raised_stands root x th e
back_stands t WasNothing cs x th e = carried_stands t WasNothing cs x th e
back_stands t WasPush cs x th e = carried_stands t WasPush cs x th e
back_stands t (WasPop item) cs x th e = carried_stands t (WasPop item) cs x th e
back_stands t (WasSet index item) cs x th e = carried_stands t (WasSet index item) cs x th e
back_stands t (WasApply index code arg) cs x th e = carried_stands t (WasApply index code arg) cs x th e
back_stands t (WasPut key) cs x th e = carried_stands t (WasPut key) cs x th e
back_stands t (WasOver key value) cs x th e = carried_stands t (WasOver key value) cs x th e
back_stands t (WasBytes size) cs x th e = carried_stands t (WasBytes size) cs x th e

-- SO A NOTE THAT CAN BE UNDONE HAS A NAME
pub undone_named : {space : Space} {s : Contents} (t : Operations) (u : Undoing) (cs : List Before) (name : List ℕ) (th : Option Thing) → IsContents space s
    → back t u cs (slot (reading s) name) ≡ Some th → is_name name ≡ true
undone_named {space} {s} t u cs name th h e = go (back_stands t u cs (slot (reading s) name) th e)
  where
    go : Stands (slot (reading s) name) → is_name name ≡ true
    go (inl o) = thing_named name o.0 h o.1
    go (inr o) = buried_named name o.0 o.1 h o.2
