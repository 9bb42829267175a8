-- The objects under names, as they are told.
use Rattle.std.proofs.Common.{◌≡◌, ℕ, List, Option, Some, None, option_map, is_some, refl, sym, ap, ◌∙◌}
use Rattle.std.specs.Prelude.{IsSome}
use Rattle.std.specs.FinMap.{get}
use Rattle.sg_catalog.specs.Catalog.{rows, there}
use Rattle.sg_catalog.specs.declared.row.ObjectKind.{ObjectKind}
use Rattle.sg_catalog.specs.declared.row.Row.{Row}
use Rattle.sg_model.specs.Objects.{Object}
use Rattle.sg_reading.specs.Reading.{Thing, objects, plain}
use Rattle.sg_reading.proofs.Slotted.{get_objects}
use Rattle.sg_contents.specs.Standing.{Body, Contents}
use Rattle.sg_contents.specs.Meaning.{reading, thing_at, object_of}
use Rattle.sg_contents.proofs.Reading.{get_thing}
use Rattle.sg_objects.specs.Found.{IsAt}
use Rattle.sg_objects.proofs.Located.{thing_under}

same_some : {A : Type 0} (x y : A) → Some x ≡ Some y → x ≡ y
same_some x y h = cc

-- the object under a name is what stands at its root
pub object_under : {kind : ObjectKind} {s : Contents} {name : List ℕ} {root : ℕ} (b : Body) (object : Object) → IsAt kind s name root → s.body root ≡ b → get (objects (reading s)) name ≡ Some object → object_of b ≡ object
object_under {s = s} {name = name} {root = root} b object f is under =
    same_some (object_of b) object
    (sym (get_objects (reading s) name ∙ (ap plain (thing_under f) ∙ ap (λ (x : Body). Some (object_of x)) is)) ∙ under)

kept_some : (s : Contents) (r : Option Row) → is_some (plain (option_map (thing_at s.body) r)) ≡ is_some r
kept_some s None = refl
kept_some s (Some row) = refl

-- and has a row
pub row_there : (s : Contents) (name : List ℕ) (object : Object) → get (objects (reading s)) name ≡ Some object → IsSome (there name (rows s.catalog))
row_there s name object under =
    sym (kept_some s (there name (rows s.catalog)))
    ∙ (ap (λ (th : Option Thing). is_some (plain th)) (sym (get_thing s name)) ∙ (ap is_some (sym (get_objects (reading s) name)) ∙ ap is_some under))
