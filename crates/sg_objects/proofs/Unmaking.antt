-- What undoes the making of any object.
use Rattle.std.proofs.Common.{◌≡◌, ℕ, List, Option, Some, None, Result, Ok, Err, OnOk, refl, sym, ap, ◌∙◌, subst, inl}
use Rattle.sg_catalog.specs.Calls as catalog
use Rattle.sg_catalog.specs.Calls.{IsRemoved}
use Rattle.sg_catalog.specs.Catalog.{Catalog, rows, there}
use Rattle.sg_catalog.specs.declared.row.ObjectKind.{ObjectKind}
use Rattle.sg_catalog.specs.declared.row.ObjectKind.TheVariants as kinds
use Rattle.sg_catalog.specs.declared.row.Row.{Row}
use Rattle.std.specs.FinMap.{get}
use Rattle.sg_blob.specs.Blob.{Blob, IsBlob}
use Rattle.sg_blob.specs.Calls as blob
use Rattle.sg_hash.specs.Calls as table
use Rattle.sg_hash.specs.Table.{HashTable}
use Rattle.std.specs.Prelude.{⊤}
use Rattle.sg_ops.specs.Table.{Table as Operations}
use Rattle.sg_space.specs.declared.space.SpaceFault.{SpaceFault}
use Rattle.sg_space.specs.View.{View, Space, OnlyReads}
use Rattle.sg_reading.specs.Back.{Undoing}
use Rattle.sg_objects.specs.Undone.{Undoes}
use Rattle.sg_objects.proofs.Bodies.{undone_from}
use Rattle.sg_objects.proofs.Located.{still_contents}
use Rattle.sg_space.proofs.Known.{same_some}
use Rattle.sg_contents.specs.Standing.{Body, Contents, IsContents, IsBody, IsTable}
use Rattle.sg_contents.specs.Standing.Body.{ATable, ABlob}
use Rattle.sg_contents.specs.Changes.{BodyGone}
use Rattle.sg_contents.proofs.Standing.{nothing_owned}
use Rattle.sg_contents.proofs.Catalogued.{body_left}
use Rattle.sg_objects.specs.Found.{IsAt}
use Rattle.sg_reading.specs.Reading.{Thing}
use Rattle.sg_reading.specs.Back.{unmade}
use Rattle.sg_contents.specs.Meaning.{reading}
use Rattle.sg_objects.proofs.Measuring.{blob_body}
use Rattle.sg_objects.proofs.Refused.{nothing_under}
use Rattle.sg_objects.proofs.Tables.{table_body}

-- the body whose row has gone stands there still
pub left_body : {old mid : Space} {kind : ObjectKind} {s : Contents} {c : Catalog} {name : List ℕ} {root : ℕ} → IsContents old s → catalog.Turns old mid s.catalog c → (a : IsRemoved name s.catalog c) → IsAt kind s name root → IsBody mid kind root (s.body root)
left_body {old} {mid} {kind} {s} {c} {name} {root} h t a f =
    let same = same_some (a.change).row f.row (sym (a.change).was ∙ f.found) in
    let body = (body_left name h t a).body (a.change).row (inl refl) in
    let here = subst (λ (r : Row). IsBody mid r.kind r.root.0 (s.body r.root.0)) same body in
    subst (λ (r : ℕ). IsBody mid kind r (s.body r)) f.root_is (subst (λ (k : ObjectKind). IsBody mid k (f.row).root.0 (s.body (f.row).root.0)) f.kind_is here)

-- and it went
pub body_went : {mid new : Space} {kind : ObjectKind} {s : Contents} {c : Catalog} {name : List ℕ} {root : ℕ} {b : Body} (a : IsRemoved name s.catalog c) → IsAt kind s name root → s.body root ≡ b → BodyGone mid new root b → BodyGone mid new ((a.change).row).root.0 (s.body ((a.change).row).root.0)
body_went {mid} {new} {kind} {s} {c} {name} {root} a f is g =
    let same = same_some (a.change).row f.row (sym (a.change).was ∙ f.found) in
    subst (λ (r : Row). BodyGone mid new r.root.0 (s.body r.root.0)) (sym same)
    (subst (λ (r : ℕ). BodyGone mid new r (s.body r)) (sym f.root_is) (subst (λ (b : Body). BodyGone mid new root b) (sym is) g))

-- of a table
pub left_table : {old mid : Space} {s : Contents} {c : Catalog} {name : List ℕ} {root : ℕ} → IsContents old s → catalog.Turns old mid s.catalog c → (a : IsRemoved name s.catalog c) → IsAt kinds.Table s name root → (x : HashTable) × (s.body root ≡ ATable x) × IsTable mid.pages.at root x
left_table {old} {mid} {s} {c} {name} {root} h t a f = table_body mid root (s.body root) (left_body h t a f)

pub table_gone : {old new : Space} {root : ℕ} {a : HashTable} → table.IsGone old new root a → BodyGone old new root (ATable a)
table_gone g = record { pages = g.pages; bands = nothing_owned g.bands }

-- of a blob
pub left_blob : {old mid : Space} {s : Contents} {c : Catalog} {name : List ℕ} {root : ℕ} → IsContents old s → catalog.Turns old mid s.catalog c → (a : IsRemoved name s.catalog c) → IsAt kinds.Blob s name root → (x : Blob) × (s.body root ≡ ABlob x) × IsBlob mid.pages.at mid.bands.at root x
left_blob {old} {mid} {s} {c} {name} {root} h t a f = blob_body mid root (s.body root) (left_body h t a f)

pub blob_gone : {old new : Space} {root : ℕ} {b : Blob} → blob.IsGone old new root b → BodyGone old new root (ABlob b)
blob_gone g = record { pages = g.pages; bands = g.bands }

-- where the making of an object can be undone, there is one
pub there_unmade : (s : Contents) (name : List ℕ) (th : Option Thing) → unmade (get (reading s).things name) ≡ Some th → there name (rows s.catalog) ≡ None → ⊥
there_unmade s name th u n = let k : unmade None ≡ Some th = ap unmade (sym (nothing_under s name n)) ∙ u in (cc)

-- a call after reads
pub undone_after : {v m : View} (w : View) (t : Operations) (u : Undoing) (name : List ℕ) (r : Result ⊤ SpaceFault) → (v.Told → v.Shows) → OnlyReads v m → OnOk r (Undoes m w t u name) → OnOk r (Undoes v w t u name)
undone_after w t u name (Ok x) shown k d = record {
  told = λ told. d.told (k.keeps.told told);
  done = λ told s h th e. (let one = d.done (k.keeps.told told) s (still_contents k (shown told) h) th e in (one.0, undone_from k (shown told) one.1));
}
undone_after w t u name (Err e) shown k d = d
