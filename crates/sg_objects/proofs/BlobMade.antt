-- Making blobs.
use Rattle.std.proofs.Common.{◌≡◌, ℕ, ◌+◌, ◌≤◌, List, [], Option, Some, None, option_map, Ok, Err, refl, sym, ap, ◌∙◌, subst, arith}
use Rattle.std.specs.Prelude.{is_ok}
use Rattle.std.specs.FinMap.{get}
use Rattle.sg_blob.specs.Calls as blob
use Rattle.sg_blob.specs.Calls.{empty_blob}
use Rattle.sg_catalog.specs.Calls as catalog
use Rattle.sg_catalog.specs.Calls.{IsAdded, CanAdd, object}
use Rattle.sg_catalog.specs.Catalog.{Catalog, IsCatalog, rows, there}
use Rattle.sg_catalog.specs.declared.row.Entry.{Entry}
use Rattle.sg_catalog.specs.declared.row.ObjectKind.{ObjectKind}
use Rattle.sg_catalog.specs.declared.row.ObjectKind.TheVariants as kinds
use Rattle.sg_catalog.specs.declared.row.Row.{Row}
use Rattle.sg_ops.specs.Table.{Table as Operations}
use Rattle.sg_model.specs.declared.reason.Reason.TheVariants.{Exists}
use Rattle.sg_model.specs.Step.{on, Change}
use Rattle.sg_model.specs.Verb.Verb.{MakeBlob}
use Rattle.sg_model.specs.Verb.Reply.{Done}
use Rattle.sg_space.specs.Pages.{HasFree}
use Rattle.sg_space.specs.View.{View, Space, Keeps}
use Rattle.sg_reading.specs.Reading.{Thing, plain}
use Rattle.sg_reading.specs.Did.{grown}
use Rattle.sg_reading.specs.Back.Undoing.{WasMake}
use Rattle.sg_contents.specs.Standing.{Contents, IsContents, OwnsBand}
use Rattle.sg_contents.specs.Standing.Body.{ABlob}
use Rattle.sg_contents.specs.Changes.{with_body, BodyMade}
use Rattle.sg_contents.specs.Meaning.{reading, thing_at}
use Rattle.sg_contents.proofs.Reading.{get_thing}
use Rattle.sg_objects.specs.Done.{IsDone, IsFresh, HasRoomFor, done_by}
use Rattle.sg_objects.specs.Notes.{note_bytes}
use Rattle.sg_objects.proofs.Adding.{object_made, may_add}
use Rattle.sg_objects.proofs.Doing.{ok_is}
use Rattle.sg_objects.proofs.Refused.{nothing_under}

pub blob_made : {old new : Space} {root : ℕ} → blob.IsMade old new root → BodyMade old new kinds.Blob root (ABlob empty_blob)
blob_made {old} {new} m = record {
  body = m.blob;
  pages = m.pages;
  bands = record {
    others = λ b far far'. ap (λ u. u.at b) m.bands;
    taken = λ b own. absurd (none b own);
    given = λ b was. absurd was;
    exactly = ap (λ u. u.free + 0) m.bands;
    all = ap (λ u. u.count) m.bands;
  };
}
  where
    none : (b : ℕ) → OwnsBand (ABlob empty_blob) b → ⊥
    none b (j, e) = cc

pub blob_accepted : (s : Contents) (name : List ℕ) (t : Operations) → there name (rows s.catalog) ≡ None → (on t MakeBlob (plain (get (reading s).things name))).0 ≡ Ok Done
blob_accepted s name t none = ap (λ (x : Option Thing). (on t MakeBlob (plain x)).0) (nothing_under s name none)

pub blob_exists : (s : Contents) (name : List ℕ) (t : Operations) → (row : Row) × (there name (rows s.catalog) ≡ Some row) → (on t MakeBlob (plain (get (reading s).things name))).0 ≡ Err Exists
blob_exists s name t f = ap (λ (x : Option Thing). (on t MakeBlob (plain x)).0) (get_thing s name ∙ ap (option_map (thing_at s.body)) f.1)

room_is : {v : View} {s : Contents} {name : List ℕ} {t : Operations} → there name (rows s.catalog) ≡ None → HasRoomFor t v name MakeBlob s → 2 ≤ v.space.pages.free
room_is {s = s} {name = name} {t = t} none room = (room.room (ok_is _ _ (blob_accepted s name t none))).pages

pub can_make_blob : {v : View} {s : Contents} {name : List ℕ} {t : Operations} → there name (rows s.catalog) ≡ None → IsFresh v → HasRoomFor t v name MakeBlob s → HasFree v v.space.pages
can_make_blob none fresh room = let free = room_is none room in record { some = omega arith; may = fresh.may_take }

pub can_add_blob : {v w : View} {s : Contents} {name : List ℕ} {root : ℕ} {t : Operations} → there name (rows s.catalog) ≡ None → IsContents v.space s → IsFresh v → HasRoomFor t v name MakeBlob s → Keeps v w → blob.IsMade v.space w.space root → IsCatalog w.space.pages.at s.catalog × CanAdd w name s.catalog
can_add_blob none h fresh room keeps made =
    let free = room_is none room in
    let one = (made.pages).exactly in
    may_add (ABlob empty_blob) none h fresh keeps (blob_made made) (omega arith)

pub make_blob_done : {old mid new : Space} {s : Contents} {c : Catalog} (t : Operations) (by : ℕ) (name note : List ℕ) (entry : Entry) → IsContents old s → there name (rows s.catalog) ≡ None → blob.IsMade old mid entry.root.0 → catalog.Turns mid new s.catalog c → IsAdded (object name entry) s.catalog c → entry.kind ≡ kinds.Blob → note ≡ note_bytes name WasMake → IsDone t by name MakeBlob (Ok Done) note old new s (record { catalog = c; body = (with_body entry.root.0 (ABlob empty_blob) s).body })
make_blob_done {old} {mid} {new} {s} {c} t by name note entry h none made turns added kind_is noted_is =
    let under = nothing_under s name none in
    object_made t by name MakeBlob Done note entry 2 h none (subst (λ (k : ObjectKind). BodyMade old mid k entry.root.0 (ABlob empty_blob)) (sym kind_is) (blob_made made)) turns added
    (blob_accepted s name t none)
    (ap (λ (x : Option Thing). (let k : Change = on t MakeBlob (plain x) in grown (done_by (reading s) by name MakeBlob entry.root.0 []) MakeBlob (is_ok k.0) x k.1)) under)
    (λ r. refl) refl (omega arith) refl noted_is
