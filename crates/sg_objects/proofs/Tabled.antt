-- Making tables.
use Rattle.std.proofs.Common.{◌≡◌, ℕ, List, [], map, Option, Some, None, option_map, Ok, Err, refl, sym, ap, ◌∙◌, subst, arith}
use Rattle.std.specs.Prelude.{is_ok}
use Rattle.std.specs.FinMap.{get, from_entries, empty}
use Rattle.sg_bucket.specs.Entry.{value_of}
use Rattle.sg_hash.specs.Table.{HashTable, entries}
use Rattle.sg_hash.specs.Calls as table
use Rattle.sg_catalog.specs.Calls as catalog
use Rattle.sg_catalog.specs.Calls.{IsAdded, CanAdd, object}
use Rattle.sg_catalog.specs.Catalog.{Catalog, IsCatalog, rows, there}
use Rattle.sg_catalog.specs.declared.row.Entry.{Entry}
use Rattle.sg_catalog.specs.declared.row.ObjectKind.{ObjectKind}
use Rattle.sg_catalog.specs.declared.row.ObjectKind.TheVariants as kinds
use Rattle.sg_catalog.specs.declared.row.Row.{Row}
use Rattle.sg_ops.specs.Table.{Table as Operations}
use Rattle.sg_model.specs.declared.reason.Reason.TheVariants.{Exists}
use Rattle.sg_model.specs.Step.{on, Change}
use Rattle.sg_model.specs.Verb.Verb.{MakeTable}
use Rattle.sg_model.specs.Verb.Reply.{Done}
use Rattle.sg_space.specs.Owned.{Becomes}
use Rattle.sg_space.specs.View.{View, Space, Keeps}
use Rattle.sg_reading.specs.Reading.{Thing, plain}
use Rattle.sg_reading.specs.Did.{grown}
use Rattle.sg_reading.specs.Back.Undoing.{WasMake}
use Rattle.sg_contents.specs.Standing.{Contents, IsContents, OwnsPage}
use Rattle.sg_contents.specs.Standing.Body.{ATable}
use Rattle.sg_contents.specs.Changes.{with_body, BodyMade}
use Rattle.sg_contents.specs.Meaning.{reading, thing_at, map_of, pair_of}
use Rattle.sg_contents.proofs.Standing.{nothing_owned}
use Rattle.sg_contents.proofs.Reading.{get_thing}
use Rattle.sg_objects.specs.Done.{IsDone, IsFresh, HasRoomFor, done_by}
use Rattle.sg_objects.specs.Notes.{note_bytes}
use Rattle.sg_objects.proofs.Adding.{object_made, may_add}
use Rattle.sg_objects.proofs.Doing.{ok_is}
use Rattle.sg_objects.proofs.Refused.{nothing_under}
use Rattle.sg_objects.proofs.Tables.{table_thing}

no_entries : (t : HashTable) → entries t ≡ [] → map_of t ≡ empty
unfolding map_of
no_entries t e = ap (λ es. from_entries (map pair_of es)) e

pub table_made : {old new : Space} {root : ℕ} {a : HashTable} → table.IsMade old new root a → BodyMade old new kinds.Table root (ATable a)
table_made {old} {new} {root} {a} m = record {
  body = record { table = m.table; no_empty_key = ap (λ es. value_of es []) m.none };
  pages = subst (λ (n : ℕ). Becomes old.pages new.pages (λ _. ⊥) (OwnsPage root (ATable a)) 0 n) (sym m.count) m.pages;
  bands = nothing_owned m.bands;
}

pub table_accepted : (s : Contents) (name : List ℕ) (t : Operations) → there name (rows s.catalog) ≡ None → (on t MakeTable (plain (get (reading s).things name))).0 ≡ Ok Done
table_accepted s name t none = ap (λ (x : Option Thing). (on t MakeTable (plain x)).0) (nothing_under s name none)

pub table_exists : (s : Contents) (name : List ℕ) (t : Operations) → (row : Row) × (there name (rows s.catalog) ≡ Some row) → (on t MakeTable (plain (get (reading s).things name))).0 ≡ Err Exists
table_exists s name t f = ap (λ (x : Option Thing). (on t MakeTable (plain x)).0) (get_thing s name ∙ ap (option_map (thing_at s.body)) f.1)

pub can_make_table : {v : View} {s : Contents} {name : List ℕ} {t : Operations} → there name (rows s.catalog) ≡ None → IsFresh v → HasRoomFor t v name MakeTable s → table.HasFive v
can_make_table {v} {s} {name} {t} none fresh room = let free = (room.room (ok_is _ _ (table_accepted s name t none))).pages in record { free = (omega arith); may_take = fresh.may_take }

pub can_add_table : {v w : View} {s : Contents} {name : List ℕ} {root : ℕ} {a : HashTable} {t : Operations} → there name (rows s.catalog) ≡ None → IsContents v.space s → IsFresh v → HasRoomFor t v name MakeTable s → Keeps v w → table.IsMade v.space w.space root a → IsCatalog w.space.pages.at s.catalog × CanAdd w name s.catalog
can_add_table {v} {w} {s} {name} {root} {a} {t} none h fresh room keeps made =
    let free = (room.room (ok_is _ _ (table_accepted s name t none))).pages in
    let left = (made.pages).exactly in
    may_add (ATable a) none h fresh keeps (table_made made) (omega arith)

pub make_table_done : {old mid new : Space} {s : Contents} {c : Catalog} {a : HashTable} (t : Operations) (by : ℕ) (name note : List ℕ) (entry : Entry) → IsContents old s → there name (rows s.catalog) ≡ None → table.IsMade old mid entry.root.0 a → catalog.Turns mid new s.catalog c → IsAdded (object name entry) s.catalog c → entry.kind ≡ kinds.Table → note ≡ note_bytes name WasMake → IsDone t by name MakeTable (Ok Done) note old new s (record { catalog = c; body = (with_body entry.root.0 (ATable a) s).body })
make_table_done {old} {mid} {new} {s} {c} {a} t by name note entry h none made turns added kind_is noted_is =
    let m : BodyMade old mid entry.kind entry.root.0 (ATable a) = subst (λ (k : ObjectKind). BodyMade old mid k entry.root.0 (ATable a)) (sym kind_is) (table_made made) in
    let under = nothing_under s name none in
    let count = made.count in
    object_made t by name MakeTable Done note entry 6 h none m turns added (table_accepted s name t none)
    (ap (λ (x : Option Thing). (let k : Change = on t MakeTable (plain x) in grown (done_by (reading s) by name MakeTable entry.root.0 []) MakeTable (is_ok k.0) x k.1)) under
    ∙ sym (table_thing entry.root.0 a.peak 0 (map_of a) empty (no_entries a made.none) made.peak))
    (λ r. refl) refl (omega (arith, count)) refl noted_is
