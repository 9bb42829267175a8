-- WHAT OPERATIONS NEED, by the stock: by the objects and the greatest sizes that these had.
use Rattle.std.proofs.Common.{◌≡◌, ℕ, ◌+◌, ◌-◌, length, List, Option, Some, None, option_map, refl, sym, ap, subst}
use Rattle.std.specs.Prelude.{max, cond}
use Rattle.std.specs.FinMap.{get}
use Rattle.sg_ops.specs.Table.{Table as Operations}
use Rattle.sg_array.specs.Array.{rounded_up}
use Rattle.sg_catalog.specs.Catalog.{rows, there, is_there}
use Rattle.sg_catalog.specs.declared.row.ObjectKind.{ObjectKind}
use Rattle.sg_catalog.specs.declared.row.ObjectKind.TheVariants as kind
use Rattle.sg_catalog.specs.declared.row.Row.{Row}
use Rattle.sg_space.specs.View.{Space}
use Rattle.sg_model.specs.Objects.Object.{Array, Table, Blob}
use Rattle.sg_model.specs.Verb.{Verb, Op}
use Rattle.sg_model.specs.Verb.Verb.{MakeArray, MakeTable, MakeBlob, Discard, Push, Pop, Set, Get, Len, Apply, Put, Del, Find, Keys, Write, Read, Size, Paint}
use Rattle.sg_model.specs.Verb.Op.{On, Names}
use Rattle.sg_reading.specs.Back.{Undoing}
use Rattle.sg_reading.specs.Back.Undoing.{WasOver}
use Rattle.sg_reading.specs.Model.{wants_page}
use Rattle.sg_reading.specs.Reading.{Thing, Reading, objects, plain}
use Rattle.sg_reading.specs.Reading.Thing.{There}
use Rattle.sg_reading.proofs.Slotted.{get_objects}
use Rattle.sg_contents.specs.Standing.{Body, Contents, IsBody, IsContents}
use Rattle.sg_contents.specs.Standing.Body.{AnArray, ATable, ABlob}
use Rattle.sg_contents.specs.Meaning.{thing_of, thing_at, reading}
use Rattle.sg_contents.proofs.Among.{found_among}
use Rattle.sg_contents.proofs.Reading.{get_thing}
use Rattle.sg_stock.proofs.Bounds.{body_bands}
use Rattle.sg_room.specs.Marks.{mark_of, marks_of, peak_of, kind_of}
use Rattle.sg_room.specs.Needs as room
use Rattle.sg_room.specs.Steps.{one_kept}
use Rattle.sg_room.proofs.Maps.{opt, get_mapped}
use Rattle.sg_run.specs.Stocked.{needed_by}
use Rattle.sg_objects.specs.Needs.{needed, needed_put, needed_del, bands_for}
use Rattle.sg_objects.specs.Notes.{note_said}
use Rattle.sg_reader.specs.Alike.{space_of}
use Rattle.sg_reader.specs.Reader.{Reader}
use Rattle.sg_store.specs.Ground.{Needs}
use Rattle.sg_store.specs.Stock.{NeedsByStock}
use Rattle.sg_ground.specs.Ground.{as_needs, ground, needs}
use Rattle.sg_ground.specs.Recovers.{Recovering}
use Rattle.sg_ground.proofs.Lawful.{mapped}

-- a blob has the bands of the greatest length that it had
abbrev HasBands : Option Thing → Type 0
HasBands (Some (There (Blob x) w)) = length w.bands ≡ rounded_up w.peak 32768
HasBands other = Unit {0}

body_has : (space : Space) (k : ObjectKind) (root : ℕ) (b : Body) → IsBody space k root b → HasBands (Some (thing_of root b))
body_has space kind.Array root (AnArray a) h = tt
body_has space kind.Table root (ATable t) h = tt
body_has space kind.Blob root (ABlob b) h = body_bands space kind.Blob root (ABlob b) h
body_has space kind.Array root (ATable t) h = absurd h
body_has space kind.Array root (ABlob b) h = absurd h
body_has space kind.Table root (AnArray a) h = absurd h
body_has space kind.Table root (ABlob b) h = absurd h
body_has space kind.Blob root (AnArray a) h = absurd h
body_has space kind.Blob root (ATable t) h = absurd h

contents_have : (space : Space) (s : Contents) → IsContents space s → (name : List ℕ) → HasBands (get (reading s).things name)
contents_have space s h name = subst HasBands (sym (get_thing s name)) (go (there name (rows s.catalog)) refl)
  where
    go : (o : Option Row) → there name (rows s.catalog) ≡ o → HasBands (option_map (thing_at s.body) o)
    go None f = tt
    go (Some row) f = body_has space row.kind row.root.0 (s.body row.root.0) (h.body row (found_among (is_there name) (rows s.catalog) row f))

-- two needs of as many pages and bands
pub record AreSame (n : Needs) (m : room.Needed) : Type 0 where
  pub pages : n.pages ≡ m.pages
  pub bands : n.bands ≡ m.bands

same_pages : (n : ℕ) → AreSame (record { pages = n; bands = 0; reserve = 0 }) (room.pages_alone n)
same_pages n = record { pages = refl; bands = refl }

put_same : (o : Option (List ℕ)) → AreSame (as_needs (needed_put o)) (room.needed_put o)
put_same None = same_pages 12
put_same (Some old) = record { pages = refl; bands = refl }

del_same : (o : Option (List ℕ)) → AreSame (as_needs (needed_del o)) (room.needed_del o)
del_same None = same_pages 0
del_same (Some old) = record { pages = refl; bands = refl }

needs_same : (verb : Verb) (th : Option Thing) → HasBands th → AreSame (as_needs (needed verb th)) (room.needed verb (plain th) (peak_of (opt mark_of th)))
needs_same (MakeArray size) th h = same_pages 2
needs_same MakeTable th h = same_pages 6
needs_same MakeBlob th h = same_pages 2
needs_same (Push value) th h = same_pages 2
needs_same (Put key value) (Some (There (Table m) w)) h = put_same (get m key)
needs_same (Del key) (Some (There (Table m) w)) h = del_same (get m key)
needs_same (Write from bytes) (Some (There (Blob x) w)) h = record { pages = refl; bands = ap (λ k. bands_for (max (length x) (from + length bytes)) - k) h }
needs_same (Size n) (Some (There (Blob x) w)) h = record { pages = refl; bands = ap (λ k. bands_for n - k) h }
needs_same (Put key value) None h = same_pages 0
needs_same (Put key value) (Some (There (Array row) w)) h = same_pages 0
needs_same (Put key value) (Some (There (Blob x) w)) h = same_pages 0
needs_same (Del key) None h = same_pages 0
needs_same (Del key) (Some (There (Array row) w)) h = same_pages 0
needs_same (Del key) (Some (There (Blob x) w)) h = same_pages 0
needs_same (Write from bytes) None h = same_pages 0
needs_same (Write from bytes) (Some (There (Array row) w)) h = same_pages 0
needs_same (Write from bytes) (Some (There (Table m) w)) h = same_pages 0
needs_same (Size n) None h = same_pages 0
needs_same (Size n) (Some (There (Array row) w)) h = same_pages 0
needs_same (Size n) (Some (There (Table m) w)) h = same_pages 0
needs_same Discard th h = same_pages 0
needs_same Pop th h = same_pages 0
needs_same (Set i v) th h = same_pages 0
needs_same (Get i) th h = same_pages 0
needs_same Len th h = same_pages 0
needs_same (Apply i code arg) th h = same_pages 0
needs_same (Find k) th h = same_pages 0
needs_same Keys th h = same_pages 0
needs_same (Read from count) th h = same_pages 0
needs_same (Paint from count code arg) th h = same_pages 0

-- OF CONTENTS
needs_by_stock : (space : Space) (s : Contents) → IsContents space s → (op : Op) → AreSame (needs (reading s) op) (needed_by (objects (reading s)) (marks_of (reading s)) op)
needs_by_stock space s h (On name verb) =
    let own = get (reading s).things name in
    subst (λ x. AreSame (as_needs (needed verb own)) (room.needed verb x (peak_of (get (marks_of (reading s)).live name)))) (sym (get_objects (reading s) name))
    (subst (λ w. AreSame (as_needs (needed verb own)) (room.needed verb (plain own) (peak_of w))) (sym (get_mapped mark_of (reading s).things name)) (needs_same verb own (contents_have space s h name)))
needs_by_stock space s h Names = same_pages 0

-- a note that is undone by putting an entry back keeps a page
kept_page : (u : Undoing) → one_kept (kind_of u) ≡ cond (wants_page u) 1 0
kept_page (WasOver key value) = refl
kept_page u = refl

-- THE GROUND'S NEEDS are those of its stock
pub ground_by_stock : (pages bands : ℕ) (reader : Reader pages bands) (recovers : Recovering) (t : Operations) → NeedsByStock t (ground pages bands reader recovers)
ground_by_stock pages bands reader recovers t = record {
  pages = λ x o op e. (let m = mapped reading (reader.contents x) o e in
      subst (λ (q : Reading). (needs q op).pages ≡ (needed_by (objects q) (marks_of q) op).pages) m.2 (needs_by_stock (space_of pages bands x) m.0 (reader.sound x m.0 m.1).contents op).pages);
  bands = λ x o op e. (let m = mapped reading (reader.contents x) o e in
      subst (λ (q : Reading). (needs q op).bands ≡ (needed_by (objects q) (marks_of q) op).bands) m.2 (needs_by_stock (space_of pages bands x) m.0 (reader.sound x m.0 m.1).contents op).bands);
  kept = λ n. kept_page (note_said n).undoes;
}
