-- Making arrays, and dropping objects.
use Rattle.std.proofs.Common.{◌≡◌, ◌⊎◌, inl, inr, ℕ, ◌<◌, ◌≤◌, max, ◌==◌, ◌&&◌, Bool, true, false, cond, List, [], ◌∷◌, length, Option, Some, None, option_map, is_some, Ok, Err, refl, sym, ap, ◌∙◌, subst, arith}
use Rattle.std.specs.Prelude.{nat_le, is_ok}
use Rattle.std.specs.FinMap.{get}
use Rattle.std.proofs.lemmas.Bool.Decides.{nat_tests}
use Rattle.sg_base.specs.declared.numbers.TxnId.{TxnId}
use Rattle.sg_ops.specs.Table.{Table as Operations}
use Rattle.sg_array.specs.Calls as array
use Rattle.sg_array.specs.Calls.{empty_array}
use Rattle.sg_catalog.specs.Calls as catalog
use Rattle.sg_catalog.specs.Calls.{IsBuried, IsAdded, CanAdd, object}
use Rattle.sg_catalog.specs.Catalog.{Catalog, IsCatalog, rows, there}
use Rattle.sg_catalog.specs.Row.{entry_of}
use Rattle.sg_catalog.specs.declared.row.Entry.{Entry}
use Rattle.sg_catalog.specs.declared.row.ObjectKind.{ObjectKind}
use Rattle.sg_catalog.specs.declared.row.ObjectKind.TheVariants as kinds
use Rattle.sg_catalog.specs.declared.row.Row.{Row}
use Rattle.sg_model.specs.declared.reason.Reason.TheVariants.{OutOfRange, Exists}
use Rattle.sg_model.specs.Objects.Object.{Array as AsArray}
use Rattle.sg_model.specs.Step.{on, Change}
use Rattle.sg_model.specs.Verb.Verb.{MakeArray, Discard}
use Rattle.sg_model.specs.Verb.Reply.{Done}
use Rattle.sg_space.specs.View.{View, Space, Keeps}
use Rattle.sg_space.specs.Pages.{HasFree}
use Rattle.sg_reading.specs.Reading.{Thing, Tomb, plain}
use Rattle.sg_reading.specs.Did.{grown, entombed}
use Rattle.sg_reading.specs.Back.Undoing.{WasMake, WasDrop}
use Rattle.sg_reading.specs.Noted.{noted}
use Rattle.sg_contents.specs.Standing.{Body, Contents, Holds, IsContents}
use Rattle.sg_contents.specs.Standing.Body.{AnArray, ATable, ABlob}
use Rattle.sg_contents.specs.Changes.{with_body, BodyMade}
use Rattle.sg_contents.specs.Meaning.{reading, thing_at, around_of}
use Rattle.sg_contents.proofs.Standing.{nothing_owned}
use Rattle.sg_contents.proofs.Catalogued.{row_buried, buried_thing, buried_others, buried_tomb, buried_tombs}
use Rattle.sg_contents.proofs.Reading.{get_thing}
use Rattle.sg_objects.specs.Done.{IsDone, IsFresh, HasRoomFor, done_by}
use Rattle.sg_objects.specs.Needs.{needed, pages_alone, HasTaken}
use Rattle.sg_objects.specs.Notes.{note_bytes}
use Rattle.sg_objects.proofs.Bodies.{noted_some, pages_taken}
use Rattle.sg_objects.proofs.Adding.{kept_same, object_made, may_add}
use Rattle.sg_objects.proofs.Located.{peak_kept}
use Rattle.sg_contents.proofs.Counted.{counted_place}
use Rattle.sg_objects.proofs.Doing.{ok_is}
use Rattle.sg_objects.proofs.Refused.{nothing_under}

pub root_around : (root : ℕ) (b : Body) → (around_of root b).root ≡ root
root_around root (AnArray a) = refl
root_around root (ATable t) = refl
root_around root (ABlob b) = refl

-- what a search for a name found
pub entry_found : (o : Option Row) (e : Entry) → Some e ≡ option_map entry_of o → (row : Row) × (o ≡ Some row) × (e ≡ entry_of row)
entry_found None e h = absurd (cc)
entry_found (Some row) e h = (row, refl, cc)

pub none_found : (o : Option Row) → None ≡ option_map entry_of o → o ≡ None
none_found None h = refl
none_found (Some row) h = absurd (cc)

pub not_there : (o : Option Row) (b : Bool) → b ≡ is_some o → b ≡ false → o ≡ None
not_there None b e f = refl
not_there (Some row) b e f = absurd (cc)

pub is_found : (o : Option Row) (b : Bool) → b ≡ is_some o → b ≡ true → (row : Row) × (o ≡ Some row)
is_found None b e f = absurd (cc)
is_found (Some row) b e f = (row, refl)

-- a catalogue of the same pages took none
pub catalog_taken : {old new : Space} {c c' : Catalog} → catalog.Turns old new c c' → c'.pages ≡ c.pages → HasTaken (pages_alone 0) old new
catalog_taken {c = c} {c' = c'} t same = let e : length c'.pages ≡ length c.pages = ap (λ (xs : List ℕ). length xs) same in pages_taken (pages_alone 0) (length c.pages) (length c'.pages) (t.pages).exactly t.bands (omega arith)

-- DROP
pub discard_done : {old new : Space} {s : Contents} {c : Catalog} (t : Operations) (by : TxnId) (name note : List ℕ) (root : ℕ) → IsContents old s → catalog.Turns old new s.catalog c → (a : IsBuried name by s.catalog c) → root ≡ ((a.change).row).root.0 → note ≡ note_bytes name (WasDrop root) → IsDone t by.0 name Discard (Ok Done) note old new s (record s { catalog = c })
discard_done {old} {new} {s} {c} t by name note root h turns a root_is noted_is =
    let row = (a.change).row in
    let th : Thing = thing_at s.body row in
    let under : get (reading s).things name ≡ Some th = get_thing s name ∙ ap (option_map (thing_at s.body)) (a.change).was in
    let at = root_around row.root.0 (s.body row.root.0) in
    record {
      contents = subst (λ (k : ℕ). Holds k new (record s { catalog = c }) (rows c)) (sym (kept_same turns)) (row_buried name by h turns a);
      outcome_is = ap (λ (x : Option Thing). (on t Discard (plain x)).0) under;
      effect = record {
        root = 0;
        bands = [];
        none = λ z. refl;
        leaves = record {
          thing = buried_thing name by h turns a ∙ sym (ap (λ (x : Option Thing). (let k : Change = on t Discard (plain x) in grown (done_by (reading s) by.0 name Discard 0 []) Discard (is_ok k.0) x k.1)) under);
          things = buried_others name by h turns a;
          tomb = λ r. buried_tomb name by h turns a r ∙ sym (
              ap (λ (x : Option Thing). entombed (done_by (reading s) by.0 name Discard 0 []) x r (get (reading s).tombs (r ∷ name))) under
              ∙ ap (λ (n : ℕ). (let o : Option Tomb = cond (n == r) (Some (record { dropper = by.0; thing = th })) (get (reading s).tombs (r ∷ name)) in o)) at);
          tombs = buried_tombs name by h turns a;
        };
      };
      note_is = noted_is ∙ (ap (λ (n : ℕ). note_bytes name (WasDrop n)) (root_is ∙ sym at) ∙ ap (λ (x : Option Thing). note_bytes name (noted Discard x)) (sym under));
      alone = λ e. absurd (noted_some name (WasDrop root) tt noted_is e);
      counted = λ was. counted_place was turns (a.change).rows_are refl;
      peak = peak_kept turns.catalog ∙ ap (λ (n : ℕ). max n (length (rows c))) (a.change).peak;
      taken = subst (λ (x : Option Thing). HasTaken (needed Discard x) old new) (sym under) (catalog_taken turns (a.change).pages);
    }

-- MAKE
pub array_made : {old new : Space} {root size : ℕ} → array.IsMade old new root size → BodyMade old new kinds.Array root (AnArray (empty_array size))
array_made m = record { body = m.array; pages = m.pages; bands = nothing_owned m.bands }

pub make_is : (t : Operations) (size : ℕ) → 1 ≤ size → size ≤ 256 → on t (MakeArray size) None ≡ (Ok Done, Some (AsArray (record { size = size; items = [] })))
make_is t size some few =
    let fit : (nat_le 1 size && nat_le size 256) ≡ true = grind (arith, nat_tests) in
    ap (λ (b : Bool). cond {A = Change} b (Ok Done, Some (AsArray (record { size = size; items = [] }))) (Err OutOfRange, None)) fit

pub make_accepted : (s : Contents) (name : List ℕ) (t : Operations) (size : ℕ) → there name (rows s.catalog) ≡ None → 1 ≤ size → size ≤ 256 → (on t (MakeArray size) (plain (get (reading s).things name))).0 ≡ Ok Done
make_accepted s name t size none some few = ap (λ (x : Option Thing). (on t (MakeArray size) (plain x)).0) (nothing_under s name none) ∙ ap (λ (k : Change). k.0) (make_is t size some few)

pub make_done : {old mid new : Space} {s : Contents} {c : Catalog} (t : Operations) (by : ℕ) (name note : List ℕ) (size root : ℕ) (entry : Entry) → IsContents old s → there name (rows s.catalog) ≡ None → 1 ≤ size → size ≤ 256 → array.IsMade old mid root size → catalog.Turns mid new s.catalog c → IsAdded (object name entry) s.catalog c → entry.kind ≡ kinds.Array → entry.root.0 ≡ root → note ≡ note_bytes name WasMake → IsDone t by name (MakeArray size) (Ok Done) note old new s (record { catalog = c; body = (with_body entry.root.0 (AnArray (empty_array size)) s).body })
make_done {old} {mid} {new} {s} {c} t by name note size root entry h none some few made turns a kind_is root_is noted_is =
    let m : BodyMade old mid entry.kind entry.root.0 (AnArray (empty_array size)) =
    subst (λ (r : ℕ). BodyMade old mid entry.kind r (AnArray (empty_array size))) (sym root_is) (subst (λ (k : ObjectKind). BodyMade old mid k root (AnArray (empty_array size))) (sym kind_is) (array_made made)) in
    let under = nothing_under s name none in
    object_made t by name (MakeArray size) Done note entry 2 h none m turns a (make_accepted s name t size none some few)
    (ap (λ (x : Option Thing). (let k : Change = on t (MakeArray size) (plain x) in grown (done_by (reading s) by name (MakeArray size) entry.root.0 []) (MakeArray size) (is_ok k.0) x k.1)) under
    ∙ ap (λ (k : Change). grown (done_by (reading s) by name (MakeArray size) entry.root.0 []) (MakeArray size) (is_ok k.0) None k.1) (make_is t size some few))
    (λ r. refl) refl (omega arith) refl noted_is

-- a page may be taken, and then the name be given
pub can_make : {v : View} {s : Contents} {name : List ℕ} (t : Operations) (size : ℕ) → there name (rows s.catalog) ≡ None → 1 ≤ size → size ≤ 256 → IsFresh v → HasRoomFor t v name (MakeArray size) s → HasFree v v.space.pages
can_make {v} {s} {name} t size none some few fresh room =
    let free = (room.room (ok_is _ _ (make_accepted s name t size none some few))).pages in
    record { some = (omega arith); may = fresh.may_take }

pub can_add : {v w : View} {s : Contents} {name : List ℕ} {root size : ℕ} (t : Operations) → there name (rows s.catalog) ≡ None → 1 ≤ size → size ≤ 256 → IsContents v.space s → IsFresh v → HasRoomFor t v name (MakeArray size) s → Keeps v w → array.IsMade v.space w.space root size → IsCatalog w.space.pages.at s.catalog × CanAdd w name s.catalog
can_add {v} {w} {s} {name} {root} {size} t none some few h fresh room keeps made =
    let free = (room.room (ok_is _ _ (make_accepted s name t size none some few))).pages in
    let left = (made.pages).exactly in
    may_add (AnArray (empty_array size)) none h fresh keeps (array_made made) (omega arith)

-- why no array is made
pub exists_under : (s : Contents) (name : List ℕ) (t : Operations) (size : ℕ) → (row : Row) × (there name (rows s.catalog) ≡ Some row) → (on t (MakeArray size) (plain (get (reading s).things name))).0 ≡ Err Exists
exists_under s name t size f = ap (λ (x : Option Thing). (on t (MakeArray size) (plain x)).0) (get_thing s name ∙ ap (option_map (thing_at s.body)) f.1)

pub unfit_under : (s : Contents) (name : List ℕ) (t : Operations) (size : ℕ) → there name (rows s.catalog) ≡ None → (size ≡ 0) ⊎ ((size ≡ 0 → ⊥) × (256 < size)) → (on t (MakeArray size) (plain (get (reading s).things name))).0 ≡ Err OutOfRange
unfit_under s name t size none why =
    ap (λ (x : Option Thing). (on t (MakeArray size) (plain x)).0) (nothing_under s name none)
    ∙ ap (λ (b : Bool). (cond {A = Change} b (Ok Done, Some (AsArray (record { size = size; items = [] }))) (Err OutOfRange, None)).0) (unfit why)
  where
    small : size ≡ 0 → (nat_le 1 size && nat_le size 256) ≡ false
    small e = grind (arith, nat_tests)

    great : 256 < size → (nat_le 1 size && nat_le size 256) ≡ false
    great h = grind (arith, nat_tests)

    unfit : (size ≡ 0) ⊎ ((size ≡ 0 → ⊥) × (256 < size)) → (nat_le 1 size && nat_le size 256) ≡ false
    unfit (inl e) = small e
    unfit (inr h) = great h.1
