-- What contents mean under each name.
use Rattle.std.proofs.Common.{◌≡◌, ℕ, ◌==◌, ◌&&◌, Bool, true, false, cond, List, [], ◌∷◌, map, Option, Some, None, option_map, is_some, is_none, refl, sym, ap, ◌∙◌}
use Rattle.std.specs.Prelude.{option_and_then}
use Rattle.std.specs.List.{find}
use Rattle.std.specs.Str.{bytes_eq}
use Rattle.std.specs.Ordering.{nat_cmp}
use Rattle.std.specs.Cmp.Lexicographic.{slice_cmp, nat_list_cmp_total}
use Rattle.std.specs.FinMap.{get, get-from_entries}
use Rattle.std.specs.FinMap as finmap
use Rattle.sg_base.specs.declared.numbers.TxnId.{TxnId}
use Rattle.sg_model.proofs.Parts.{tied}
use Rattle.sg_bucket.specs.Entry.{Entry, value_of}
use Rattle.sg_hash.specs.Table.{HashTable, entries, value_at}
use Rattle.sg_catalog.specs.Catalog.{rows, there, is_tomb_of}
use Rattle.sg_catalog.specs.declared.row.Row.{Row}
use Rattle.sg_reading.specs.Reading.{Thing, Tomb}
use Rattle.sg_contents.specs.Standing.{Body, Contents}
pub use Rattle.sg_contents.specs.Meaning.{tomb_of, tomb_in}
use Rattle.sg_contents.specs.Meaning.{pair_of, map_of, thing_at, tomb_at, if_object, if_tomb, things_of, tombs_of, reading}

-- A TABLE: the map has what the table maps a key to
pub find_pair : (es : List Entry) (key : List ℕ) → finmap.find (slice_cmp nat_cmp) key (map pair_of es) ≡ value_of es key
find_pair [] key = refl
find_pair (e ∷ es) key = ap (λ (t : Bool). cond t (Some e.value) (finmap.find (slice_cmp nat_cmp) key (map pair_of es))) (tied key e.key) ∙ ap (λ (o : Option (List ℕ)). cond (bytes_eq e.key key) (Some e.value) o) (find_pair es key)

pub get_map : (t : HashTable) (key : List ℕ) → get (map_of t) key ≡ value_at t key
unfolding map_of
get_map t key = get-from_entries nat_list_cmp_total (map pair_of (entries t)) key ∙ find_pair (entries t) key

-- THINGS: under each name that of its row
find_thing : (body : ℕ → Body) (xs : List Row) (name : List ℕ) → finmap.find (slice_cmp nat_cmp) name (things_of body xs) ≡ option_map (thing_at body) (there name xs)
find_thing body [] name = refl
find_thing body (row ∷ xs) name = by (find_thing body xs name) row.dropper
  where
    mapped : (t : Bool) → cond t (Some (thing_at body row)) (option_map (thing_at body) (there name xs)) ≡ option_map (thing_at body) (cond t (Some row) (there name xs))
    mapped true = refl
    mapped false = refl

    by : finmap.find (slice_cmp nat_cmp) name (things_of body xs) ≡ option_map (thing_at body) (there name xs) → (d : Option TxnId) → finmap.find (slice_cmp nat_cmp) name (if_object (row.name, thing_at body row) d (things_of body xs)) ≡ option_map (thing_at body) (cond (is_none d && bytes_eq row.name name) (Some row) (there name xs))
    by rest None =
        ap (λ (t : Bool). cond t (Some (thing_at body row)) (finmap.find (slice_cmp nat_cmp) name (things_of body xs))) (tied name row.name)
        ∙ (ap (λ (o : Option Thing). cond (bytes_eq row.name name) (Some (thing_at body row)) o) rest
        ∙ mapped (bytes_eq row.name name))
    by rest (Some d) = rest

pub get_thing : (s : Contents) (name : List ℕ) → get (reading s).things name ≡ option_map (thing_at s.body) (there name (rows s.catalog))
unfolding reading
get_thing s name = get-from_entries nat_list_cmp_total (things_of s.body (rows s.catalog)) name ∙ find_thing s.body (rows s.catalog) name

-- TOMBSTONES: under each root and name that of its row
find_tomb : (body : ℕ → Body) (xs : List Row) (root : ℕ) (name : List ℕ) → finmap.find (slice_cmp nat_cmp) (root ∷ name) (tombs_of body xs) ≡ option_and_then (tomb_in body) (find (is_tomb_of name root) xs)
find_tomb body [] root name = refl
find_tomb body (row ∷ xs) root name = by (find_tomb body xs root name) row.dropper refl
  where
    pick : (t : Bool) (d : TxnId) → row.dropper ≡ Some d → cond t (Some (tomb_at body d row)) (option_and_then (tomb_in body) (find (is_tomb_of name root) xs)) ≡ option_and_then (tomb_in body) (cond t (Some row) (find (is_tomb_of name root) xs))
    pick true d e = sym (ap (tomb_of body row) e)
    pick false d e = refl

    by : finmap.find (slice_cmp nat_cmp) (root ∷ name) (tombs_of body xs) ≡ option_and_then (tomb_in body) (find (is_tomb_of name root) xs) → (d : Option TxnId) → row.dropper ≡ d → finmap.find (slice_cmp nat_cmp) (root ∷ name) (if_tomb (λ by. (row.root.0 ∷ row.name, tomb_at body by row)) d (tombs_of body xs)) ≡ option_and_then (tomb_in body) (cond ((is_some d && (row.root.0 == root)) && bytes_eq row.name name) (Some row) (find (is_tomb_of name root) xs))
    by rest None e = rest
    by rest (Some d) e =
        ap (λ (t : Bool). cond t (Some (tomb_at body d row)) (finmap.find (slice_cmp nat_cmp) (root ∷ name) (tombs_of body xs))) (tied (root ∷ name) (row.root.0 ∷ row.name))
        ∙ (ap (λ (o : Option Tomb). cond ((row.root.0 == root) && bytes_eq row.name name) (Some (tomb_at body d row)) o) rest
        ∙ pick ((row.root.0 == root) && bytes_eq row.name name) d e)

pub get_tomb : (s : Contents) (root : ℕ) (name : List ℕ) → get (reading s).tombs (root ∷ name) ≡ option_and_then (tomb_in s.body) (find (is_tomb_of name root) (rows s.catalog))
unfolding reading
get_tomb s root name = get-from_entries nat_list_cmp_total (tombs_of s.body (rows s.catalog)) (root ∷ name) ∙ find_tomb s.body (rows s.catalog) root name
