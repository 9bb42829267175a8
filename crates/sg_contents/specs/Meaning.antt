-- What contents mean: objects with what stands around them, under their names, and tombstones.
use Rattle.std.specs.Prelude.{◌≡◌, ℕ, ◌+◌, List, [], ◌∷◌, length, map, Option, Some, None}
use Rattle.std.specs.List.{sum_by}
use Rattle.std.specs.FinMap.{from_entries}
use Rattle.sg_base.specs.declared.numbers.TxnId.{TxnId}
use Rattle.sg_model.specs.Objects.{Object, Entries}
use Rattle.sg_model.specs.Objects.Object.{Array, Table, Blob}
use Rattle.sg_reading.specs.Reading.{Around, Thing, Tomb, Reading}
use Rattle.sg_reading.specs.Reading.Thing.{There}
use Rattle.sg_array.specs.Array as array
use Rattle.sg_bucket.specs.Entry.{Entry}
use Rattle.sg_catalog.specs.Catalog.{rows}
use Rattle.sg_catalog.specs.declared.row.Row.{Row}
use Rattle.sg_hash.specs.Table.{HashTable, entries}
use Rattle.sg_hash.specs.Table as table
use Rattle.sg_space.specs.View.{Space}
use Rattle.sg_contents.specs.Standing.{Body, Contents, map_bands}
use Rattle.sg_contents.specs.Standing.Body.{AnArray, ATable, ABlob}

abbrev pub pair_of : Entry → List ℕ × List ℕ
pair_of e = (e.key, e.value)

-- the map that a table is
unfoldable pub map_of : HashTable → Entries
map_of t = from_entries (map pair_of (entries t))

abbrev pub object_of : Body → Object
object_of (AnArray a) = Array (record { size = a.size; items = a.items })
object_of (ATable t) = Table (map_of t)
object_of (ABlob b) = Blob b.bytes

abbrev pub around_of : (root : ℕ) → Body → Around
around_of root (AnArray a) = record { root = root; peak = a.peak; bands = [] }
around_of root (ATable t) = record { root = root; peak = t.peak; bands = [] }
around_of root (ABlob b) = record { root = root; peak = b.peak; bands = b.bands }

-- the object that stands at a root, with what stands around it
abbrev pub thing_of : (root : ℕ) → Body → Thing
thing_of root body = There (object_of body) (around_of root body)

abbrev pub thing_at : (ℕ → Body) → Row → Thing
thing_at body row = thing_of row.root.0 (body row.root.0)

abbrev pub tomb_at : (ℕ → Body) → TxnId → Row → Tomb
tomb_at body by row = record { dropper = by.0; thing = thing_at body row }

-- a row as a tombstone, if it is one
abbrev pub tomb_of : (ℕ → Body) → Row → Option TxnId → Option Tomb
tomb_of body row None = None
tomb_of body row (Some by) = Some (tomb_at body by row)

abbrev pub tomb_in : (ℕ → Body) → Row → Option Tomb
tomb_in body row = tomb_of body row row.dropper

abbrev pub if_object : {A : Type 0} → A → Option TxnId → List A → List A
if_object x None xs = x ∷ xs
if_object x (Some by) xs = xs

abbrev pub if_tomb : {A : Type 0} → (TxnId → A) → Option TxnId → List A → List A
if_tomb x None xs = xs
if_tomb x (Some by) xs = x by ∷ xs

-- the objects among some rows, under their names
abbrev pub things_of : (ℕ → Body) → List Row → List (List ℕ × Thing)
things_of body [] = []
things_of body (row ∷ xs) = if_object (row.name, thing_at body row) row.dropper (things_of body xs)

-- the tombstones, under their roots with their names behind
abbrev pub tombs_of : (ℕ → Body) → List Row → List (List ℕ × Tomb)
tombs_of body [] = []
tombs_of body (row ∷ xs) = if_tomb (λ by. (row.root.0 ∷ row.name, tomb_at body by row)) row.dropper (tombs_of body xs)

-- How much is taken

abbrev pub pages_in : Body → ℕ
pages_in (AnArray a) = array.page_count a
pages_in (ATable t) = table.page_count t
pages_in (ABlob b) = 1

abbrev pub bands_in : Body → ℕ
bands_in (AnArray a) = 0
bands_in (ATable t) = 0
bands_in (ABlob b) = length b.bands

abbrev pub page_total : Contents → ℕ
page_total s = length s.catalog.pages + sum_by (λ (row : Row). pages_in (s.body row.root.0)) (rows s.catalog)

abbrev pub band_total : Contents → ℕ
band_total s = sum_by (λ (row : Row). bands_in (s.body row.root.0)) (rows s.catalog)

-- THE READING that contents mean
unfoldable pub reading : Contents → Reading
reading s = record {
  things = from_entries (things_of s.body (rows s.catalog));
  tombs = from_entries (tombs_of s.body (rows s.catalog));
  peak = s.catalog.peak;
  pages = page_total s;
}

-- what isn't free is what the contents have, and the map's bands
pub record IsCounted (space : Space) (s : Contents) : Type 0 where
  pub pages : space.pages.free + page_total s ≡ space.pages.count
  pub bands : space.bands.free + (map_bands space + band_total s) ≡ space.bands.count
