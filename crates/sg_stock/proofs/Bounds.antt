-- How much room one object has.
use Rattle.std.proofs.Common.{◌≡◌, ℕ, ◌≤◌, length, List, Option, sym, refl, arith, subst}
use Rattle.std.specs.FinMap.{len}
use Rattle.sg_array.specs.Array.{Array, IsArray, per_page, rounded_up, pages_for}
use Rattle.sg_array.specs.Array as array
use Rattle.sg_array.proofs.Wanting.{rounded_is, leaves_wanted, index_wanted}
use Rattle.sg_base.specs.Sheet.{Sheet}
use Rattle.sg_blob.specs.Blob.{Blob, IsBlob}
use Rattle.sg_catalog.specs.declared.row.ObjectKind.{ObjectKind}
use Rattle.sg_catalog.specs.declared.row.ObjectKind.TheVariants as kind
use Rattle.sg_hash.specs.Table.{HashTable, most_pages}
use Rattle.sg_hash.specs.Table as table
use Rattle.sg_hash.proofs.Bounds.{bound}
use Rattle.sg_space.specs.View.{Space}
use Rattle.sg_contents.specs.Standing.{Body, IsBody}
use Rattle.sg_contents.specs.Standing.Body.{AnArray, ATable, ABlob}
use Rattle.sg_contents.specs.Meaning.{pages_in, bands_in, thing_of, map_of}
use Rattle.sg_room.specs.Bounds.{page_bound, band_bound}
use Rattle.sg_stock.specs.Laws.{extent_in}
use Rattle.sg_stock.proofs.Apart.{len_map}

-- an array has exactly its bound
array_exact : {at : ℕ → Option Sheet} {root : ℕ} (a : Array) → IsArray at root a → array.page_count a ≡ pages_for a.size a.peak
array_exact a h =
    let leaves : length a.leaves ≡ rounded_up a.peak (per_page a.size) = leaves_wanted h refl refl refl in
    let index : length a.index ≡ rounded_up (rounded_up a.peak (per_page a.size)) 509 = index_wanted h leaves refl in
    omega arith

-- a blob has exactly its bands
blob_exact : {pages : ℕ → Option Sheet} {bands : ℕ → Option (List ℕ)} {root : ℕ} (b : Blob) → IsBlob pages bands root b
    → length b.bands ≡ rounded_up b.peak 32768
blob_exact b h = sym (rounded_is b.peak 32768 (length b.bands) (omega arith) h.least h.most)

table_bound : {at : ℕ → Option Sheet} {root : ℕ} (t : HashTable) → table.IsHashTable at root t
    → table.page_count t ≤ most_pages t.peak (len (map_of t))
table_bound t h = subst (λ n. table.page_count t ≤ most_pages t.peak n) (sym (len_map t h)) (bound h)

pub body_bound : (s : Space) (k : ObjectKind) (root : ℕ) (b : Body) → IsBody s k root b → pages_in b ≤ page_bound (extent_in (thing_of root b))
body_bound s kind.Array root (AnArray a) h = let e = array_exact a h in omega arith
body_bound s kind.Table root (ATable t) h = table_bound t h.table
body_bound s kind.Blob root (ABlob b) h = omega arith
body_bound s kind.Array root (ATable t) h = absurd h
body_bound s kind.Array root (ABlob b) h = absurd h
body_bound s kind.Table root (AnArray a) h = absurd h
body_bound s kind.Table root (ABlob b) h = absurd h
body_bound s kind.Blob root (AnArray a) h = absurd h
body_bound s kind.Blob root (ATable t) h = absurd h

pub body_bands : (s : Space) (k : ObjectKind) (root : ℕ) (b : Body) → IsBody s k root b → bands_in b ≡ band_bound (extent_in (thing_of root b))
body_bands s kind.Array root (AnArray a) h = refl
body_bands s kind.Table root (ATable t) h = refl
body_bands s kind.Blob root (ABlob b) h = blob_exact b h
body_bands s kind.Array root (ATable t) h = absurd h
body_bands s kind.Array root (ABlob b) h = absurd h
body_bands s kind.Table root (AnArray a) h = absurd h
body_bands s kind.Table root (ABlob b) h = absurd h
body_bands s kind.Blob root (AnArray a) h = absurd h
body_bands s kind.Blob root (ATable t) h = absurd h
