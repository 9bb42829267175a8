-- WHAT STANDS IN PAGES AND BANDS: the catalogue, and an array, a table or a blob at each root that it names.
use Rattle.std.specs.Prelude.{◌≡◌, ◌≢◌, ℕ, ◌<◌, ◌≤◌, ◌==◌, ◌⊎◌, Bool, List, [], ◌∷◌, Option, None}
use Rattle.std.specs.List.{count_by}
use Rattle.sg_alloc.specs.Flags.{map_bands_of}
use Rattle.sg_base.specs.Sheet.{Sheet}
use Rattle.sg_space.specs.View.{View, Space}
use Rattle.sg_catalog.specs.Catalog.{Catalog, IsCatalog, rows}
use Rattle.sg_catalog.specs.Catalog as listing
use Rattle.sg_catalog.specs.declared.row.ObjectKind.{ObjectKind}
use Rattle.sg_catalog.specs.declared.row.ObjectKind.TheVariants as kinds
use Rattle.sg_catalog.specs.declared.row.Row.{Row}
use Rattle.sg_array.specs.Array.{Array, IsArray}
use Rattle.sg_array.specs.Array as array
use Rattle.sg_hash.specs.Table.{HashTable, IsHashTable, value_at}
use Rattle.sg_hash.specs.Table as table
use Rattle.sg_blob.specs.Blob.{Blob, IsBlob}
use Rattle.sg_blob.specs.Blob as blob

-- an array, a table or a blob, with the numbers of its pages and bands
pub data Body : Type 0 where
  AnArray : (array : Array) → Body
  ATable : (table : HashTable) → Body
  ABlob : (blob : Blob) → Body

-- the catalogue, and what stands at each root
pub record Contents : Type 0 where
  pub catalog : Catalog
  pub body : (root : ℕ) → Body

-- a table's keys have at least one byte; the rest of their limits is in `IsHashTable`
pub record IsTable (at : ℕ → Option Sheet) (root : ℕ) (t : HashTable) : Type 0 where
  pub table : IsHashTable at root t
  pub no_empty_key : value_at t [] ≡ None

-- the body is of this kind, and stands at this root
abbrev pub IsBody : Space → ObjectKind → (root : ℕ) → Body → Type 0
IsBody space kinds.Array root (AnArray a) = IsArray space.pages.at root a
IsBody space kinds.Table root (ATable t) = IsTable space.pages.at root t
IsBody space kinds.Blob root (ABlob b) = IsBlob space.pages.at space.bands.at root b
IsBody space kind root body = ⊥

-- the page is one of the body's
abbrev pub OwnsPage : (root : ℕ) → Body → (page : ℕ) → Type 0
OwnsPage root (AnArray a) page = array.Owns root a page
OwnsPage root (ATable t) page = table.Owns root t page
OwnsPage root (ABlob b) page = blob.OwnsPage root page

-- the band is
abbrev pub OwnsBand : Body → (band : ℕ) → Type 0
OwnsBand (AnArray a) band = ⊥
OwnsBand (ATable t) band = ⊥
OwnsBand (ABlob b) band = blob.OwnsBand b.bands band

-- the row is one of these
abbrev pub IsAmong : List Row → Row → Type 0
IsAmong [] row = ⊥
IsAmong (x ∷ xs) row = (row ≡ x) ⊎ IsAmong xs row

-- the row names this root
abbrev pub is_at : ℕ → Row → Bool
is_at root row = row.root.0 == root

-- the bands of the allocation map, which are the first
abbrev pub map_bands : Space → ℕ
map_bands space = map_bands_of space.pages.count space.bands.count

-- The catalogue stands there, and a body at the root of each of these rows; no page and no band is reached twice. The first
-- `kept` bands are the allocation map's.
pub record Holds (kept : ℕ) (space : Space) (s : Contents) (xs : List Row) : Type 0 where
  pub catalog : IsCatalog space.pages.at s.catalog
  pub body : (row : Row) → IsAmong xs row → IsBody space row.kind row.root.0 (s.body row.root.0)
  -- no two rows name one root
  pub once : (root : ℕ) → count_by (is_at root) xs ≤ 1
  -- no page is the catalogue's and a body's
  pub beside : (row : Row) → IsAmong xs row → (page : ℕ) → OwnsPage row.root.0 (s.body row.root.0) page → ¬ listing.Owns s.catalog page
  -- no page, and no band, is of two bodies
  pub apart : (row other : Row) → IsAmong xs row → IsAmong xs other → row.root.0 ≢ other.root.0 → (page : ℕ) → OwnsPage row.root.0 (s.body row.root.0) page → ¬ OwnsPage other.root.0 (s.body other.root.0) page
  pub bands_apart : (row other : Row) → IsAmong xs row → IsAmong xs other → row.root.0 ≢ other.root.0 → (band : ℕ) → OwnsBand (s.body row.root.0) band → ¬ OwnsBand (s.body other.root.0) band
  -- no band of a body is one of the map's
  pub behind_map : (row : Row) → IsAmong xs row → (band : ℕ) → OwnsBand (s.body row.root.0) band → kept ≤ band
  -- and the map's bands are taken
  pub map : (band : ℕ) → band < kept → space.bands.at band ≡ None → ⊥

-- THE PAGES AND BANDS READ AS THIS: objects and tombstones, each at its root
abbrev pub IsContents : Space → Contents → Type 0
IsContents space s = Holds (map_bands space) space s (rows s.catalog)

-- a page, and a band, is reached from the catalogue
pub record IsReachedFrom (owns : Row → ℕ → Type 0) (xs : List Row) (n : ℕ) : Type 0 where
  pub row : Row
  pub among : IsAmong xs row
  pub is : owns row n

abbrev pub IsReachedPage : Contents → ℕ → Type 0
IsReachedPage s page = listing.Owns s.catalog page ⊎ IsReachedFrom (λ row p. OwnsPage row.root.0 (s.body row.root.0) p) (rows s.catalog) page

abbrev pub IsReachedBand : Contents → ℕ → Type 0
IsReachedBand s band = IsReachedFrom (λ row b. OwnsBand (s.body row.root.0) b) (rows s.catalog) band

-- NOTHING IS TAKEN THAT ISN'T REACHED, but for the bands of the map
pub record NoneIsLost (space : Space) (s : Contents) : Type 0 where
  pub pages : (page : ℕ) → ¬ IsReachedPage s page → space.pages.at page ≡ None
  pub bands : (band : ℕ) → map_bands space ≤ band → ¬ IsReachedBand s band → space.bands.at band ≡ None

-- what is reached is below these numbers of pages and of bands. On a space that is told it is, since what is reached is taken
pub record AreInRange (pages bands : ℕ) (s : Contents) : Type 0 where
  pub page : (page : ℕ) → IsReachedPage s page → page < pages
  pub band : (band : ℕ) → IsReachedBand s band → band < bands

-- there are contents, and they have this property
abbrev pub HasContents : View → (Contents → Type 0) → Type 0
HasContents v P = v.Told → (s : Contents) × IsContents v.space s × P s

-- where the space shows contents, they have this property
abbrev pub IfContents : View → (Contents → Type 0) → Type 0
IfContents v P = v.Shows → (s : Contents) → IsContents v.space s → P s
