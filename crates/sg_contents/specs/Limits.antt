-- HOW MANY SLOTS A PAGE MAY HAVE, by what it is. The empty slots that a page has behind its last cell take room, and nobody sees
-- them; so an action that is taken off must leave no more of them than any reader of the page allows.
use Rattle.std.specs.Prelude.{◌≡◌, ℕ, ◌==◌, if◌then◌else◌, List, [], ◌∷◌, Option, Some, None, slice_get}
use Rattle.std.specs.List.{list_any}
use Rattle.sg_base.specs.Sheet.{Sheet}
use Rattle.sg_array.specs.Array.{Array, per_page}
use Rattle.sg_catalog.specs.Catalog.{rows}
use Rattle.sg_hash.specs.Table.{HashTable, IsInBuckets}
use Rattle.sg_catalog.specs.declared.row.Row.{Row}
use Rattle.sg_contents.specs.Standing.{Body, Contents}
use Rattle.sg_contents.specs.Standing.Body.{AnArray, ATable, ABlob}

-- the item size of the array that has this item page: the body itself, or the directory of a table
abbrev pub size_in : Body → (page : ℕ) → Option ℕ
size_in (AnArray a) page = if list_any (λ p. p == page) a.leaves then Some a.size else None
size_in (ATable t) page = if list_any (λ p. p == page) t.names.leaves then Some t.names.size else None
size_in (ABlob b) page = None

abbrev pub or_else : Option ℕ → Option ℕ → Option ℕ
or_else None other = other
or_else (Some n) other = Some n

abbrev pub size_among : (ℕ → Body) → List Row → (page : ℕ) → Option ℕ
size_among body [] page = None
size_among body (row ∷ xs) page = or_else (size_in (body row.root.0) page) (size_among body xs page)

-- as many items as a page has room for; of a page that no array has, as many slots as any page has room for
abbrev pub items_for : Option ℕ → ℕ
items_for None = 1018
items_for (Some size) = per_page size

-- a page of the catalogue, an array's root, index page and item page, a table's root, a bucket's page, a blob's root. A bucket's
-- page, and a page that isn't reached, may have as many as there is room for
abbrev pub limit_of : (kind items : ℕ) → ℕ
limit_of kind items =
    if kind == 1 then 79
    else (if kind == 2 then 139
    else (if kind == 3 then 509
    else (if kind == 4 then items
    else (if kind == 5 then 1
    else (if kind == 7 then 501
    else 1018)))))

abbrev pub kind_at : Option Sheet → ℕ
kind_at None = 0
kind_at (Some sheet) = sheet.kind

-- THE LIMIT of a page, in contents of which each page says this
abbrev pub limit : Contents → (ℕ → Option Sheet) → (page : ℕ) → ℕ
limit s at page = limit_of (kind_at (at page)) (items_for (size_among s.body (rows s.catalog) page))

-- it is one of a list
abbrev pub IsIn : List ℕ → ℕ → Type 0
IsIn ns n = (j : ℕ) × (slice_get ns j ≡ Some n)

-- the limits of an array's pages
pub record ArrayLimits (limit : ℕ → ℕ) (root : ℕ) (a : Array) : Type 0 where
  pub first : limit root ≡ 139
  pub index : (p : ℕ) → IsIn a.index p → limit p ≡ 509
  pub leaf : (p : ℕ) → IsIn a.leaves p → limit p ≡ per_page a.size

-- of a table's
pub record TableLimits (limit : ℕ → ℕ) (root : ℕ) (t : HashTable) : Type 0 where
  pub first : limit root ≡ 1
  pub names : ArrayLimits limit t.directory t.names
  pub buckets : (p : ℕ) → IsInBuckets t.buckets p → limit p ≡ 1018

-- and of a body's
abbrev pub BodyLimits : (limit : ℕ → ℕ) (root : ℕ) → Body → Type 0
BodyLimits limit root (AnArray a) = ArrayLimits limit root a
BodyLimits limit root (ATable t) = TableLimits limit root t
BodyLimits limit root (ABlob b) = limit root ≡ 501
