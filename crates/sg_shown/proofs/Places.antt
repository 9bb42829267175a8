-- The pages alone say where a catalogue and its objects lie, and in how many pages and bands.
use Rattle.std.proofs.Common.{◌≡◌, ℕ, ◌+◌, inl, inr, List, [], ◌∷◌, length, slice_get, Option, Some, None, option_map, refl, sym, ap, ◌∙◌, subst, arith}
use Rattle.std.specs.List.{sum_by}
use Rattle.std.proofs.lemmas.List.Sums.{sum_by-cons}
use Rattle.sg_base.specs.Sheet.{Sheet}
use Rattle.sg_array.specs.Array.{Array}
use Rattle.sg_blob.specs.Blob.{Blob, IsBlob}
use Rattle.sg_catalog.specs.Catalog.{Catalog, IsCatalog, rows}
use Rattle.sg_catalog.specs.declared.row.ObjectKind.{ObjectKind}
use Rattle.sg_catalog.specs.declared.row.ObjectKind.TheVariants as kinds
use Rattle.sg_catalog.specs.declared.row.Row.{Row}
use Rattle.sg_hash.specs.Table.{HashTable}
use Rattle.sg_once.proofs.Arrays.{one_array}
use Rattle.sg_once.proofs.Others.{one_catalog}
use Rattle.sg_once.proofs.Pages.{same_lists, both_at, same_link}
use Rattle.sg_space.specs.View.{Space}
use Rattle.sg_contents.specs.Standing.{Body, Contents, IsBody, OwnsPage, OwnsBand, IsAmong, IsContents, IsReachedPage, IsReachedBand}
use Rattle.sg_contents.specs.Standing.Body.{AnArray, ATable, ABlob}
use Rattle.sg_contents.specs.Limits.{size_in, or_else, size_among, items_for, limit_of, kind_at, limit}
use Rattle.sg_contents.specs.Meaning.{pages_in, bands_in, page_total, band_total}
use Rattle.sg_reader.proofs.Once.{one_table}

-- A root's page says which bands a blob has
blob_bands : {at : ℕ → Option Sheet} {bands bands' : ℕ → Option (List ℕ)} {root : ℕ} {b c : Blob} → IsBlob at bands root b → IsBlob at bands' root c → b.bands ≡ c.bands
blob_bands {at} {bands} {bands'} {root} {b} {c} h k =
    let two = both_at h.raw.first k.raw.first in
    same_lists b.bands c.bands (λ j. same_link (slice_get b.bands j) (slice_get c.bands j) (h.raw.fit j) (k.raw.fit j) (sym (two.1.links j) ∙ two.2.links j))

-- Two bodies that lie in the same pages and bands
abbrev LieAlike : Body → Body → Type 0
LieAlike (AnArray a) (AnArray b) = a ≡ b
LieAlike (ATable a) (ATable b) = a ≡ b
LieAlike (ABlob a) (ABlob b) = a.bands ≡ b.bands
LieAlike other body = ⊥

lie_alike : (x y : Space) (kind : ObjectKind) (root : ℕ) (a b : Body) → x.pages.at ≡ y.pages.at → IsBody x kind root a → IsBody y kind root b → LieAlike a b
lie_alike x y kinds.Array root (AnArray a) (AnArray b) e h k = one_array (subst (λ (at : ℕ → Option Sheet). Rattle.sg_array.specs.Array.IsArray at root a) e h) k
lie_alike x y kinds.Table root (ATable a) (ATable b) e h k = one_table (subst (λ (at : ℕ → Option Sheet). Rattle.sg_hash.specs.Table.IsHashTable at root a) e h.table) k.table
lie_alike x y kinds.Blob root (ABlob a) (ABlob b) e h k = blob_bands (subst (λ (at : ℕ → Option Sheet). IsBlob at x.bands.at root a) e h) k
lie_alike x y kinds.Array root (AnArray a) (ATable b) e h k = k
lie_alike x y kinds.Array root (AnArray a) (ABlob b) e h k = k
lie_alike x y kinds.Table root (ATable a) (AnArray b) e h k = k
lie_alike x y kinds.Table root (ATable a) (ABlob b) e h k = k
lie_alike x y kinds.Blob root (ABlob a) (AnArray b) e h k = k
lie_alike x y kinds.Blob root (ABlob a) (ATable b) e h k = k
lie_alike x y kinds.Array root (ATable a) b e h k = absurd h
lie_alike x y kinds.Array root (ABlob a) b e h k = absurd h
lie_alike x y kinds.Table root (AnArray a) b e h k = absurd h
lie_alike x y kinds.Table root (ABlob a) b e h k = absurd h
lie_alike x y kinds.Blob root (AnArray a) b e h k = absurd h
lie_alike x y kinds.Blob root (ATable a) b e h k = absurd h

page_of : (root : ℕ) (a b : Body) → LieAlike a b → (p : ℕ) → OwnsPage root b p → OwnsPage root a p
page_of root (AnArray a) (AnArray b) e p o = subst (λ (z : Array). OwnsPage root (AnArray z) p) (sym e) o
page_of root (ATable a) (ATable b) e p o = subst (λ (z : HashTable). OwnsPage root (ATable z) p) (sym e) o
page_of root (ABlob a) (ABlob b) e p o = o
page_of root (AnArray a) (ATable b) e p o = absurd e
page_of root (AnArray a) (ABlob b) e p o = absurd e
page_of root (ATable a) (AnArray b) e p o = absurd e
page_of root (ATable a) (ABlob b) e p o = absurd e
page_of root (ABlob a) (AnArray b) e p o = absurd e
page_of root (ABlob a) (ATable b) e p o = absurd e

band_of : (a b : Body) → LieAlike a b → (n : ℕ) → OwnsBand b n → OwnsBand a n
band_of (AnArray a) (AnArray b) e n o = o
band_of (ATable a) (ATable b) e n o = o
band_of (ABlob a) (ABlob b) e n o = subst (λ (bs : List ℕ). Rattle.sg_blob.specs.Blob.OwnsBand bs n) (sym e) o
band_of (AnArray a) (ATable b) e n o = absurd e
band_of (AnArray a) (ABlob b) e n o = absurd e
band_of (ATable a) (AnArray b) e n o = absurd e
band_of (ATable a) (ABlob b) e n o = absurd e
band_of (ABlob a) (AnArray b) e n o = absurd e
band_of (ABlob a) (ATable b) e n o = absurd e

pages_are : (a b : Body) → LieAlike a b → pages_in b ≡ pages_in a
pages_are (AnArray a) (AnArray b) e = ap (λ (z : Array). pages_in (AnArray z)) (sym e)
pages_are (ATable a) (ATable b) e = ap (λ (z : HashTable). pages_in (ATable z)) (sym e)
pages_are (ABlob a) (ABlob b) e = refl
pages_are (AnArray a) (ATable b) e = absurd e
pages_are (AnArray a) (ABlob b) e = absurd e
pages_are (ATable a) (AnArray b) e = absurd e
pages_are (ATable a) (ABlob b) e = absurd e
pages_are (ABlob a) (AnArray b) e = absurd e
pages_are (ABlob a) (ATable b) e = absurd e

bands_are : (a b : Body) → LieAlike a b → bands_in b ≡ bands_in a
bands_are (AnArray a) (AnArray b) e = refl
bands_are (ATable a) (ATable b) e = refl
bands_are (ABlob a) (ABlob b) e = ap length (sym e)
bands_are (AnArray a) (ATable b) e = absurd e
bands_are (AnArray a) (ABlob b) e = absurd e
bands_are (ATable a) (AnArray b) e = absurd e
bands_are (ATable a) (ABlob b) e = absurd e
bands_are (ABlob a) (AnArray b) e = absurd e
bands_are (ABlob a) (ATable b) e = absurd e

-- an item page is of an array of the same size
sizes_are : (page : ℕ) (a b : Body) → LieAlike a b → size_in b page ≡ size_in a page
sizes_are page (AnArray a) (AnArray b) e = ap (λ (z : Array). size_in (AnArray z) page) (sym e)
sizes_are page (ATable a) (ATable b) e = ap (λ (z : HashTable). size_in (ATable z) page) (sym e)
sizes_are page (ABlob a) (ABlob b) e = refl
sizes_are page (AnArray a) (ATable b) e = absurd e
sizes_are page (AnArray a) (ABlob b) e = absurd e
sizes_are page (ATable a) (AnArray b) e = absurd e
sizes_are page (ATable a) (ABlob b) e = absurd e
sizes_are page (ABlob a) (AnArray b) e = absurd e
sizes_are page (ABlob a) (ATable b) e = absurd e

sizes_among : (f g : ℕ → Body) (page : ℕ) (xs : List Row) → ((row : Row) → IsAmong xs row → size_in (f row.root.0) page ≡ size_in (g row.root.0) page)
    → size_among f xs page ≡ size_among g xs page
sizes_among f g page [] h = refl
sizes_among f g page (row ∷ xs) h = λ i. or_else (h row (inl refl) i) (sizes_among f g page xs (λ r a. h r (inr a)) i)

sums_are : (f g : Row → ℕ) (xs : List Row) → ((row : Row) → IsAmong xs row → f row ≡ g row) → sum_by f xs ≡ sum_by g xs
sums_are f g [] h = refl
sums_are f g (row ∷ xs) h = sum_by-cons f row xs ∙ ((λ i. h row (inl refl) i + sums_are f g xs (λ r a. h r (inr a)) i) ∙ sym (sum_by-cons g row xs))

-- CONTENTS OF THE SAME PAGES, over whatever bands, lie alike
module _ (x y : Space) (s s' : Contents) (h : IsContents x s) (k : IsContents y s') (same : x.pages.at ≡ y.pages.at) where
  catalogs : s.catalog ≡ s'.catalog
  catalogs = one_catalog (subst (λ (at : ℕ → Option Sheet). IsCatalog at s.catalog) same h.catalog) k.catalog

  among : (row : Row) → IsAmong (rows s'.catalog) row → IsAmong (rows s.catalog) row
  among row a = subst (λ (c : Catalog). IsAmong (rows c) row) (sym catalogs) a

  alike : (row : Row) → IsAmong (rows s'.catalog) row → LieAlike (s.body row.root.0) (s'.body row.root.0)
  alike row a = lie_alike x y row.kind row.root.0 (s.body row.root.0) (s'.body row.root.0) same (h.body row (among row a)) (k.body row a)

  pub reached_page_too : (p : ℕ) → IsReachedPage s' p → IsReachedPage s p
  reached_page_too p (inl o) = inl (subst (λ (c : Catalog). Rattle.sg_catalog.specs.Catalog.Owns c p) (sym catalogs) o)
  reached_page_too p (inr o) = inr (record { row = o.row; among = among o.row o.among; is = page_of o.row.root.0 (s.body o.row.root.0) (s'.body o.row.root.0) (alike o.row o.among) p o.is })

  pub reached_band_too : (n : ℕ) → IsReachedBand s' n → IsReachedBand s n
  reached_band_too n o = record { row = o.row; among = among o.row o.among; is = band_of (s.body o.row.root.0) (s'.body o.row.root.0) (alike o.row o.among) n o.is }

  pub page_totals : page_total s' ≡ page_total s
  page_totals =
      (λ i. length (sym catalogs i).pages + sums_are (λ (row : Row). pages_in (s'.body row.root.0)) (λ (row : Row). pages_in (s.body row.root.0)) (rows s'.catalog)
      (λ row a. pages_are (s.body row.root.0) (s'.body row.root.0) (alike row a)) i)
      ∙ ap (λ (c : Catalog). length s.catalog.pages + sum_by (λ (row : Row). pages_in (s.body row.root.0)) (rows c)) (sym catalogs)

  pub band_totals : band_total s' ≡ band_total s
  band_totals =
      sums_are (λ (row : Row). bands_in (s'.body row.root.0)) (λ (row : Row). bands_in (s.body row.root.0)) (rows s'.catalog) (λ row a. bands_are (s.body row.root.0) (s'.body row.root.0) (alike row a))
      ∙ ap (λ (c : Catalog). sum_by (λ (row : Row). bands_in (s.body row.root.0)) (rows c)) (sym catalogs)

  -- so a page may have as many slots
  pub same_limit : (at : ℕ → Option Sheet) (page : ℕ) → limit s' at page ≡ limit s at page
  same_limit at page = ap (λ (o : Option ℕ). limit_of (kind_at (at page)) (items_for o)) (
      sizes_among s'.body s.body page (rows s'.catalog) (λ row a. sizes_are page (s.body row.root.0) (s'.body row.root.0) (alike row a))
      ∙ ap (λ (c : Catalog). size_among s.body (rows c) page) (sym catalogs)
      )
