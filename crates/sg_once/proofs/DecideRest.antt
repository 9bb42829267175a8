-- Whether a catalogue, and whether a blob, stands in some pages and bands is decided.
use Rattle.std.proofs.Common.{◌≡◌, ℕ, zero, suc, ◌+◌, ◌-◌, ◌*◌, ◌/◌, ◌%◌, ◌<◌, ◌≤◌, ◌^◌, ◌&&◌, ◌⊎◌, inl, inr, Bool, true, false, List, [], ◌∷◌, length, drop, slice_get, slice_index, get_or, Option, Some, None, option_map, is_none, refl, sym, ap, ◌∙◌, subst, arith}
use Rattle.std.specs.List.{count_by}
use Rattle.std.specs.Str.{bytes_eq}
use Rattle.std.proofs.lemmas.Option.{slice_get-get_or}
use Rattle.std.proofs.lemmas.Bool.{cases_lt}
use Rattle.std.proofs.lemmas.Slice.Eq.{bytes_eq-Decides}
use Rattle.byteorder.specs.Endian.{little_bytes, little_number}
use Rattle.byteorder.specs.Numbers.{little_number-reads_back}
use Rattle.sg_base.specs.Page.{cell_in}
use Rattle.sg_base.specs.Sheet.{Sheet}
use Rattle.sg_base.specs.Slots.{cell_bytes}
use Rattle.sg_base.specs.Spelling.{is_name}
use Rattle.sg_space.specs.Links.{link_cell}
use Rattle.sg_space.specs.Units.{HasAt}
use Rattle.sg_space.proofs.Few.{few_elements}
use Rattle.sg_catalog.specs.Catalog.{Catalog, IsCatalog, IsRaw, IsPage, SaysPeak, rows, row_at, is_there}
use Rattle.sg_catalog.specs.Row.{row_cell, row_of, dropper_of, IsFormed}
use Rattle.sg_catalog.specs.declared.row.Row.{Row}
use Rattle.sg_catalog.proofs.Bytes.{row_back}
use Rattle.sg_blob.specs.Blob.{Blob, IsBlob, raw_of}
use Rattle.sg_blob.specs.Raw as raw
use Rattle.sg_once.specs.Claims.{CatalogBelow}
use Rattle.sg_once.proofs.Pages.{none_behind, index_is, past_length}
use Rattle.sg_once.proofs.Others.{after}
use Rattle.sg_once.proofs.Deciding.{Dec, dec_map, dec_both, dec_number, dec_less, dec_most, dec_cell, dec_below, dec_each, dec_at, collect, collected}
use Rattle.sg_once.proofs.DecideArray.{slots_on, cell_on, number_in, number_back, cell_past, no_link}
use Rattle.sg_once.proofs.DecideOthers.{link_on, chain_said, chain_is, search, dec_start, dec_apart}

index_get : (xs : List ℕ) (i : ℕ) → i < length xs → Some (slice_index xs i) ≡ slice_get xs i
index_get xs i less = ap Some (index_is xs i (get_or xs i 0) (slice_get-get_or xs i 0 less)) ∙ sym (slice_get-get_or xs i 0 less)

-- A BLOB
abbrev pub band_on : Option (List ℕ) → List ℕ
band_on None = []
band_on (Some bytes) = bytes

abbrev bands_said : (ℕ → Option Sheet) → ℕ → List ℕ
bands_said at root = collect (λ j. number_in (cell_on at root (j + 1))) 501

abbrev bytes_said : (ℕ → Option (List ℕ)) → List ℕ → ℕ → List ℕ
bytes_said bands ns count = collect (λ i. Some (slice_index (band_on (bands (get_or ns (i / 32768) 0))) (i % 32768))) count

abbrev blob_first : (ℕ → Option Sheet) → ℕ → List ℕ
blob_first at root = cell_bytes (cell_on at root 0)

abbrev pub blob_said : (ℕ → Option Sheet) → (ℕ → Option (List ℕ)) → ℕ → Blob
blob_said at bands root = record {
  bytes = bytes_said bands (bands_said at root) (little_number 4 (blob_first at root));
  peak = little_number 4 (drop 4 (blob_first at root));
  bands = bands_said at root;
}

module _ {at : ℕ → Option Sheet} {bands : ℕ → Option (List ℕ)} {root : ℕ} {b : Blob} (h : IsBlob at bands root b) where
  on_root : (slot : ℕ) → cell_on at root slot ≡ cell_in h.raw.first.what.slots slot
  on_root slot = ap (λ o. cell_in (slots_on o) slot) h.raw.first.is

  first_is : blob_first at root ≡ raw.root_cell (length b.bytes) b.peak
  first_is = ap cell_bytes (on_root 0 ∙ h.raw.first.has.first)

  count_is : little_number 4 (blob_first at root) ≡ length b.bytes
  count_is = let l = h.raw.below_peak in let m = h.raw.few in ap (little_number 4) first_is ∙ little_number-reads_back 4 (length b.bytes) (little_bytes 4 b.peak) (omega (arith, l, m))

  peak_is : little_number 4 (drop 4 (blob_first at root)) ≡ b.peak
  peak_is = let m = h.raw.few in ap (λ (xs : List ℕ). little_number 4 (drop 4 xs)) first_is ∙ little_number-reads_back 4 b.peak [] (omega (arith, m))

  bands_few : length b.bands ≤ 501
  bands_few =
      let f = h.raw.first in
      past_length b.bands 501 (no_link (slice_get b.bands 501) (sym (f.has.links 501) ∙ cell_past f.what.slots 502 (let few = f.has.few in omega (arith, few))))

  bands_is : bands_said at root ≡ b.bands
  bands_is = collected 501 (λ j. number_in (cell_on at root (j + 1))) b.bands bands_few (λ j less. ap number_in (on_root (j + 1) ∙ h.raw.first.has.links j) ∙ number_back (slice_get b.bands j) (h.raw.fit j))

  bytes_is : bytes_said bands b.bands (length b.bytes) ≡ b.bytes
  bytes_is = collected (length b.bytes) (λ i. Some (slice_index (band_on (bands (get_or b.bands (i / 32768) 0))) (i % 32768))) b.bytes (let z : length b.bytes ≤ length b.bytes = omega arith in z) (λ i less.
      let enough = h.raw.enough in
      let j : i / 32768 < length b.bands = omega (arith, less, enough) in
      let part = h.raw.part (i / 32768) (get_or b.bands (i / 32768) 0) (slice_get-get_or b.bands (i / 32768) 0 j) in
      let low : i % 32768 < 32768 = omega arith in
      let place : 32768 * (i / 32768) + i % 32768 ≡ i = omega arith in
      ap (λ o. Some (slice_index (band_on o) (i % 32768))) part.is ∙ (ap Some (part.has.each (i % 32768) low ∙ ap (slice_index b.bytes) place) ∙ index_get b.bytes i less))

  pub blob_is : blob_said at bands root ≡ b
  blob_is = λ i. record {
    bytes = ((λ k. bytes_said bands (bands_is k) (count_is k)) ∙ bytes_is) i;
    peak = peak_is i;
    bands = bands_is i;
  }

dec_blob_root : (count peak : ℕ) (ns : List ℕ) (x : Sheet) → Dec (raw.IsRoot count peak ns x)
dec_blob_root count peak ns x =
    dec_map (λ p. record { kind = p.0; first = p.1.0; links = links p.1.1.0; few = p.1.1.1 }) (λ h. (h.kind, (h.first, ((λ j less. h.links j), h.few))))
    (dec_both (dec_number x.kind 7) (dec_both (dec_cell (cell_in x.slots 0) (Some (raw.root_cell count peak)))
    (dec_both (dec_below (length x.slots + length ns) (λ j. cell_in x.slots (j + 1) ≡ link_cell (slice_get ns j)) (λ j. dec_cell (cell_in x.slots (j + 1)) (link_cell (slice_get ns j)))) (dec_most (length x.slots) 501))))
  where
    links : ((j : ℕ) → j < length x.slots + length ns → cell_in x.slots (j + 1) ≡ link_cell (slice_get ns j)) → (j : ℕ) → cell_in x.slots (j + 1) ≡ link_cell (slice_get ns j)
    links f j = go (cases_lt j (length x.slots + length ns))
      where
        go : (j < length x.slots + length ns) ⊎ (length x.slots + length ns ≤ j) → cell_in x.slots (j + 1) ≡ link_cell (slice_get ns j)
        go (inl less) = f j less
        go (inr past) = cell_past x.slots (j + 1) (omega (arith, past)) ∙ ap link_cell (sym (none_behind ns j (omega (arith, past))))

dec_piece : (bytes : List ℕ) (j : ℕ) (band : List ℕ) → Dec (raw.IsPart bytes j band)
dec_piece bytes j band = dec_map (λ p. record { size = p.0; each = p.1 }) (λ h. (h.size, h.each))
    (dec_both (dec_number (length band) 32768) (dec_below 32768 (λ k. slice_index band k ≡ slice_index bytes (32768 * j + k)) (λ k. dec_number (slice_index band k) (slice_index bytes (32768 * j + k)))))

dec_raw : (at : ℕ → Option Sheet) (bands : ℕ → Option (List ℕ)) (root : ℕ) (r : raw.Raw) → Dec (raw.IsRaw at bands root r)
dec_raw at bands root r =
    dec_map (λ p. record { first = p.0; part = p.1.0; fit = p.1.1.0; apart = p.1.1.1.0; below_peak = p.1.1.1.1.0; few = p.1.1.1.1.1.0; enough = p.1.1.1.1.1.1 }) (λ h. (h.first, (h.part, (h.fit, (h.apart, (h.below_peak, (h.few, h.enough)))))))
    (dec_both (dec_at at root (raw.IsRoot r.count r.peak r.bands) (dec_blob_root r.count r.peak r.bands)) (dec_both (dec_each r.bands (λ j b. HasAt bands b (raw.IsPart r.bytes j)) (λ j b. dec_at bands b (raw.IsPart r.bytes j) (dec_piece r.bytes j)))
    (dec_both (dec_each r.bands (λ j b. b < 2 ^ 32) (λ j b. dec_less b (2 ^ 32))) (dec_both (dec_apart r.bands) (dec_both (dec_most r.count r.peak) (dec_both (dec_most r.peak 16384000) (dec_most (length r.bytes) (32768 * length r.bands))))))))

pub dec_blob : (at : ℕ → Option Sheet) (bands : ℕ → Option (List ℕ)) (root : ℕ) (b : Blob) → Dec (IsBlob at bands root b)
dec_blob at bands root b = dec_map (λ p. record { raw = p.0; least = p.1.0; most = p.1.1 }) (λ h. (h.raw, (h.least, h.most)))
    (dec_both (dec_raw at bands root (raw_of b)) (dec_both (dec_most b.peak (32768 * length b.bands)) (dec_less (32768 * length b.bands) (b.peak + 32768))))

-- A BLOB STANDS AT THE ROOT, or none does
pub decide_blob : (at : ℕ → Option Sheet) (bands : ℕ → Option (List ℕ)) (root : ℕ) → Dec ((b : Blob) × IsBlob at bands root b)
decide_blob at bands root = go (dec_blob at bands root (blob_said at bands root))
  where
    go : Dec (IsBlob at bands root (blob_said at bands root)) → Dec ((b : Blob) × IsBlob at bands root b)
    go (inl h) = inl (blob_said at bands root, h)
    go (inr never) = inr (λ p. never (subst (IsBlob at bands root) (sym (blob_is p.1)) p.1))

-- THE CATALOGUE
abbrev pub row_said : Option (List ℕ) → Option Row
row_said None = None
row_said (Some cell) = row_of cell

abbrev pages_said : ℕ → (ℕ → Option Sheet) → List ℕ
pages_said n at = collect (chain_said at 0) n

abbrev places_said : (ℕ → Option Sheet) → List ℕ → List (Option Row)
places_said at ps = collect (λ i. Some (row_said (cell_on at (get_or ps (i / 79) 0) (i % 79)))) (79 * length ps)

abbrev second_on : Option Sheet → ℕ
second_on None = 0
second_on (Some sheet) = sheet.links.1

abbrev pub catalog_said : ℕ → (ℕ → Option Sheet) → Catalog
catalog_said n at = record { places = places_said at (pages_said n at); peak = second_on (at 0); pages = pages_said n at }

row_is : (o : Option Row) → ((row : Row) → o ≡ Some row → IsFormed row) → row_said (option_map row_cell o) ≡ o
row_is None f = refl
row_is (Some row) f = row_back row (f row refl)

place_get : (xs : List (Option Row)) (i : ℕ) → i < length xs → Some (row_at xs i) ≡ slice_get xs i
place_get [] i less = absurd (let z : i < 0 = less in omega (arith, z))
place_get (x ∷ xs) zero less = refl
place_get (x ∷ xs) (suc i) less = place_get xs i (let z : suc i < suc (length xs) = less in omega (arith, z))

module _ (n : ℕ) {at : ℕ → Option Sheet} {c : Catalog} (h : IsCatalog at c) (low : (i p : ℕ) → slice_get c.pages i ≡ Some p → p < n) where
  behind : (i p : ℕ) → slice_get c.pages (suc i) ≡ Some p → 0 < p
  behind i zero f = absurd (let j : suc i ≡ 0 = h.raw.apart (suc i) 0 0 f h.raw.first in omega (arith, j))
  behind i (suc p) f = omega arith

  pages_is : pages_said n at ≡ c.pages
  pages_is = collected n (chain_said at 0) c.pages (few_elements c.pages n h.raw.apart low) (λ i less.
      chain_is at 0 c.pages h.raw.first (λ j p e. let page = h.raw.page j p e in ap link_on page.is ∙ (page.has.link ∙ ap (slice_index c.pages) (after j))) behind i)

  places_is : places_said at c.pages ≡ c.places
  places_is = collected (79 * length c.pages) (λ i. Some (row_said (cell_on at (get_or c.pages (i / 79) 0) (i % 79)))) c.places (let l = h.raw.long in omega (arith, l)) (λ i less.
      let long = h.raw.long in
      let j : i / 79 < length c.pages = omega (arith, less) in
      let page = h.raw.page (i / 79) (get_or c.pages (i / 79) 0) (slice_get-get_or c.pages (i / 79) 0 j) in
      let k : i % 79 < 79 = omega arith in
      let place : 79 * (i / 79) + i % 79 ≡ i = omega arith in
      ap (λ o. Some (row_said (cell_in (slots_on o) (i % 79)))) page.is
      ∙ (ap (λ x. Some (row_said x)) (page.has.cells (i % 79) k ∙ ap (λ m. option_map row_cell (row_at c.places m)) place)
      ∙ (ap Some (row_is (row_at c.places i) (h.raw.formed i)) ∙ place_get c.places i (omega (arith, less, long)))))

  peak_of : second_on (at 0) ≡ c.peak
  peak_of = ap second_on h.raw.says_peak.is ∙ h.raw.says_peak.has.says

  pub catalog_is : catalog_said n at ≡ c
  catalog_is = λ i. record { places = ((λ k. places_said at (pages_is k)) ∙ places_is) i; peak = peak_of i; pages = pages_is i }

dec_row_page : (next : ℕ) (places : List (Option Row)) (j : ℕ) (x : Sheet) → Dec (IsPage next places j x)
dec_row_page next places j x =
    dec_map (λ p. record { kind = p.0; link = p.1.0; few = p.1.1.0; cells = p.1.1.1 }) (λ h. (h.kind, (h.link, (h.few, h.cells))))
    (dec_both (dec_number x.kind 1) (dec_both (dec_number x.links.0 next) (dec_both (dec_most (length x.slots) 79)
    (dec_below 79 (λ k. cell_in x.slots k ≡ option_map row_cell (row_at places (79 * j + k))) (λ k. dec_cell (cell_in x.slots k) (option_map row_cell (row_at places (79 * j + k))))))))

dec_true : (b : Bool) → Dec (b ≡ true)
dec_true true = inl refl
dec_true false = inr (λ e. cc)

dec_formed : (row : Row) → Dec (IsFormed row)
dec_formed row = dec_map (λ p. record { root = p.0; dropper = p.1.0; name = p.1.1 }) (λ h. (h.root, (h.dropper, h.name)))
    (dec_both (dec_less row.root.0 (2 ^ 32)) (dec_both (dec_less (dropper_of row.dropper) (2 ^ 64)) (dec_true (is_name row.name))))

dec_some_formed : (o : Option Row) → Dec ((row : Row) → o ≡ Some row → IsFormed row)
dec_some_formed None = inl (λ row e. absurd (let z : ◌≡◌ {A = Option Row} None (Some row) = e in cc))
dec_some_formed (Some r) = dec_map (λ h. λ row e. subst IsFormed (let z : ◌≡◌ {A = Option Row} (Some r) (Some row) = e in (let w : r ≡ row = cc in w)) h) (λ f. f r refl) (dec_formed r)

row_get : (xs : List (Option Row)) (i : ℕ) (row : Row) → row_at xs i ≡ Some row → slice_get xs i ≡ Some (Some row)
row_get [] i row e = absurd (let z : ◌≡◌ {A = Option Row} None (Some row) = e in cc)
row_get (x ∷ xs) zero row e = ap Some (let z : x ≡ Some row = e in z)
row_get (x ∷ xs) (suc i) row e = row_get xs i row e

get_row : (xs : List (Option Row)) (i : ℕ) (o : Option Row) → slice_get xs i ≡ Some o → row_at xs i ≡ o
get_row [] i o e = absurd (cc)
get_row (x ∷ xs) zero o e = let z : Some x ≡ Some o = e in (let w : x ≡ o = cc in w)
get_row (x ∷ xs) (suc i) o e = get_row xs i o e

dec_all_formed : (xs : List (Option Row)) → Dec ((i : ℕ) (row : Row) → row_at xs i ≡ Some row → IsFormed row)
dec_all_formed xs = dec_map (λ f. λ i row e. f i (Some row) (row_get xs i row e) row refl) (λ h. λ i o e. λ row f. h i row (get_row xs i o e ∙ f)) (dec_each xs (λ i o. (row : Row) → o ≡ Some row → IsFormed row) (λ i o. dec_some_formed o))

second : (a b : Bool) → (a && b) ≡ true → b ≡ true
second true b e = e
second false b e = absurd (cc)

dec_names_once : (rs : List Row) → Dec ((name : List ℕ) → count_by (is_there name) rs ≤ 1)
dec_names_once rs = dec_map once (λ h. λ i r e. h r.name) (dec_each rs (λ i r. count_by (is_there r.name) rs ≤ 1) (λ i r. dec_most (count_by (is_there r.name) rs) 1))
  where
    once : ((i : ℕ) (r : Row) → slice_get rs i ≡ Some r → count_by (is_there r.name) rs ≤ 1) → (name : List ℕ) → count_by (is_there name) rs ≤ 1
    once f name = go (search (is_there name) rs)
      where
        go : ((i : ℕ) × (x : Row) × (slice_get rs i ≡ Some x) × (is_there name x ≡ true)) ⊎ (count_by (is_there name) rs ≡ 0) → count_by (is_there name) rs ≤ 1
        go (inl h) = subst (λ k. count_by (is_there k) rs ≤ 1) ((bytes_eq-Decides h.1.name name).0 (second (is_none h.1.dropper) (bytes_eq h.1.name name) h.3)) (f h.0 h.1 h.2)
        go (inr h) = omega (arith, h)

dec_raw_catalog : (at : ℕ → Option Sheet) (c : Catalog) → Dec (IsRaw at c)
dec_raw_catalog at c =
    dec_map (λ p. record { first = p.0; page = p.1.0; says_peak = p.1.1.0; fit = p.1.1.1.0; apart = p.1.1.1.1.0; long = p.1.1.1.1.1.0; formed = p.1.1.1.1.1.1 }) (λ h. (h.first, (h.page, (h.says_peak, (h.fit, (h.apart, (h.long, h.formed)))))))
    (dec_both (dec_start (slice_get c.pages 0) 0) (dec_both (dec_each c.pages (λ j p. HasAt at p (IsPage (slice_index c.pages (j + 1)) c.places j)) (λ j p. dec_at at p (IsPage (slice_index c.pages (j + 1)) c.places j) (dec_row_page (slice_index c.pages (j + 1)) c.places j)))
    (dec_both (dec_at at 0 (SaysPeak c.peak) (λ x. dec_map (λ e. record { says = e }) (λ h. h.says) (dec_number x.links.1 c.peak))) (dec_both (dec_each c.pages (λ j p. p < 2 ^ 32) (λ j p. dec_less p (2 ^ 32)))
    (dec_both (dec_apart c.pages) (dec_both (dec_number (length c.places) (79 * length c.pages)) (dec_all_formed c.places)))))))

pub dec_catalog : (at : ℕ → Option Sheet) (c : Catalog) → Dec (IsCatalog at c)
dec_catalog at c = dec_map (λ p. record { raw = p.0; once = p.1.0; below_peak = p.1.1.0; exactly = p.1.1.1 }) (λ h. (h.raw, (h.once, (h.below_peak, h.exactly))))
    (dec_both (dec_raw_catalog at c) (dec_both (dec_names_once (rows c)) (dec_both (dec_most (length (rows c)) c.peak) (dec_number (length c.pages) (1 + (c.peak - 1) / 79)))))

-- A CATALOGUE STANDS THERE, in pages below a number, or none does
pub decide_catalog : (n : ℕ) (at : ℕ → Option Sheet) → Dec ((c : Catalog) × CatalogBelow n at c)
decide_catalog n at = go (dec_both (dec_catalog at (catalog_said n at)) (dec_each (catalog_said n at).pages (λ i p. p < n) (λ i p. dec_less p n)))
  where
    go : Dec (IsCatalog at (catalog_said n at) × ((i p : ℕ) → slice_get (catalog_said n at).pages i ≡ Some p → p < n)) → Dec ((c : Catalog) × CatalogBelow n at c)
    go (inl h) = inl (catalog_said n at, record { catalog = h.0; low = h.1 })
    go (inr never) = inr (λ p. never (subst (λ c. IsCatalog at c × ((i q : ℕ) → slice_get c.pages i ≡ Some q → q < n)) (sym (catalog_is n p.1.catalog p.1.low)) (p.1.catalog, p.1.low)))
