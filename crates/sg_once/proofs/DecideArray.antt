-- WHETHER AN ARRAY STANDS AT A ROOT is decided, by reading it and looking whether it stands there.
use Rattle.std.proofs.Common.{◌≡◌, ℕ, zero, suc, ◌+◌, ◌*◌, ◌/◌, ◌%◌, ◌<◌, ◌≤◌, ◌^◌, ◌⊎◌, inl, inr, List, [], ◌∷◌, ◌++◌, length, drop, slice_get, get_or, Option, Some, None, refl, sym, ap, ◌∙◌, subst, arith}
use Rattle.std.proofs.lemmas.Option.{slice_get-get_or}
use Rattle.std.proofs.lemmas.Bool.{cases_lt}
use Rattle.std.proofs.lemmas.Nat.{div_below}
use Rattle.std.proofs.Math.Nat.{div-add-mod, mod-lt, mul_comm}
use Rattle.byteorder.specs.Endian.{little_bytes, little_number}
use Rattle.byteorder.specs.Numbers.{little_number-reads_back}
use Rattle.sg_base.specs.Page.{cell_in}
use Rattle.sg_base.specs.Sheet.{Sheet}
use Rattle.sg_base.specs.Slots.{Slots, cell_bytes}
use Rattle.sg_array.specs.Array.{Array, IsArray, IsBuilt, NamesPages, IsRoot, IsIndex, IsLeaf, IsInLimits, IsItem, ArePages, per_page, root_cell}
use Rattle.sg_array.proofs.Places.{per_page-least}
use Rattle.sg_space.specs.Links.{link_cell}
use Rattle.sg_space.specs.Units.{HasAt}
use Rattle.sg_once.proofs.Pages.{none_behind, past_length}
use Rattle.sg_once.proofs.Deciding.{Dec, dec_map, dec_both, dec_if, dec_number, dec_less, dec_most, dec_cell, dec_below, dec_each, dec_at, dec_bytes, collect, collected}

-- THE ARRAY that pages say, if they say one

abbrev pub slots_on : Option Sheet → Slots
slots_on None = []
slots_on (Some sheet) = sheet.slots

abbrev pub cell_on : (ℕ → Option Sheet) → (page slot : ℕ) → Option (List ℕ)
cell_on at page slot = cell_in (slots_on (at page)) slot

abbrev pub number_in : Option (List ℕ) → Option ℕ
number_in None = None
number_in (Some cell) = Some (little_number 4 cell)

abbrev pub index_said : (ℕ → Option Sheet) → ℕ → List ℕ
index_said at root = collect (λ j. number_in (cell_on at root (j + 1))) 139

abbrev pub leaves_said : (ℕ → Option Sheet) → List ℕ → List ℕ
leaves_said at index = collect (λ d. number_in (cell_on at (get_or index (d / 509) 0) (d % 509))) (509 * length index)

abbrev pub items_said : (ℕ → Option Sheet) → ℕ → List ℕ → List (List ℕ)
items_said at size leaves = collect (λ i. cell_on at (get_or leaves (i / per_page size) 0) (i % per_page size)) (per_page size * length leaves)

abbrev pub first_said : (ℕ → Option Sheet) → ℕ → List ℕ
first_said at root = cell_bytes (cell_on at root 0)

abbrev pub array_said : (ℕ → Option Sheet) → ℕ → Array
array_said at root = record {
  size = little_number 2 (first_said at root);
  items = items_said at (little_number 2 (first_said at root)) (leaves_said at (index_said at root));
  peak = little_number 4 (drop 6 (first_said at root));
  index = index_said at root;
  leaves = leaves_said at (index_said at root);
}

pub number_back : (o : Option ℕ) → ((n : ℕ) → o ≡ Some n → n < 2 ^ 32) → number_in (link_cell o) ≡ o
number_back None f = refl
number_back (Some n) f = ap Some (ap (little_number 4) (sym (nil (little_bytes 4 n))) ∙ little_number-reads_back 4 n [] (f n refl))
  where
    nil : (xs : List ℕ) → xs ++ [] ≡ xs
    nil [] = refl
    nil (x ∷ xs) = ap (λ zs. x ∷ zs) (nil xs)

pub cell_past : (slots : Slots) (k : ℕ) → length slots ≤ k → cell_in slots k ≡ None
cell_past [] k h = refl
cell_past (x ∷ xs) zero h = absurd (let z : suc (length xs) ≤ 0 = h in omega (arith, z))
cell_past (x ∷ xs) (suc k) h = cell_past xs k (let z : suc (length xs) ≤ suc k = h in omega (arith, z))

pub no_link : (o : Option ℕ) → link_cell o ≡ None → o ≡ None
no_link None e = refl
no_link (Some n) e = absurd (let z : ◌≡◌ {A = Option (List ℕ)} (Some (little_bytes 4 n)) None = e in cc)

module _ {at : ℕ → Option Sheet} {root : ℕ} {b : Array} (h : IsArray at root b) where
  -- a cell of a page that is known
  on : {p : ℕ} {P : Sheet → Type 0} (k : HasAt at p P) (slot : ℕ) → cell_on at p slot ≡ cell_in k.what.slots slot
  on k slot = ap (λ o. cell_in (slots_on o) slot) k.is

  first_is : first_said at root ≡ root_cell b.size (length b.items) b.peak
  first_is = ap cell_bytes (on h.built.names.first 0 ∙ h.built.names.first.has.first)

  size_is : little_number 2 (first_said at root) ≡ b.size
  size_is = let l = h.built.limits.small in ap (little_number 2) first_is ∙ little_number-reads_back 2 b.size (little_bytes 4 (length b.items) ++ little_bytes 4 b.peak) (omega (arith, l))

  peak_is : little_number 4 (drop 6 (first_said at root)) ≡ b.peak
  peak_is = let m = h.built.limits.few in ap (λ (xs : List ℕ). little_number 4 (drop 6 xs)) first_is ∙ little_number-reads_back 4 b.peak [] (omega (arith, m))

  index_few : length b.index ≤ 139
  index_few =
      let f = h.built.names.first in
      past_length b.index 139 (no_link (slice_get b.index 139) (sym (f.has.links 139) ∙ cell_past f.what.slots 140 (let few = f.has.few in omega (arith, few))))

  index_is : index_said at root ≡ b.index
  index_is = collected 139 (λ j. number_in (cell_on at root (j + 1))) b.index index_few (λ j less.
      ap number_in (on h.built.names.first (j + 1) ∙ h.built.names.first.has.links j) ∙ number_back (slice_get b.index j) (h.built.names.index_pages.fit j))

  leaves_is : leaves_said at b.index ≡ b.leaves
  leaves_is = collected (509 * length b.index) (λ d. number_in (cell_on at (get_or b.index (d / 509) 0) (d % 509))) b.leaves h.built.names.index_least (λ d less.
      let j : d / 509 < length b.index = omega (arith, less) in
      let page = h.built.names.index (d / 509) (get_or b.index (d / 509) 0) (slice_get-get_or b.index (d / 509) 0 j) in
      let low : d % 509 < 509 = omega arith in
      let place : 509 * (d / 509) + d % 509 ≡ d = omega arith in
      ap number_in (on page (d % 509) ∙ page.has.cells (d % 509) low)
      ∙ (ap (λ n. number_in (link_cell (slice_get b.leaves n))) place ∙ number_back (slice_get b.leaves d) (h.built.names.leaf_pages.fit d)))

  items_is : items_said at b.size b.leaves ≡ b.items
  items_is = go (per_page b.size) refl
    where
      least : length b.items ≤ per_page b.size * length b.leaves
      least = let l = h.built.leaf_least in let m = h.built.limits.below_peak in omega (arith, l, m)

      go : (n : ℕ) → per_page b.size ≡ n → collect (λ i. cell_on at (get_or b.leaves (i / per_page b.size) 0) (i % per_page b.size)) (per_page b.size * length b.leaves) ≡ b.items
      go n pp = collected (per_page b.size * length b.leaves) (λ i. cell_on at (get_or b.leaves (i / per_page b.size) 0) (i % per_page b.size)) b.items least (λ i less.
          let pos : 1 ≤ per_page b.size = let l = per_page-least b.size h.built.limits.small in omega (arith, l) in
          let j : i / per_page b.size < length b.leaves = div_below i (per_page b.size) (length b.leaves) pos (subst (λ z. i < z) (mul_comm (per_page b.size) (length b.leaves)) less) in
          let page = h.built.leaf (i / per_page b.size) (get_or b.leaves (i / per_page b.size) 0) (slice_get-get_or b.leaves (i / per_page b.size) 0 j) in
          on page (i % per_page b.size) ∙ (page.has.cells (i % per_page b.size) (mod-lt i pos) ∙ ap (slice_get b.items) (div-add-mod i (per_page b.size))))

  -- it is the one that the pages say
  pub array_is : array_said at root ≡ b
  array_is = λ i. record {
    size = size_is i;
    items = ((λ j. items_said at (size_is j) (((λ k. leaves_said at (index_is k)) ∙ leaves_is) j)) ∙ items_is) i;
    peak = peak_is i;
    index = index_is i;
    leaves = ((λ k. leaves_said at (index_is k)) ∙ leaves_is) i;
  }

-- WHETHER AN ARRAY IS THERE
dec_root : (size count peak : ℕ) (index : List ℕ) (x : Sheet) → Dec (IsRoot size count peak index x)
dec_root size count peak index x =
    dec_map (λ p. record { kind = p.0; first = p.1.0; links = links p.1.1.0; few = p.1.1.1 }) (λ h. (h.kind, (h.first, ((λ j less. h.links j), h.few))))
    (dec_both (dec_number x.kind 2) (dec_both (dec_cell (cell_in x.slots 0) (Some (root_cell size count peak)))
    (dec_both (dec_below (length x.slots + length index) (λ j. cell_in x.slots (j + 1) ≡ link_cell (slice_get index j)) (λ j. dec_cell (cell_in x.slots (j + 1)) (link_cell (slice_get index j)))) (dec_most (length x.slots) 139))))
  where
    links : ((j : ℕ) → j < length x.slots + length index → cell_in x.slots (j + 1) ≡ link_cell (slice_get index j)) → (j : ℕ) → cell_in x.slots (j + 1) ≡ link_cell (slice_get index j)
    links f j = go (cases_lt j (length x.slots + length index))
      where
        go : (j < length x.slots + length index) ⊎ (length x.slots + length index ≤ j) → cell_in x.slots (j + 1) ≡ link_cell (slice_get index j)
        go (inl less) = f j less
        go (inr past) = cell_past x.slots (j + 1) (omega (arith, past)) ∙ ap link_cell (sym (none_behind index j (omega (arith, past))))

dec_index : (leaves : List ℕ) (j : ℕ) (x : Sheet) → Dec (IsIndex leaves j x)
dec_index leaves j x =
    dec_map (λ p. record { kind = p.0; cells = p.1.0; few = p.1.1 }) (λ h. (h.kind, (h.cells, h.few)))
    (dec_both (dec_number x.kind 3) (dec_both (dec_below 509 (λ e. cell_in x.slots e ≡ link_cell (slice_get leaves (509 * j + e))) (λ e. dec_cell (cell_in x.slots e) (link_cell (slice_get leaves (509 * j + e))))) (dec_most (length x.slots) 509)))

dec_leaf : (size : ℕ) (items : List (List ℕ)) (d : ℕ) (x : Sheet) → Dec (IsLeaf size items d x)
dec_leaf size items d x =
    dec_map (λ p. record { kind = p.0; cells = p.1.0; few = p.1.1 }) (λ h. (h.kind, (h.cells, h.few)))
    (dec_both (dec_number x.kind 4) (dec_both (dec_below (per_page size) (λ m. cell_in x.slots m ≡ slice_get items (per_page size * d + m)) (λ m. dec_cell (cell_in x.slots m) (slice_get items (per_page size * d + m)))) (dec_most (length x.slots) (per_page size))))

pub dec_pages : (ps : List ℕ) → Dec (ArePages ps)
dec_pages ps =
    dec_map (λ p. record { fit = p.0; apart = λ i j q e f. p.1 i q e j q f refl }) (λ h. (h.fit, (λ i q e j r f same. h.apart i j q e (subst (λ n. slice_get ps j ≡ Some n) same f))))
    (dec_both (dec_each ps (λ i p. p < 2 ^ 32) (λ i p. dec_less p (2 ^ 32)))
    (dec_each ps (λ i q. (j r : ℕ) → slice_get ps j ≡ Some r → r ≡ q → i ≡ j) (λ i q. dec_each ps (λ j r. r ≡ q → i ≡ j) (λ j r. dec_if (dec_number r q) (dec_number i j)))))

dec_item : (size : ℕ) (item : List ℕ) → Dec (IsItem size item)
dec_item size item = dec_map (λ p. record { sized = p.0; bytes = p.1 }) (λ h. (h.sized, h.bytes)) (dec_both (dec_number (length item) size) (dec_bytes item))

dec_limits : (a : Array) → Dec (IsInLimits a)
dec_limits a =
    dec_map (λ p. record { some = p.0; small = p.1.0; each = p.1.1.0; below_peak = p.1.1.1.0; few = p.1.1.1.1 }) (λ h. (h.some, (h.small, (h.each, (h.below_peak, h.few)))))
    (dec_both (dec_most 1 a.size) (dec_both (dec_most a.size 256) (dec_both (dec_each a.items (λ i item. IsItem a.size item) (λ i item. dec_item a.size item)) (dec_both (dec_most (length a.items) a.peak) (dec_most a.peak 1048576)))))

dec_names : (at : ℕ → Option Sheet) (root : ℕ) (a : Array) → Dec (NamesPages at root a)
dec_names at root a =
    dec_map (λ p. record { first = p.0; index = p.1.0; index_pages = p.1.1.0; leaf_pages = p.1.1.1.0; index_least = p.1.1.1.1 }) (λ h. (h.first, (h.index, (h.index_pages, (h.leaf_pages, h.index_least)))))
    (dec_both (dec_at at root (IsRoot a.size (length a.items) a.peak a.index) (dec_root a.size (length a.items) a.peak a.index))
    (dec_both (dec_each a.index (λ j p. HasAt at p (IsIndex a.leaves j)) (λ j p. dec_at at p (IsIndex a.leaves j) (dec_index a.leaves j)))
    (dec_both (dec_pages a.index) (dec_both (dec_pages a.leaves) (dec_most (length a.leaves) (509 * length a.index))))))

dec_built : (at : ℕ → Option Sheet) (root : ℕ) (a : Array) → Dec (IsBuilt at root a)
dec_built at root a =
    dec_map (λ p. record { names = p.0; leaf = p.1.0; leaf_least = p.1.1.0; limits = p.1.1.1 }) (λ h. (h.names, (h.leaf, (h.leaf_least, h.limits))))
    (dec_both (dec_names at root a) (dec_both (dec_each a.leaves (λ d p. HasAt at p (IsLeaf a.size a.items d)) (λ d p. dec_at at p (IsLeaf a.size a.items d) (dec_leaf a.size a.items d))) (dec_both (dec_most a.peak (per_page a.size * length a.leaves)) (dec_limits a))))

pub dec_is : (at : ℕ → Option Sheet) (root : ℕ) (a : Array) → Dec (IsArray at root a)
dec_is at root a =
    dec_map (λ p. record { built = p.0; index_most = p.1.0; leaf_most = p.1.1 }) (λ h. (h.built, (h.index_most, h.leaf_most)))
    (dec_both (dec_built at root a) (dec_both (dec_less (509 * length a.index) (length a.leaves + 509)) (dec_less (per_page a.size * length a.leaves) (a.peak + per_page a.size))))

-- AN ARRAY STANDS AT THE ROOT, or none does
pub decide_array : (at : ℕ → Option Sheet) (root : ℕ) → Dec ((a : Array) × IsArray at root a)
decide_array at root = go (dec_is at root (array_said at root))
  where
    go : Dec (IsArray at root (array_said at root)) → Dec ((a : Array) × IsArray at root a)
    go (inl h) = inl (array_said at root, h)
    go (inr never) = inr (λ p. never (subst (IsArray at root) (sym (array_is p.1)) p.1))
