-- The parts of a table, put together.
use Rattle.std.proofs.Common.{◌≡◌, ℕ, ◌+◌, ◌<◌, ◌≤◌, ◌^◌, Bool, List, [], ◌∷◌, ◌++◌, length, get_or, Option, Some, None, slice_get, slice_index, option_map, refl, sym, ap, subst, ◌∙◌, arith, inl, inr}
use Rattle.std.specs.List.{sum_by}
use Rattle.std.proofs.lemmas.Bool.{cases_lt}
use Rattle.std.proofs.lemmas.Option.{slice_get-get_or, slice_get_past, slice_get_within}
use Rattle.byteorder.specs.Endian.{little_bytes}
use Rattle.sg_array.specs.Array.{Array, IsArray, root_cell as array_cell}
use Rattle.sg_array.specs.Steps.{Root as ArrayRoot, IsInRange as IsArrayRange, root_of}
use Rattle.sg_base.specs.Page.{cell_in}
use Rattle.sg_base.specs.Sheet.{Sheet}
use Rattle.sg_bucket.specs.Bucket.{Bucket, entries_of}
use Rattle.sg_bucket.specs.Entry.{Entry, entry_size, value_of}
use Rattle.sg_bucket.proofs.Values.{has_key, none_of}
use Rattle.sg_hash.specs.Steps.{numbers_in}
use Rattle.sg_hash.specs.Table.{HashTable, Numbers, IsInRange, IsHashTable, numbers_of, root_cell, root_sheet, name_of, first_page, all_entries, most_buckets, AreHome}
use Rattle.sg_hash.proofs.Roots.{same_numbers}
use Rattle.sg_hash.proofs.Trunks.{names_long}
use Rattle.sg_linear.specs.Extent.{buckets_of, shape_of}
use Rattle.sg_space.specs.Reads.{HasCell}
use Rattle.sg_space.specs.Units.{HasAt}
use Rattle.sg_space.proofs.Known.{both, same_some}
use Rattle.sg_reach.specs.Marks.{CanSet, AreSet}
use Rattle.sg_reach.specs.Parts.{array_at, array_pages}
use Rattle.sg_reach.specs.Reached.{CanReachArray, ReachesArray}
use Rattle.sg_reach.proofs.Setting.{sets_then, rest_can, front_can}
use Rattle.sg_reach.proofs.Whole.{same_root, array_is}
use Rattle.sg_tables.specs.declared.root.Trunk.{Trunk}
use Rattle.sg_contents.specs.Standing.{IsTable}
use Rattle.sg_tables.specs.Table.{IsBucketOf, chains, table_pages}
use Rattle.sg_tables.specs.Trunk.{IsTrunkSheet, IsRootSheet, IsDirectory}
use Rattle.sg_tables.specs.Reached.{CanReachBuckets, ReachesBuckets, CanReachTable, ReachesTable}
use Rattle.sg_tables.proofs.Gathering.{all_buckets}
use Rattle.sg_tables.proofs.Homes.{there_of, none_elsewhere, none_empty, all_lack}
use Rattle.sg_tables.proofs.Lists.{all_apart}

-- the numbers that an array's root spells are the array's
pub array_numbers : {at : ℕ → Option Sheet} {root : ℕ} (a : Array) (r : ArrayRoot) → IsArray at root a → IsArrayRange r → HasAt at root (HasCell 2 0 (array_cell r.size r.count r.peak)) → root_of a ≡ r
array_numbers a r h range said =
    let first = h.built.names.first in
    let limits = h.built.limits in
    let mine : IsArrayRange (root_of a) = record { some = limits.some; small = limits.small; below_peak = limits.below_peak; few = limits.few } in
    let cell : array_cell (root_of a).size (root_of a).count (root_of a).peak ≡ array_cell r.size r.count r.peak = same_some _ _ (sym first.has.first ∙ (both first said).is) in
    same_root (root_of a) r mine range cell

-- WHAT IS KNOWN OF A TABLE of which the root was read
pub record IsKnown (at : ℕ → Option Sheet) (root : ℕ) (t : Trunk) (taken : List Bool) : Type 0 where
  pub table : HashTable
  pub is : IsTable at root table
  pub numbers : numbers_of table ≡ numbers_in t.root
  pub directory : table.directory ≡ t.directory.0
  pub can : CanSet taken (table_pages root table)

pub root_sheet_there : {at : ℕ → Option Sheet} {root : ℕ} {taken : List Bool} → CanReachTable at root taken → HasAt at root IsRootSheet
root_sheet_there h = record { what = _; is = h.is.table.built.trunk.first; has = record { numbers = numbers_of h.table; directory = h.table.directory; range = h.is.table.built.trunk.range; is = refl } }

pub known : {at : ℕ → Option Sheet} {root : ℕ} {taken : List Bool} (t : Trunk) → CanReachTable at root taken → HasAt at root (IsTrunkSheet t) → IsKnown at root t taken
known {at} {root} {taken} t h said =
    let trunk = h.is.table.built.trunk in
    let sheets : root_sheet (root_cell (numbers_of h.table)) h.table.directory ≡ root_sheet (root_cell (numbers_in t.root)) t.directory.0 = same_some _ _ (sym trunk.first ∙ said.is) ∙ said.has.is in
    let cell : root_cell (numbers_of h.table) ≡ root_cell (numbers_in t.root) = same_some _ _ (ap (λ (s : Sheet). cell_in s.slots 0) sheets) in
    record {
      table = h.table;
      is = h.is;
      numbers = same_numbers (numbers_of h.table) (numbers_in t.root) trunk.range said.has.range cell;
      directory = ap (λ (s : Sheet). s.links.0) sheets;
      can = h.can;
    }

module _ {at : ℕ → Option Sheet} {root : ℕ} {t : Trunk} {taken : List Bool} (k : IsKnown at root t taken) where
  names_there : IsArray at t.directory.0 (k.table).names
  names_there = subst (λ (d : ℕ). IsArray at d (k.table).names) k.directory k.is.table.built.trunk.names

  shape_is : (k.table).shape ≡ shape_of (t.root).extent
  shape_is = ap (λ (n : Numbers). n.shape) k.numbers

  peak_is : (k.table).peak ≡ (t.root).peak
  peak_is = ap (λ (n : Numbers). n.peak) k.numbers

  pages_are : CanSet taken (root ∷ (array_pages t.directory.0 (k.table).names ++ chains (k.table).buckets))
  pages_are = subst (λ (d : ℕ). CanSet taken (root ∷ (array_pages d (k.table).names ++ chains (k.table).buckets))) k.directory k.can

  -- once the root is set, the directory's pages may be
  pub may_array : {mid : List Bool} → AreSet taken mid (root ∷ []) → CanReachArray at t.directory.0 mid
  may_array set = record { array = (k.table).names; is = names_there; can = front_can (chains (k.table).buckets) (rest_can set pages_are) }

  pub its_directory : (r : ArrayRoot) → IsArrayRange r → HasAt at t.directory.0 (HasCell 2 0 (array_cell r.size r.count r.peak)) → IsDirectory (numbers_in t.root) r
  its_directory r range said =
      let same : root_of (k.table).names ≡ r = array_numbers (k.table).names r names_there range said in
      let trunk = k.is.table.built.trunk in
      let many : length (k.table).buckets ≡ buckets_of (shape_of (t.root).extent) = k.is.table.many ∙ ap buckets_of shape_is in
      let items : length (k.table).names.items ≡ length (k.table).buckets = names_long trunk in
      let longest = k.is.table.longest in
      let grown = k.is.table.grown in
      let count : length (k.table).names.items ≡ r.count = ap (λ (x : ArrayRoot). x.count) same in
      let peak : (k.table).names.peak ≡ r.peak = ap (λ (x : ArrayRoot). x.peak) same in
      record {
        size = sym (ap (λ (x : ArrayRoot). x.size) same) ∙ trunk.size;
        count = sym count ∙ (items ∙ many);
        peak = sym peak ∙ (longest ∙ (items ∙ many));
        grown = subst (λ (p : ℕ). buckets_of (shape_of (t.root).extent) ≤ most_buckets p) peak_is (subst (λ (n : ℕ). n ≤ most_buckets (k.table).peak) many grown);
      }

  bucket_of : (i : ℕ) (b : Bucket) → slice_get (k.table).buckets i ≡ Some b → IsBucketOf at (k.table).names (t.root).extent i b
  bucket_of i b e =
      let h = k.is.table in
      record {
        is = h.built.bucket i b e;
        named = h.built.trunk.named i ∙ ap name_of e;
        fit = h.built.trunk.fit i b e;
        there = there_of (t.root).extent (k.table).buckets i b (h.built.bucket i b e) (subst (λ s. AreHome s (k.table).buckets) shape_is h.home) k.is.no_empty_key e;
      }

  -- and then those of the buckets
  pub may_buckets : {mid more : List Bool} → AreSet taken mid (root ∷ []) → ReachesArray at t.directory.0 mid more → CanReachBuckets at t.directory.0 (t.root).extent (buckets_of (shape_of (t.root).extent)) more
  unfolding may_array
  may_buckets {mid} {more} set r =
      let can : CanSet mid (array_pages t.directory.0 (k.table).names ++ chains (k.table).buckets) = rest_can set pages_are in
      let same : array_pages t.directory.0 (k.table).names ≡ array_pages t.directory.0 (array_at at t.directory.0) = (array_is at t.directory.0 mid (may_array set)).1 in
      record {
        names = (k.table).names;
        stands = names_there;
        size = k.is.table.built.trunk.size;
        buckets = (k.table).buckets;
        many = k.is.table.many ∙ ap buckets_of shape_is;
        each = bucket_of;
        can = rest_can r.set (subst (λ (ns : List ℕ). CanSet mid (ns ++ chains (k.table).buckets)) same can);
      }

  -- the entries are as many as the root says
  pub sums_are : {mid more new : List Bool} {entries bytes : ℕ} → AreSet taken mid (root ∷ []) → ReachesArray at t.directory.0 mid more → ((names : Array) → IsArray at t.directory.0 names → names.size ≡ 4 → ReachesBuckets at names (t.root).extent (buckets_of (shape_of (t.root).extent)) more new entries bytes) → (entries ≡ (t.root).entries) × (bytes ≡ (t.root).bytes)
  unfolding may_buckets
  sums_are {mid} {more} {new} {entries} {bytes} set r found =
      let f = found (k.table).names names_there k.is.table.built.trunk.size in
      let same : (k.table).buckets ≡ f.buckets = all_buckets (may_buckets set r) f in (
        f.entries_are ∙ (ap (λ (bs : List Bucket). length (all_entries bs)) (sym same) ∙ ap (λ (n : Numbers). n.entries) k.numbers),
        f.bytes_are ∙ (ap (λ (bs : List Bucket). sum_by entry_size (all_entries bs)) (sym same) ∙ ap (λ (n : Numbers). n.bytes) k.numbers),
      )

-- THE PARTS ARE A TABLE'S
abbrev pub table_of : Trunk → Array → List Bucket → HashTable
table_of t names bs = record { shape = shape_of (t.root).extent; peak = (t.root).peak; directory = t.directory.0; names = names; buckets = bs }

item_named : (o : Option Bucket) (items : List (List ℕ)) (bs : List Bucket) (i : ℕ) → slice_get bs i ≡ o → length items ≡ length bs → ((b : Bucket) → o ≡ Some b → slice_get items i ≡ Some (little_bytes 4 (first_page b))) → slice_get items i ≡ name_of o
item_named None items bs i e long h = elim (cases_lt i (length bs)) [
  | inl l ↦ absurd (some_none (get_or bs i (record { pages = []; parts = [] })) (sym e ∙ slice_get-get_or bs i (record { pages = []; parts = [] }) l))
  | inr p ↦ slice_get_past items i (omega arith)
]
  where
    some_none : (b : Bucket) → None ≡ Some b → ⊥
    some_none b e = cc
item_named (Some b) items bs i e long h = h b refl

module _ {at : ℕ → Option Sheet} {root : ℕ} (t : Trunk) (names : Array) (r : ArrayRoot) {more new : List Bool} {entries bytes : ℕ}
    (first : HasAt at root (IsTrunkSheet t)) (stands : IsArray at t.directory.0 names) (range : IsArrayRange r)
    (said : HasAt at t.directory.0 (HasCell 2 0 (array_cell r.size r.count r.peak))) (fits : IsDirectory (numbers_in t.root) r)
    (found : ReachesBuckets at names (t.root).extent (buckets_of (shape_of (t.root).extent)) more new entries bytes)
    (all : entries ≡ (t.root).entries) (sum : bytes ≡ (t.root).bytes) where
  numbers_are : numbers_in t.root ≡ numbers_of (table_of t names found.buckets)
  numbers_are =
      let e : (t.root).entries ≡ length (all_entries found.buckets) = sym all ∙ found.entries_are in
      let b : (t.root).bytes ≡ sum_by entry_size (all_entries found.buckets) = sym sum ∙ found.bytes_are in
      λ i. record { shape = shape_of (t.root).extent; entries = e i; bytes = b i; peak = (t.root).peak }

  same : root_of names ≡ r
  same = array_numbers names r stands range said

  items_are : length names.items ≡ length found.buckets
  items_are = ap (λ (x : ArrayRoot). x.count) same ∙ (fits.count ∙ sym found.many)

  pub is_hash : IsHashTable at root (table_of t names found.buckets)
  is_hash = record {
    built = record {
      trunk = record {
        first = first.is ∙ (ap (λ (s : Sheet). Some s) first.has.is ∙ ap (λ (n : Numbers). Some (root_sheet (root_cell n) t.directory.0)) numbers_are);
        range = subst IsInRange numbers_are first.has.range;
        names = stands;
        size = ap (λ (x : ArrayRoot). x.size) same ∙ fits.size;
        named = λ i. item_named (slice_get found.buckets i) names.items found.buckets i refl items_are (λ b e. (found.each i b e).named);
        fit = λ i b e. (found.each i b e).fit;
      };
      bucket = λ i b e. (found.each i b e).is;
      apart = all_apart found.buckets found.set.can;
    };
    many = found.many;
    home = λ i b key e other. none_elsewhere (t.root).extent i b key (found.each i b e).there other;
    grown = subst (λ (n : ℕ). n ≤ most_buckets (t.root).peak) (sym found.many) fits.grown;
    longest = ap (λ (x : ArrayRoot). x.peak) same ∙ (fits.peak ∙ (sym found.many ∙ sym items_are));
  }

  pub is_table : IsTable at root (table_of t names found.buckets)
  is_table = record {
    table = is_hash;
    no_empty_key = none_of [] (all_entries found.buckets) (all_lack (has_key []) found.buckets (λ i b e. none_empty (t.root).extent i b (found.each i b e).there));
  }

pub reaches : {at : ℕ → Option Sheet} {root : ℕ} (t : Trunk) (r : ArrayRoot) {old mid more new : List Bool} {entries bytes : ℕ} → HasAt at root (IsTrunkSheet t) → IsArrayRange r → HasAt at t.directory.0 (HasCell 2 0 (array_cell r.size r.count r.peak)) → IsDirectory (numbers_in t.root) r → AreSet old mid (root ∷ []) → ReachesArray at t.directory.0 mid more → ((names : Array) → IsArray at t.directory.0 names → names.size ≡ 4 → ReachesBuckets at names (t.root).extent (buckets_of (shape_of (t.root).extent)) more new entries bytes) → entries ≡ (t.root).entries → bytes ≡ (t.root).bytes → ReachesTable at root old new
reaches {at} {root} t r {old} {mid} {more} {new} first range said fits set array found all sum =
    let names = array_at at t.directory.0 in
    let size : names.size ≡ 4 = ap (λ (x : ArrayRoot). x.size) (array_numbers names r array.is range said) ∙ fits.size in
    let f = found names array.is size in
    record {
      table = table_of t names f.buckets;
      is = is_table t names r first array.is range said fits f all sum;
      set = sets_then set (sets_then array.set f.set);
    }
