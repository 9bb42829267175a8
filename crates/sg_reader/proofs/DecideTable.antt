-- Whether a table stands at a root is decided.
use Rattle.std.proofs.Common.{◌≡◌, ℕ, zero, suc, ◌+◌, ◌<◌, ◌≤◌, ◌^◌, ◌⊎◌, inl, inr, Bool, true, false, cond, List, [], ◌∷◌, ◌++◌, length, drop, map, slice_get, Option, Some, None, option_map, refl, sym, ap, ◌∙◌, arith}
use Rattle.std.specs.Prelude.{if◌then◌else◌}
use Rattle.std.specs.List.{count_by}
use Rattle.std.specs.Str.{bytes_eq}
use Rattle.std.proofs.lemmas.Option.{slice_get-map}
use Rattle.std.proofs.lemmas.Bool.{cases_lt}
use Rattle.std.proofs.lemmas.List.Sums.{sum_by-cons}
use Rattle.std.proofs.lemmas.Slice.Eq.{bytes_eq-Decides}
use Rattle.byteorder.specs.Endian.{little_bytes, little_number}
use Rattle.byteorder.specs.Numbers.{little_number-reads_back}
use Rattle.sg_base.specs.Page.{cell_in}
use Rattle.sg_base.specs.Sheet.{Sheet}
use Rattle.sg_base.specs.Slots.{cell_bytes}
use Rattle.sg_model.proofs.Parts.{same_lists}
use Rattle.sg_linear.specs.Extent.{Shape, buckets_of}
use Rattle.sg_linear.proofs.Growing.{low_fits}
use Rattle.sg_array.specs.Array.{Array}
use Rattle.sg_bucket.specs.Entry.{Entry, value_of}
use Rattle.sg_bucket.specs.Bucket.{Bucket, IsBucket, entries_of}
use Rattle.sg_hash.specs.Table.{HashTable, IsHashTable, IsBuilt, IsTrunk, IsInRange, Numbers, AreApart, AreHome, numbers_of, value_at, home_of, first_page, name_of, root_cell, root_sheet, most_buckets}
use Rattle.sg_space.specs.Units.{HasAt}
use Rattle.sg_contents.specs.Standing.{IsTable}
use Rattle.sg_once.proofs.Pages.{none_behind}
use Rattle.sg_once.proofs.Deciding.{Dec, dec_map, dec_both, dec_if, dec_number, dec_less, dec_most, dec_cell, dec_below, dec_each, dec_at}
use Rattle.sg_once.proofs.DecideArray.{slots_on, cell_on, array_said, array_is, dec_is}
use Rattle.sg_once.proofs.DecideOthers.{link_on, search, dec_cells, bucket_said, bucket_is, dec_bucket}

-- THE TABLE that pages say, each bucket of at most n pages

abbrev first_said : (ℕ → Option Sheet) → ℕ → List ℕ
first_said at root = cell_bytes (cell_on at root 0)

abbrev bucket_named : ℕ → (ℕ → Option Sheet) → List ℕ → Bucket
bucket_named n at item = bucket_said n at (little_number 4 item)

abbrev shape_said : List ℕ → Shape
shape_said cell = record { level = little_number 1 cell; split = little_number 4 (drop 1 cell) }

abbrev table_of : ℕ → (ℕ → Option Sheet) → List ℕ → ℕ → Array → HashTable
table_of n at cell directory names = record { shape = shape_said cell; peak = little_number 8 (drop 17 cell); directory = directory; names = names; buckets = map (bucket_named n at) names.items }

abbrev pub table_said : ℕ → (ℕ → Option Sheet) → ℕ → HashTable
table_said n at root = table_of n at (first_said at root) (link_on (at root)) (array_said at (link_on (at root)))

-- its buckets' pages are below a number
abbrev pub BucketsBelow : ℕ → List Bucket → Type 0
BucketsBelow n bs = (i : ℕ) (b : Bucket) → slice_get bs i ≡ Some b → (k p : ℕ) → slice_get b.pages k ≡ Some p → p < n

module _ (n : ℕ) {at : ℕ → Option Sheet} {root : ℕ} {t : HashTable} (h : IsHashTable at root t) (low : BucketsBelow n t.buckets) where
  first_is : first_said at root ≡ root_cell (numbers_of t)
  first_is = ap (λ o. cell_bytes (cell_in (slots_on o) 0)) h.built.trunk.first

  directory_is : link_on (at root) ≡ t.directory
  directory_is = ap link_on h.built.trunk.first

  names_is : array_said at (link_on (at root)) ≡ t.names
  names_is = (λ k. array_said at (directory_is k)) ∙ array_is h.built.trunk.names

  level_is : little_number 1 (root_cell (numbers_of t)) ≡ t.shape.level
  level_is =
      let l = h.built.trunk.range.level in
      let small : t.shape.level < 2 ^ 8 = omega (arith, l) in
      little_number-reads_back 1 t.shape.level (little_bytes 4 t.shape.split ++ (little_bytes 4 (numbers_of t).entries ++ (little_bytes 8 (numbers_of t).bytes ++ little_bytes 8 t.peak))) small

  split_is : little_number 4 (drop 1 (root_cell (numbers_of t))) ≡ t.shape.split
  split_is =
      let pow : 2 ^ t.shape.level ≤ 1048576 = low_fits t.shape.level h.built.trunk.range.level in
      let within = h.built.trunk.range.split in
      let small : t.shape.split < 2 ^ 32 = omega (arith, pow, within) in
      little_number-reads_back 4 t.shape.split (little_bytes 4 (numbers_of t).entries ++ (little_bytes 8 (numbers_of t).bytes ++ little_bytes 8 t.peak)) small

  peak_is : little_number 8 (drop 17 (root_cell (numbers_of t))) ≡ t.peak
  peak_is = little_number-reads_back 8 t.peak [] h.built.trunk.range.peak

  named_is : (i : ℕ) (o : Option Bucket) → slice_get t.buckets i ≡ o → option_map (bucket_named n at) (name_of o) ≡ o
  named_is i None e = refl
  named_is i (Some b) e =
      ap Some (ap (bucket_said n at) (little_number-reads_back 4 (first_page b) [] (h.built.trunk.fit i b e)) ∙ bucket_is n (h.built.bucket i b e) (low i b e))

  buckets_is : map (bucket_named n at) t.names.items ≡ t.buckets
  buckets_is = same_lists (map (bucket_named n at) t.names.items) t.buckets (λ i.
      slice_get-map (bucket_named n at) t.names.items i ∙ (ap (option_map (bucket_named n at)) (h.built.trunk.named i) ∙ named_is i (slice_get t.buckets i) refl))

  pub table_is : table_said n at root ≡ t
  table_is = (λ k. table_of n at (first_is k) (directory_is k) (names_is k)) ∙ (λ k. record {
    shape = record { level = level_is k; split = split_is k };
    peak = peak_is k;
    directory = t.directory;
    names = t.names;
    buckets = buckets_is k;
  })

-- WHETHER IT IS THERE
dec_sheet : (x y : Sheet) → Dec (x ≡ y)
dec_sheet x y = dec_map (λ p. λ i. record { kind = p.0 i; links = (p.1.0 i, p.1.1.0 i); slots = p.1.1.1 i }) (λ e. (ap (λ (s : Sheet). s.kind) e, (ap (λ (s : Sheet). s.links.0) e, (ap (λ (s : Sheet). s.links.1) e, ap (λ (s : Sheet). s.slots) e))))
    (dec_both (dec_number x.kind y.kind) (dec_both (dec_number x.links.0 y.links.0) (dec_both (dec_number x.links.1 y.links.1) (dec_cells x.slots y.slots))))

dec_first : (at : ℕ → Option Sheet) (root : ℕ) (y : Sheet) → Dec (at root ≡ Some y)
dec_first at root y = dec_map (λ (h : HasAt at root (λ x. x ≡ y)). h.is ∙ ap Some h.has) (λ e. record { what = y; is = e; has = refl }) (dec_at at root (λ x. x ≡ y) (λ x. dec_sheet x y))

dec_range : (m : Numbers) → Dec (IsInRange m)
dec_range m = dec_map (λ p. record { level = p.0; split = p.1.0; entries = p.1.1.0; bytes = p.1.1.1.0; peak = p.1.1.1.1 }) (λ h. (h.level, (h.split, (h.entries, (h.bytes, h.peak)))))
    (dec_both (dec_most m.shape.level 20) (dec_both (dec_less m.shape.split (2 ^ m.shape.level)) (dec_both (dec_less m.entries (2 ^ 32)) (dec_both (dec_less m.bytes (2 ^ 64)) (dec_less m.peak (2 ^ 64))))))

dec_named : (items : List (List ℕ)) (bs : List Bucket) → Dec ((i : ℕ) → slice_get items i ≡ name_of (slice_get bs i))
dec_named items bs = dec_map all (λ h. λ i less. h i) (dec_below (length items + length bs) (λ i. slice_get items i ≡ name_of (slice_get bs i)) (λ i. dec_cell (slice_get items i) (name_of (slice_get bs i))))
  where
    all : ((i : ℕ) → i < length items + length bs → slice_get items i ≡ name_of (slice_get bs i)) → (i : ℕ) → slice_get items i ≡ name_of (slice_get bs i)
    all f i = go (cases_lt i (length items + length bs))
      where
        go : (i < length items + length bs) ⊎ (length items + length bs ≤ i) → slice_get items i ≡ name_of (slice_get bs i)
        go (inl less) = f i less
        go (inr past) = none_behind items i (omega (arith, past)) ∙ ap name_of (sym (none_behind bs i (omega (arith, past))))

dec_trunk : (at : ℕ → Option Sheet) (root : ℕ) (m : Numbers) (t : HashTable) → Dec (IsTrunk at root m t)
dec_trunk at root m t =
    dec_map (λ p. record { first = p.0; range = p.1.0; names = p.1.1.0; size = p.1.1.1.0; named = p.1.1.1.1.0; fit = p.1.1.1.1.1 }) (λ h. (h.first, (h.range, (h.names, (h.size, (h.named, h.fit))))))
    (dec_both (dec_first at root (root_sheet (root_cell m) t.directory)) (dec_both (dec_range m) (dec_both (dec_is at t.directory t.names) (dec_both (dec_number t.names.size 4)
    (dec_both (dec_named t.names.items t.buckets) (dec_each t.buckets (λ i b. first_page b < 2 ^ 32) (λ i b. dec_less (first_page b) (2 ^ 32))))))))

dec_apart_buckets : (bs : List Bucket) → Dec (AreApart bs)
dec_apart_buckets bs =
    dec_map (λ f. λ i j b c p e g o q. f i b e j c g o.0 p o.1 q.0 p q.1 refl) (λ h. λ i b e j c g k p o l q r same. h i j b c p e g (k, o) (l, r ∙ ap Some same))
    (dec_each bs (λ i b. (j : ℕ) (c : Bucket) → slice_get bs j ≡ Some c → (k p : ℕ) → slice_get b.pages k ≡ Some p → (l q : ℕ) → slice_get c.pages l ≡ Some q → q ≡ p → i ≡ j)
    (λ i b. dec_each bs (λ j c. (k p : ℕ) → slice_get b.pages k ≡ Some p → (l q : ℕ) → slice_get c.pages l ≡ Some q → q ≡ p → i ≡ j)
    (λ j c. dec_each b.pages (λ k p. (l q : ℕ) → slice_get c.pages l ≡ Some q → q ≡ p → i ≡ j)
    (λ k p. dec_each c.pages (λ l q. q ≡ p → i ≡ j) (λ l q. dec_if (dec_number q p) (dec_number i j))))))

dec_built : (at : ℕ → Option Sheet) (root : ℕ) (m : Numbers) (t : HashTable) → Dec (IsBuilt at root m t)
dec_built at root m t = dec_map (λ p. record { trunk = p.0; bucket = p.1.0; apart = p.1.1 }) (λ h. (h.trunk, (h.bucket, h.apart)))
    (dec_both (dec_trunk at root m t) (dec_both (dec_each t.buckets (λ i b. IsBucket at (first_page b) b) (λ i b. dec_bucket at (first_page b) b)) (dec_apart_buckets t.buckets)))

-- keys that no entry has have no value, and those of entries have one
no_value : (es : List Entry) (key : List ℕ) → count_by (λ (x : Entry). bytes_eq x.key key) es ≡ 0 → value_of es key ≡ None
no_value [] key e = refl
no_value (x ∷ es) key e = go (bytes_eq x.key key) refl (no_value es key)
  where
    go : (b : Bool) → bytes_eq x.key key ≡ b → (count_by (λ (y : Entry). bytes_eq y.key key) es ≡ 0 → value_of es key ≡ None) → value_of (x ∷ es) key ≡ None
    go true f rest = absurd (let c = sum_by-cons (λ (y : Entry). cond {A = ℕ} (bytes_eq y.key key) 1 0) x es in let w : cond {A = ℕ} (bytes_eq x.key key) 1 0 ≡ 1 = ap (λ (b : Bool). cond {A = ℕ} b 1 0) f in omega (arith, c, w, e))
    go false f rest = ap (λ (b : Bool). if b then Some x.value else value_of es key) f ∙ rest (let c = sum_by-cons (λ (y : Entry). cond {A = ℕ} (bytes_eq y.key key) 1 0) x es in omega (arith, c, e))

some_value : (es : List Entry) (i : ℕ) (x : Entry) → slice_get es i ≡ Some x → value_of es x.key ≡ None → ⊥
some_value [] i x e f = absurd (cc)
some_value (y ∷ es) zero x e f =
    let same : y ≡ x = cc in
    let k : value_of (y ∷ es) x.key ≡ Some y.value = ap (λ (b : Bool). if b then Some y.value else value_of es x.key) ((bytes_eq-Decides y.key x.key).1 (ap (λ (z : Entry). z.key) same)) in
    let w : ◌≡◌ {A = Option (List ℕ)} None (Some y.value) = sym f ∙ k in cc
some_value (y ∷ es) (suc i) x e f = go (bytes_eq y.key x.key) f (some_value es i x e)
  where
    go : (b : Bool) → (if b then Some y.value else value_of es x.key) ≡ None → (value_of es x.key ≡ None → ⊥) → ⊥
    go true g rest = let w : ◌≡◌ {A = Option (List ℕ)} (Some y.value) None = g in cc
    go false g rest = rest g

dec_home : (shape : Shape) (bs : List Bucket) → Dec (AreHome shape bs)
dec_home shape bs = dec_map home back (dec_each bs (λ i b. (k : ℕ) (e : Entry) → slice_get (entries_of b.parts) k ≡ Some e → home_of shape e.key ≡ i) (λ i b. dec_each (entries_of b.parts) (λ k e. home_of shape e.key ≡ i) (λ k e. dec_number (home_of shape e.key) i)))
  where
    home : ((i : ℕ) (b : Bucket) → slice_get bs i ≡ Some b → (k : ℕ) (e : Entry) → slice_get (entries_of b.parts) k ≡ Some e → home_of shape e.key ≡ i) → AreHome shape bs
    home f i b key e ne = go (search (λ (x : Entry). bytes_eq x.key key) (entries_of b.parts))
      where
        go : ((k : ℕ) × (x : Entry) × (slice_get (entries_of b.parts) k ≡ Some x) × (bytes_eq x.key key ≡ true)) ⊎ (count_by (λ (x : Entry). bytes_eq x.key key) (entries_of b.parts) ≡ 0) → value_of (entries_of b.parts) key ≡ None
        go (inl h) = absurd (ne (ap (home_of shape) (sym ((bytes_eq-Decides h.1.key key).0 h.3)) ∙ f i b e h.0 h.1 h.2))
        go (inr h) = no_value (entries_of b.parts) key h

    back : AreHome shape bs → (i : ℕ) (b : Bucket) → slice_get bs i ≡ Some b → (k : ℕ) (e : Entry) → slice_get (entries_of b.parts) k ≡ Some e → home_of shape e.key ≡ i
    back h i b f k e g = go (dec_number (home_of shape e.key) i)
      where
        go : Dec (home_of shape e.key ≡ i) → home_of shape e.key ≡ i
        go (inl is) = is
        go (inr ne) = absurd (some_value (entries_of b.parts) k e g (h i b e.key f ne))

pub dec_table : (at : ℕ → Option Sheet) (root : ℕ) (t : HashTable) → Dec (IsTable at root t)
dec_table at root t =
    dec_map (λ p. record { table = record { built = p.0; many = p.1.0; home = p.1.1.0; grown = p.1.1.1.0; longest = p.1.1.1.1.0 }; no_empty_key = p.1.1.1.1.1 }) (λ h. (h.table.built, (h.table.many, (h.table.home, (h.table.grown, (h.table.longest, h.no_empty_key))))))
    (dec_both (dec_built at root (numbers_of t) t) (dec_both (dec_number (length t.buckets) (buckets_of t.shape)) (dec_both (dec_home t.shape t.buckets) (dec_both (dec_most (length t.buckets) (most_buckets t.peak))
    (dec_both (dec_number t.names.peak (length t.names.items)) (dec_cell (value_at t []) None))))))
