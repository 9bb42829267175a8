-- Whether a bucket, and whether a blob, stands in some pages is decided.
use Rattle.std.proofs.Common.{◌≡◌, ℕ, zero, suc, ◌+◌, ◌-◌, ◌<◌, ◌≤◌, ◌^◌, ◌==◌, ◌⊎◌, inl, inr, Bool, true, false, cond, List, [], ◌∷◌, length, map, slice_get, slice_index, get_or, Option, Some, None, refl, sym, ap, ◌∙◌, subst, arith}
use Rattle.std.specs.Prelude.{if◌then◌else◌}
use Rattle.std.specs.List.{count_by}
use Rattle.std.specs.Str.{bytes_eq}
use Rattle.std.proofs.lemmas.Option.{slice_get-get_or}
use Rattle.std.proofs.lemmas.Bool.{eq-eqb, ne_eqb}
use Rattle.std.proofs.lemmas.Slice.Eq.{bytes_eq-Decides}
use Rattle.std.proofs.lemmas.List.{length-map}
use Rattle.std.proofs.lemmas.List.Sums.{sum_by-cons}
use Rattle.sg_base.specs.Page.{cell_in}
use Rattle.sg_base.specs.Sheet.{Sheet}
use Rattle.sg_base.specs.Slots.{Slots}
use Rattle.sg_space.specs.Units.{HasAt}
use Rattle.sg_space.proofs.Few.{few_elements}
use Rattle.sg_bucket.specs.Entry.{Entry, IsEntryCell, key_size, value_size, AreOnce}
use Rattle.sg_bucket.specs.Part.{IsBucketPage, AreEntries}
use Rattle.sg_bucket.specs.Bucket.{Bucket, IsPart, IsLinked, IsBucket, HasEntry, entries_of, part_at}
use Rattle.sg_once.specs.Claims.{BucketBelow}
use Rattle.sg_once.proofs.Pages.{zero_past, index_is, past_more}
use Rattle.sg_once.proofs.Others.{same_parts, after}
use Rattle.sg_once.proofs.Deciding.{Dec, dec_map, dec_both, dec_if, dec_number, dec_less, dec_most, dec_cell, dec_below, dec_each, dec_at, collect, collected}
use Rattle.sg_once.proofs.DecideArray.{slots_on}

-- CHAINS of pages that name the next one, 0 none
abbrev pub link_on : Option Sheet → ℕ
link_on None = 0
link_on (Some sheet) = sheet.links.0

abbrev pub if_some : ℕ → Option ℕ
if_some n = if n == 0 then None else Some n

abbrev pub next_on : (ℕ → Option Sheet) → Option ℕ → Option ℕ
next_on at None = None
next_on at (Some p) = if_some (link_on (at p))

abbrev pub chain_said : (ℕ → Option Sheet) → (first : ℕ) → ℕ → Option ℕ
chain_said at first zero = Some first
chain_said at first (suc i) = next_on at (chain_said at first i)

if_zero : (n : ℕ) → n ≡ 0 → if_some n ≡ None
if_zero n e = ap (λ (b : Bool). if b then None else Some n) (eq-eqb n 0 e)

if_more : (n : ℕ) → 0 < n → if_some n ≡ Some n
if_more n less = ap (λ (b : Bool). if b then None else Some n) (ne_eqb n 0 (λ e. omega (arith, e, less)))

module _ (at : ℕ → Option Sheet) (first : ℕ) (ps : List ℕ) (starts : slice_get ps 0 ≡ Some first) (links : (i p : ℕ) → slice_get ps i ≡ Some p → link_on (at p) ≡ slice_index ps (suc i)) (up : (i p : ℕ) → slice_get ps (suc i) ≡ Some p → 0 < p) where
  next_is : (i : ℕ) (o : Option ℕ) → slice_get ps i ≡ o → (n : Option ℕ) → slice_get ps (suc i) ≡ n → next_on at o ≡ slice_get ps (suc i)
  next_is i None e n f = sym (past_more ps i e)
  next_is i (Some p) e (Some n) f = ap if_some (links i p e ∙ index_is ps (suc i) n f) ∙ (if_more n (up i n f) ∙ sym f)
  next_is i (Some p) e None f = ap if_some (links i p e ∙ zero_past ps (suc i) f) ∙ (if_zero 0 refl ∙ sym f)

  pub chain_is : (i : ℕ) → chain_said at first i ≡ slice_get ps i
  chain_is zero = sym starts
  chain_is (suc i) = ap (next_on at) (chain_is i) ∙ next_is i (slice_get ps i) refl (slice_get ps (suc i)) refl

-- SEARCHES
pub search : {A : Type 0} (p : A → Bool) (xs : List A) → ((i : ℕ) × (x : A) × (slice_get xs i ≡ Some x) × (p x ≡ true)) ⊎ (count_by p xs ≡ 0)
search p [] = inr refl
search {A} p (x ∷ xs) = go (p x) refl (search p xs)
  where
    none : p x ≡ false → count_by p xs ≡ 0 → count_by p (x ∷ xs) ≡ 0
    none e h = sum_by-cons (λ y. cond {A = ℕ} (p y) 1 0) x xs ∙ ((λ i. cond {A = ℕ} (e i) 1 0 + h i) ∙ refl)

    go : (b : Bool) → p x ≡ b → ((i : ℕ) × (y : A) × (slice_get xs i ≡ Some y) × (p y ≡ true)) ⊎ (count_by p xs ≡ 0) → ((i : ℕ) × (y : A) × (slice_get (x ∷ xs) i ≡ Some y) × (p y ≡ true)) ⊎ (count_by p (x ∷ xs) ≡ 0)
    go true e h = inl (0, x, refl, e)
    go false e (inl h) = inl (suc h.0, h.1, h.2, h.3)
    go false e (inr h) = inr (none e h)

pub dec_cells : (xs ys : Slots) → Dec (xs ≡ ys)
dec_cells [] [] = inl refl
dec_cells [] (y ∷ ys) = inr (λ e. cc)
dec_cells (x ∷ xs) [] = inr (λ e. cc)
dec_cells (x ∷ xs) (y ∷ ys) = dec_map (λ p. λ i. p.0 i ∷ p.1 i) (λ e. ((let k : x ∷ xs ≡ y ∷ ys = e in (let j : x ≡ y = cc in j)), (let k : x ∷ xs ≡ y ∷ ys = e in (let j : xs ≡ ys = cc in j)))) (dec_both (dec_cell x y) (dec_cells xs ys))

-- what a slot has
cell_get : (slots : Slots) (k : ℕ) (cell : List ℕ) → cell_in slots k ≡ Some cell → slice_get slots k ≡ Some (Some cell)
cell_get [] k cell e = absurd (let z : ◌≡◌ {A = Option (List ℕ)} None (Some cell) = e in cc)
cell_get (x ∷ xs) zero cell e = ap Some (let z : x ≡ Some cell = e in z)
cell_get (x ∷ xs) (suc k) cell e = cell_get xs k cell e

get_cell : (slots : Slots) (k : ℕ) (o : Option (List ℕ)) → slice_get slots k ≡ Some o → cell_in slots k ≡ o
get_cell [] k o e = absurd (cc)
get_cell (x ∷ xs) zero o e = let z : Some x ≡ Some o = e in (let w : x ≡ o = cc in w)
get_cell (x ∷ xs) (suc k) o e = get_cell xs k o e

dec_entry : (cell : List ℕ) → Dec (IsEntryCell cell)
dec_entry cell = dec_map (λ p. record { whole = p.0; key = p.1.0; value = p.1.1 }) (λ h. (h.whole, (h.key, h.value))) (dec_both (dec_number (4 + (key_size cell + value_size cell)) (length cell)) (dec_both (dec_most (key_size cell) 128) (dec_most (value_size cell) 1024)))

dec_some_entry : (o : Option (List ℕ)) → Dec ((cell : List ℕ) → o ≡ Some cell → IsEntryCell cell)
dec_some_entry None = inl (λ cell e. absurd (let z : ◌≡◌ {A = Option (List ℕ)} None (Some cell) = e in cc))
dec_some_entry (Some c) = dec_map (λ h. λ cell e. subst IsEntryCell (let z : ◌≡◌ {A = Option (List ℕ)} (Some c) (Some cell) = e in (let w : c ≡ cell = cc in w)) h) (λ f. f c refl) (dec_entry c)

dec_entries : (slots : Slots) → Dec (AreEntries slots)
dec_entries slots =
    dec_map (λ f. λ slot cell e. f slot (Some cell) (cell_get slots slot cell e) cell refl) (λ h. λ i o e. λ cell f. h i cell (get_cell slots i o e ∙ f))
    (dec_each slots (λ i o. (cell : List ℕ) → o ≡ Some cell → IsEntryCell cell) (λ i o. dec_some_entry o))

dec_has : (slots : Slots) → Dec (HasEntry slots)
dec_has [] = inr (λ h. (let z : ◌≡◌ {A = Option (List ℕ)} None (Some h.cell) = h.is in cc))
dec_has (Some c ∷ xs) = inl (record { slot = 0; cell = c; is = refl })
dec_has (None ∷ xs) = dec_map (λ h. record { slot = suc h.slot; cell = h.cell; is = h.is }) back (dec_has xs)
  where
    at_slot : (k : ℕ) (cell : List ℕ) → cell_in (None ∷ xs) k ≡ Some cell → HasEntry xs
    at_slot zero cell e = absurd (let z : ◌≡◌ {A = Option (List ℕ)} None (Some cell) = e in cc)
    at_slot (suc k) cell e = record { slot = k; cell = cell; is = e }

    back : HasEntry (None ∷ xs) → HasEntry xs
    back h = at_slot h.slot h.cell h.is

-- each key is that of one entry: to be looked at for the keys of the entries alone
pub dec_once : (es : List Entry) → Dec (AreOnce es)
dec_once es = dec_map once (λ h. λ i e f. h e.key) (dec_each es (λ i e. count_by (λ (x : Entry). bytes_eq x.key e.key) es ≤ 1) (λ i e. dec_most (count_by (λ (x : Entry). bytes_eq x.key e.key) es) 1))
  where
    once : ((i : ℕ) (e : Entry) → slice_get es i ≡ Some e → count_by (λ (x : Entry). bytes_eq x.key e.key) es ≤ 1) → AreOnce es
    once f key = go (search (λ (x : Entry). bytes_eq x.key key) es)
      where
        go : ((i : ℕ) × (x : Entry) × (slice_get es i ≡ Some x) × (bytes_eq x.key key ≡ true)) ⊎ (count_by (λ (x : Entry). bytes_eq x.key key) es ≡ 0) → count_by (λ (x : Entry). bytes_eq x.key key) es ≤ 1
        go (inl h) = subst (λ k. count_by (λ (x : Entry). bytes_eq x.key k) es ≤ 1) ((bytes_eq-Decides h.1.key key).0 h.3) (f h.0 h.1 h.2)
        go (inr h) = omega (arith, h)

-- A BUCKET
dec_page : (x : Sheet) → Dec (IsBucketPage x)
dec_page x = dec_map (λ p. record { kind = p.0; cells = p.1 }) (λ h. (h.kind, h.cells)) (dec_both (dec_number x.kind 6) (dec_entries x.slots))

dec_part : (next : ℕ) (slots : Slots) (x : Sheet) → Dec (IsPart next slots x)
dec_part next slots x = dec_map (λ p. record { page = p.0; slots_are = p.1.0; next_is = p.1.1 }) (λ h. (h.page, (h.slots_are, h.next_is))) (dec_both (dec_page x) (dec_both (dec_cells x.slots slots) (dec_number x.links.0 next)))

pub dec_start : (o : Option ℕ) (n : ℕ) → Dec (o ≡ Some n)
dec_start None n = inr (λ e. cc)
dec_start (Some m) n = dec_map (λ e. ap Some e) (λ e. (let k : Some m ≡ Some n = e in (let j : m ≡ n = cc in j))) (dec_number m n)

pub dec_apart : (ps : List ℕ) → Dec ((i j p : ℕ) → slice_get ps i ≡ Some p → slice_get ps j ≡ Some p → i ≡ j)
dec_apart ps = dec_map (λ p. λ i j q e f. p i q e j q f refl) (λ h. λ i q e j r f same. h i j q e (subst (λ n. slice_get ps j ≡ Some n) same f))
    (dec_each ps (λ i q. (j r : ℕ) → slice_get ps j ≡ Some r → r ≡ q → i ≡ j) (λ i q. dec_each ps (λ j r. r ≡ q → i ≡ j) (λ j r. dec_if (dec_number r q) (dec_number i j))))

dec_behind : (ps : List ℕ) → Dec ((i p : ℕ) → slice_get ps (i + 1) ≡ Some p → 0 < p)
dec_behind ps = dec_map (λ f. λ i p e. f (i + 1) p e (omega arith)) (λ h. λ j p e some. h (j - 1) p (ap (slice_get ps) (let z : (j - 1) + 1 ≡ j = omega (arith, some) in z) ∙ e))
    (dec_each ps (λ j p. 1 ≤ j → 0 < p) (λ j p. dec_if (dec_most 1 j) (dec_less 0 p)))

dec_linked : (at : ℕ → Option Sheet) (first : ℕ) (b : Bucket) → Dec (IsLinked at first b)
dec_linked at first b =
    dec_map (λ p. record { starts = p.0; long = p.1.0; part = p.1.1.0; fit = p.1.1.1.0; behind = p.1.1.1.1.0; apart = p.1.1.1.1.1 }) (λ h. (h.starts, (h.long, (h.part, (h.fit, (h.behind, h.apart))))))
    (dec_both (dec_start (slice_get b.pages 0) first) (dec_both (dec_number (length b.parts) (length b.pages))
    (dec_both (dec_each b.pages (λ i p. HasAt at p (IsPart (slice_index b.pages (i + 1)) (part_at b.parts i))) (λ i p. dec_at at p (IsPart (slice_index b.pages (i + 1)) (part_at b.parts i)) (dec_part (slice_index b.pages (i + 1)) (part_at b.parts i))))
    (dec_both (dec_each b.pages (λ i p. p < 2 ^ 32) (λ i p. dec_less p (2 ^ 32))) (dec_both (dec_behind b.pages) (dec_apart b.pages))))))

pub dec_bucket : (at : ℕ → Option Sheet) (first : ℕ) (b : Bucket) → Dec (IsBucket at first b)
dec_bucket at first b =
    dec_map (λ p. record { linked = p.0; once = p.1.0; full = λ i less. p.1.1 i (omega (arith, less)) less }) (λ h. (h.linked, (h.once, (λ i low less. h.full i less))))
    (dec_both (dec_linked at first b) (dec_both (dec_once (entries_of b.parts))
    (dec_below (length b.pages) (λ i. i + 1 < length b.pages → HasEntry (part_at b.parts (i + 1))) (λ i. dec_if (dec_less (i + 1) (length b.pages)) (dec_has (part_at b.parts (i + 1)))))))

-- the bucket that pages say, of at most so many pages
abbrev pub bucket_said : ℕ → (ℕ → Option Sheet) → ℕ → Bucket
bucket_said n at first = record { pages = collect (chain_said at first) n; parts = map (λ p. slots_on (at p)) (collect (chain_said at first) n) }

module _ (n : ℕ) {at : ℕ → Option Sheet} {first : ℕ} {b : Bucket} (h : IsBucket at first b) (low : (i p : ℕ) → slice_get b.pages i ≡ Some p → p < n) where
  chain_links : (i p : ℕ) → slice_get b.pages i ≡ Some p → link_on (at p) ≡ slice_index b.pages (suc i)
  chain_links i p e = let part = h.linked.part i p e in ap link_on part.is ∙ (part.has.next_is ∙ ap (slice_index b.pages) (after i))

  pages_is : collect (chain_said at first) n ≡ b.pages
  pages_is = collected n (chain_said at first) b.pages (few_elements b.pages n h.linked.apart low) (λ i less. chain_is at first b.pages h.linked.starts chain_links (λ j p e. h.linked.behind j p (ap (slice_get b.pages) (after j) ∙ e)) i)

  parts_is : map (λ p. slots_on (at p)) b.pages ≡ b.parts
  parts_is = same_parts (map (λ p. slots_on (at p)) b.pages) b.parts (length-map b.pages (λ p. slots_on (at p)) ∙ sym h.linked.long) (λ i less.
      let j : i < length b.pages = subst (λ m. i < m) (length-map b.pages (λ p. slots_on (at p))) less in
      let part = h.linked.part i (get_or b.pages i 0) (slice_get-get_or b.pages i 0 j) in
      mapped_part (λ p. slots_on (at p)) b.pages i (get_or b.pages i 0) (slice_get-get_or b.pages i 0 j) ∙ (ap slots_on part.is ∙ part.has.slots_are))
    where
      mapped_part : (f : ℕ → Slots) (ps : List ℕ) (i p : ℕ) → slice_get ps i ≡ Some p → part_at (map f ps) i ≡ f p
      mapped_part f [] i p e = absurd (cc)
      mapped_part f (q ∷ ps) zero p e = ap f (let k : q ≡ p = cc in k)
      mapped_part f (q ∷ ps) (suc i) p e = mapped_part f ps i p e

  pub bucket_is : bucket_said n at first ≡ b
  bucket_is = λ i. record { pages = pages_is i; parts = ((λ k. map (λ p. slots_on (at p)) (pages_is k)) ∙ parts_is) i }

-- A BUCKET STANDS THERE, in pages below a number, or none does
pub decide_bucket : (n : ℕ) (at : ℕ → Option Sheet) (first : ℕ) → Dec ((b : Bucket) × BucketBelow n at first b)
decide_bucket n at first = go (dec_both (dec_bucket at first (bucket_said n at first)) (dec_each (bucket_said n at first).pages (λ i p. p < n) (λ i p. dec_less p n)))
  where
    go : Dec (IsBucket at first (bucket_said n at first) × ((i p : ℕ) → slice_get (bucket_said n at first).pages i ≡ Some p → p < n)) → Dec ((b : Bucket) × BucketBelow n at first b)
    go (inl h) = inl (bucket_said n at first, record { bucket = h.0; low = h.1 })
    go (inr never) = inr (λ p. never (subst (λ b. IsBucket at first b × ((i q : ℕ) → slice_get b.pages i ≡ Some q → q < n)) (sym (bucket_is n p.1.bucket p.1.low)) (p.1.bucket, p.1.low)))
