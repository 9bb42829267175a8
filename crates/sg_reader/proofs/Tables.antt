-- A table stands in pages that can't be told from its own: with the slots of these, which have the same entries.
use Rattle.std.proofs.Common.{◌≡◌, ℕ, zero, suc, pred, ◌+◌, ◌<◌, ◌≤◌, ◌^◌, inl, inr, List, [], ◌∷◌, ◌++◌, length, map, slice_get, slice_index, get_or, Option, Some, None, option_map, refl, sym, ap, ◌∙◌, subst, arith}
use Rattle.std.specs.FinMap.{from_entries}
use Rattle.std.proofs.lemmas.Option.{slice_get-map, slice_get-get_or}
use Rattle.std.proofs.lemmas.List.{length-map}
use Rattle.std.proofs.lemmas.List.Sums.{sum_by-cons}
use Rattle.sg_base.specs.Page.{cell_in}
use Rattle.sg_base.specs.Sheet.{Sheet, Seen, seen}
use Rattle.sg_base.specs.Slots.{Slots}
use Rattle.sg_action.specs.States.{leaf_count}
use Rattle.sg_array.specs.Array as array
use Rattle.sg_bucket.specs.Entry.{Entry, entry_in, value_of, AreOnce}
use Rattle.sg_bucket.specs.Part.{IsBucketPage, entries_in}
use Rattle.sg_bucket.specs.Bucket.{Bucket, IsPart, IsBucket, OwnsPage, entries_of, part_at}
use Rattle.sg_hash.specs.Table.{HashTable, IsHashTable, Numbers, IsInRange, numbers_of, IsInBuckets, all_entries, entries, value_at, home_of, first_page, name_of, root_cell, root_sheet, chain_pages, page_count}
use Rattle.sg_hash.specs.Table as table
use Rattle.sg_contents.specs.Meaning.{pair_of, map_of}
use Rattle.sg_contents.specs.Limits.{ArrayLimits}
use Rattle.sg_reader.specs.Alike.{AreAlikeOn, slots_at, with_parts, with_buckets}
use Rattle.sg_reader.proofs.Carried.{carry, less_alike, array_alike}

-- SLOTS with the same cells have the same entries
pub entries_same : (xs ys : Slots) → ((k : ℕ) → cell_in xs k ≡ cell_in ys k) → entries_in xs ≡ entries_in ys
entries_same [] [] e = refl
entries_same [] (None ∷ ys) e = entries_same [] ys (λ k. e (suc k))
entries_same [] (Some c ∷ ys) e = absurd (let k : ◌≡◌ {A = Option (List ℕ)} None (Some c) = e 0 in cc)
entries_same (None ∷ xs) [] e = entries_same xs [] (λ k. e (suc k))
entries_same (Some c ∷ xs) [] e = absurd (let k : ◌≡◌ {A = Option (List ℕ)} (Some c) None = e 0 in cc)
entries_same (None ∷ xs) (None ∷ ys) e = entries_same xs ys (λ k. e (suc k))
entries_same (None ∷ xs) (Some c ∷ ys) e = absurd (let k : ◌≡◌ {A = Option (List ℕ)} None (Some c) = e 0 in cc)
entries_same (Some c ∷ xs) (None ∷ ys) e = absurd (let k : ◌≡◌ {A = Option (List ℕ)} (Some c) None = e 0 in cc)
entries_same (Some c ∷ xs) (Some d ∷ ys) e =
    let k : ◌≡◌ {A = Option (List ℕ)} (Some c) (Some d) = e 0 in
    let q : c ≡ d = cc in
    λ i. entry_in (q i) ∷ entries_same xs ys (λ n. e (suc n)) i

parts_same : (f : ℕ → Slots) (pages : List ℕ) (parts : List Slots) → length parts ≡ length pages → ((i p : ℕ) → slice_get pages i ≡ Some p → (k : ℕ) → cell_in (f p) k ≡ cell_in (part_at parts i) k) → entries_of (map f pages) ≡ entries_of parts
parts_same f [] [] e h = refl
parts_same f [] (x ∷ xs) e h = absurd (cc)
parts_same f (p ∷ ps) [] e h = absurd (cc)
parts_same f (p ∷ ps) (x ∷ xs) e h =
    let less : length xs ≡ length ps = let k : suc (length xs) ≡ suc (length ps) = e in ap pred k in
    λ i. entries_same (f p) x (h 0 p refl) i ++ parts_same f ps xs less (λ j q g. h (suc j) q g) i

part_is : (f : ℕ → Slots) (pages : List ℕ) (i p : ℕ) → slice_get pages i ≡ Some p → part_at (map f pages) i ≡ f p
part_is f [] i p e = absurd (cc)
part_is f (q ∷ ps) zero p e = ap f (let k : q ≡ p = cc in k)
part_is f (q ∷ ps) (suc i) p e = part_is f ps i p e

slots_seen : (o o' : Option Sheet) → option_map seen o' ≡ option_map seen o → (k : ℕ) → cell_in (slots_at o') k ≡ cell_in (slots_at o) k
slots_seen None None e k = refl
slots_seen None (Some y) e k = absurd (cc)
slots_seen (Some x) None e k = absurd (cc)
slots_seen (Some x) (Some y) e k = let q : seen y ≡ seen x = cc in ap (λ (s : Seen). s.cells k) q

mapped : {A B : Type 0} (g : A → B) (xs : List A) (i : ℕ) (y : B) → slice_get (map g xs) i ≡ Some y → (x : A) × (slice_get xs i ≡ Some x) × (g x ≡ y)
mapped g [] i y e = absurd (cc)
mapped g (x ∷ xs) zero y e = (x, refl, (let k : g x ≡ y = cc in k))
mapped g (x ∷ xs) (suc i) y e = mapped g xs i y e

-- A BUCKET
module _ {limit : ℕ → ℕ} {at at' : ℕ → Option Sheet} {first : ℕ} {b : Bucket} (h : IsBucket at first b) (k : AreAlikeOn limit (OwnsPage b) at at') where
  cells_are : (i p : ℕ) → slice_get b.pages i ≡ Some p → (n : ℕ) → cell_in (slots_at (at' p)) n ≡ cell_in (part_at b.parts i) n
  cells_are i p e n =
      let part = h.linked.part i p e in
      slots_seen (at p) (at' p) (k.seen_same p (i, e)) n
      ∙ (ap (λ (o : Option Sheet). cell_in (slots_at o) n) part.is ∙ ap (λ (s : Slots). cell_in s n) part.has.slots_are)

  pub bucket_entries : entries_of (with_parts at' b).parts ≡ entries_of b.parts
  bucket_entries = parts_same (λ p. slots_at (at' p)) b.pages b.parts h.linked.long cells_are

  page_alike : (next : ℕ) (slots : Slots) (x y : Sheet) → seen y ≡ seen x → IsPart next slots x → IsBucketPage y × (y.links.0 ≡ next)
  page_alike next slots x y e z = (record { kind = ap (λ (s : Seen). s.kind) e ∙ z.page.kind; cells = λ slot cell f. z.page.cells slot cell (sym (ap (λ (s : Seen). s.cells slot) e) ∙ f) }, ap (λ (s : Seen). s.links.0) e ∙ z.next_is)

  pub bucket_alike : IsBucket at' first (with_parts at' b)
  bucket_alike = record {
    linked = record {
      starts = h.linked.starts;
      long = length-map b.pages (λ p. slots_at (at' p)) ∙ refl;
      part = λ i p e.
          let r = carry {at = at} {at' = at'} {p = p} {Q = λ y. IsBucketPage y × (y.links.0 ≡ slice_index b.pages (i + 1))} (limit p) (h.linked.part i p e) (k.seen_same p (i, e)) (k.slots p (i, e)) (λ x y q c z. page_alike (slice_index b.pages (i + 1)) (part_at b.parts i) x y q z) in
          record { what = r.what; is = r.is; has = record { page = r.has.0; slots_are = sym (ap slots_at r.is) ∙ sym (part_is (λ p. slots_at (at' p)) b.pages i p e); next_is = r.has.1 } };
      fit = h.linked.fit;
      behind = h.linked.behind;
      apart = h.linked.apart;
    };
    once = subst AreOnce (sym bucket_entries) h.once;
    full = λ i less.
        let e = slice_get-get_or b.pages (i + 1) 0 less in
        let f = h.full i less in
        record { slot = f.slot; cell = f.cell; is = ap (λ (s : Slots). cell_in s f.slot) (part_is (λ p. slots_at (at' p)) b.pages (i + 1) (get_or b.pages (i + 1) 0) e) ∙ (cells_are (i + 1) (get_or b.pages (i + 1) 0) e f.slot ∙ f.is) };
  }

-- A TABLE
buckets_same : (g : Bucket → Bucket) (bs : List Bucket) → ((i : ℕ) (b : Bucket) → slice_get bs i ≡ Some b → entries_of (g b).parts ≡ entries_of b.parts) → all_entries (map g bs) ≡ all_entries bs
buckets_same g [] h = refl
buckets_same g (b ∷ bs) h = λ i. h 0 b refl i ++ buckets_same g bs (λ j c e. h (suc j) c e) i

chains_same : (g : Bucket → Bucket) (bs : List Bucket) → ((b : Bucket) → (g b).pages ≡ b.pages) → chain_pages (map g bs) ≡ chain_pages bs
chains_same g [] h = refl
chains_same g (b ∷ bs) h = sum_by-cons (λ (c : Bucket). length c.pages) (g b) (map g bs) ∙ ((λ i. length (h b i) + chains_same g bs h i) ∙ sym (sum_by-cons (λ (c : Bucket). length c.pages) b bs))

one_slot : (slots : Slots) (cell : List ℕ) → cell_in slots 0 ≡ Some cell → length slots ≤ 1 → slots ≡ Some cell ∷ []
one_slot [] cell e few = absurd (let k : ◌≡◌ {A = Option (List ℕ)} None (Some cell) = e in cc)
one_slot (x ∷ []) cell e few = let k : x ≡ Some cell = e in ap (λ y. y ∷ []) k
one_slot (x ∷ y ∷ zs) cell e few = absurd (let k : suc (suc (length zs)) ≤ 1 = few in omega (arith, k))

root_is : (y : Sheet) (cell : List ℕ) (directory : ℕ) → seen y ≡ seen (root_sheet cell directory) → length y.slots ≤ 1 → y ≡ root_sheet cell directory
root_is y cell directory e few =
    let slots = one_slot y.slots cell (ap (λ (s : Seen). s.cells 0) e) few in
    λ i. record { kind = ap (λ (s : Seen). s.kind) e i; links = ap (λ (s : Seen). s.links) e i; slots = slots i }

name_same : (g : Bucket → Bucket) → ((b : Bucket) → first_page (g b) ≡ first_page b) → (o : Option Bucket) → name_of (option_map g o) ≡ name_of o
name_same g h None = refl
name_same g h (Some b) = λ i. name_of (Some (with_first (h b i)))
  where
    with_first : ℕ → Bucket
    with_first n = record { pages = n ∷ []; parts = [] }

module _ {limit : ℕ → ℕ} {at at' : ℕ → Option Sheet} {root : ℕ} {t : HashTable} (h : IsHashTable at root t) (k : AreAlikeOn limit (table.Owns root t) at at') where
  of_bucket : (i : ℕ) (b : Bucket) → slice_get t.buckets i ≡ Some b → AreAlikeOn limit (OwnsPage b) at at'
  of_bucket i b e = less_alike (λ p o. inr (inr (record { index = i; bucket = b; is = e; owns = o }))) k

  entries_are : (i : ℕ) (b : Bucket) → slice_get t.buckets i ≡ Some b → entries_of (with_parts at' b).parts ≡ entries_of b.parts
  entries_are i b e = bucket_entries (h.built.bucket i b e) (of_bucket i b e)

  pub table_entries : entries (with_buckets at' t) ≡ entries t
  table_entries = buckets_same (with_parts at') t.buckets entries_are

  pub table_map : map_of (with_buckets at' t) ≡ map_of t
  unfolding map_of
  table_map = ap (λ (es : List Entry). from_entries (map pair_of es)) table_entries

  pub table_pages : page_count (with_buckets at' t) ≡ page_count t
  table_pages = ap (λ n. 1 + array.page_count t.names + n) (chains_same (with_parts at') t.buckets (λ b. refl))

  numbers_are : numbers_of (with_buckets at' t) ≡ numbers_of t
  numbers_are = λ i. record { shape = t.shape; entries = length (table_entries i); bytes = table.byte_count (table_entries i); peak = t.peak }

  pub table_alike : limit root ≡ 1 → ArrayLimits limit t.directory t.names → IsHashTable at' root (with_buckets at' t)
  table_alike one limits = record {
    built = record {
      trunk = record {
        first =
            let trunk = h.built.trunk in
            let r = carry {at = at} {at' = at'} {p = root} {P = λ x. x ≡ root_sheet (root_cell (numbers_of t)) t.directory} {Q = λ y. y ≡ root_sheet (root_cell (numbers_of t)) t.directory} 1
            (record { what = root_sheet (root_cell (numbers_of t)) t.directory; is = trunk.first; has = refl }) (k.seen_same root (inl refl)) (subst (λ m. leaf_count (at root) ≤ m → leaf_count (at' root) ≤ m) one (k.slots root (inl refl)))
            (λ x y q c z. root_is y (root_cell (numbers_of t)) t.directory (q ∙ ap seen z) (c (subst (λ (s : Sheet). length s.slots ≤ 1) (sym z) (let w : 1 ≤ 1 = omega arith in w)))) in
            r.is ∙ (ap Some r.has ∙ ap (λ (n : Numbers). Some (root_sheet (root_cell n) t.directory)) (sym numbers_are));
        range = subst IsInRange (sym numbers_are) h.built.trunk.range;
        names = array_alike h.built.trunk.names (less_alike (λ p o. inr (inl o)) k) limits;
        size = h.built.trunk.size;
        named = λ i. h.built.trunk.named i ∙ (sym (name_same (with_parts at') (λ b. refl) (slice_get t.buckets i)) ∙ ap name_of (sym (slice_get-map (with_parts at') t.buckets i)));
        fit = λ i b e. let m = mapped (with_parts at') t.buckets i b e in subst (λ c. first_page c < 2 ^ 32) m.2 (h.built.trunk.fit i m.0 m.1);
      };
      bucket = λ i b e. let m = mapped (with_parts at') t.buckets i b e in subst (λ c. IsBucket at' (first_page c) c) m.2 (bucket_alike (h.built.bucket i m.0 m.1) (of_bucket i m.0 m.1));
      apart = λ i j b c p e f o q.
          let m = mapped (with_parts at') t.buckets i b e in
          let n = mapped (with_parts at') t.buckets j c f in
          h.built.apart i j m.0 n.0 p m.1 n.1 (subst (λ x. OwnsPage x p) (sym m.2) o) (subst (λ x. OwnsPage x p) (sym n.2) q);
    };
    many = length-map t.buckets (with_parts at') ∙ h.many;
    home = λ i b key e ne. let m = mapped (with_parts at') t.buckets i b e in
        subst (λ c. value_of (entries_of c.parts) key ≡ None) m.2 (ap (λ (es : List Entry). value_of es key) (entries_are i m.0 m.1) ∙ h.home i m.0 key m.1 ne);
    grown = subst (λ n. n ≤ table.most_buckets t.peak) (sym (length-map t.buckets (with_parts at'))) h.grown;
    longest = h.longest;
  }

  pub no_key : value_at t [] ≡ None → value_at (with_buckets at' t) [] ≡ None
  no_key e = ap (λ (es : List Entry). value_of es []) table_entries ∙ e
