-- A bucket of a table is split: its entries are copied to a new one, which the directory names then, and are removed from it.
use Rattle.std.proofs.Common.{◌≡◌, ◌≢◌, ℕ, ◌+◌, ◌*◌, ◌<◌, ◌≤◌, ◌^◌, ◌++◌, max, true, false, not, List, [], ◌∷◌, length, Option, Some, None, IsSome, sym, ap, subst, ◌∙◌, refl, arith, set, slice_get, inl, inr}
use Rattle.std.specs.List.{sum_by}
use Rattle.std.proofs.lemmas.Bool.Decides.{nat_tests}
use Rattle.std.proofs.lemmas.List.{length-set, length_push}
use Rattle.std.proofs.lemmas.List.Sums.{sum_by_push}
use Rattle.byteorder.specs.Endian.{little_bytes}
use Rattle.sg_array.specs.Array.{Array, IsArray}
use Rattle.sg_array.specs.Calls.{IsRoomy, CanPush, IsPushed}
use Rattle.sg_array.specs.Calls as array_calls
use Rattle.sg_base.specs.Sheet.{Sheet}
use Rattle.sg_bucket.specs.Bucket.{Bucket, IsLinked, IsBucket, entries_of}
use Rattle.sg_bucket.specs.Calls.{IsSound}
use Rattle.sg_bucket.specs.Division.{CanBranch, IsBranch, Branched, IsPruned, those_at, those_not_at}
use Rattle.sg_bucket.specs.Entry.{Entry, entry_size, value_of}
use Rattle.sg_bucket.specs.Steps as bucket
use Rattle.sg_bucket.proofs.Filters.{value_of-filter, sums-filter}
use Rattle.sg_bucket.proofs.Owning.{becomes_then}
use Rattle.sg_linear.specs.Address.{is_at}
use Rattle.sg_linear.specs.declared.address.Address.{Address}
use Rattle.sg_linear.specs.Extent.{Shape, Divides, buckets_of, next_of, shape_of}
use Rattle.sg_linear.specs.declared.extent.Extent.{Extent}
use Rattle.sg_linear.specs.Fnv.{fnv_1a}
use Rattle.sg_linear.proofs.Growing.{bucket_there, next_buckets}
use Rattle.sg_space.specs.Owned.{Becomes}
use Rattle.sg_space.specs.View.{Space, View, Keeps, OnlyReads}
use Rattle.sg_space.proofs.Known.{before, still}
use Rattle.sg_hash.specs.Table.{HashTable, Numbers, IsInRange, IsBuilt, IsHashTable, Owns, all_entries, byte_count, entries, first_page, home_of, most_buckets, numbers_of, page_count, chain_pages, root_cell, root_sheet}
use Rattle.sg_hash.specs.Calls.{Turns, Did}
use Rattle.sg_hash.specs.Steps.{Rewrites, SetsRoot, IsFirstOf, numbers_in}
use Rattle.sg_hash.specs.Splits.{CanSplit, IsSplit}
use Rattle.sg_hash.specs.declared.root.Root.{Root}
use Rattle.sg_array.specs.Array as array
use Rattle.sg_hash.proofs.Calling.{not_in}
use Rattle.sg_hash.proofs.Changing.{found_bucket, home_there, numbers_are}
use Rattle.sg_hash.proofs.Deciding.{table_or}
use Rattle.sg_hash.proofs.Dividing.{IsDivided, divided, divided_home, divided_values}
use Rattle.sg_hash.proofs.Owning.{first_is, owns_there, root_built, root_pages, turned_built, turned_pages, with_bucket}
use Rattle.sg_hash.proofs.Splitting.{IsMore, built_stays, more_built, more_pages, array_other, still_pushed, two_more, with_more}
use Rattle.sg_hash.proofs.Sums.{all_sum, bucket_sum, length_sum, set_sum}
use Rattle.sg_hash.proofs.Trunks.{names_long, still_table, trunk_names}

-- the test that tells which entries go to the new bucket
at_yes : (there : Address) (key : List ℕ) → is_at there key ≡ true → home_of (shape_of there.extent) key ≡ there.bucket
unfolding is_at
at_yes there key e = grind (arith, nat_tests, e)

at_no : (there : Address) (key : List ℕ) → is_at there key ≡ false → home_of (shape_of there.extent) key ≢ there.bucket
unfolding is_at
at_no there key e = grind (arith, nat_tests, e)

-- the table with one bucket more
abbrev pub split_table : Shape → Array → Bucket → Bucket → HashTable → HashTable
split_table next names kept new t = record t { shape = next; names = names; buckets = divided t.shape t.buckets kept new }

-- what the steps have left
pub record HasParted (old : Space) (z : Space) (root : ℕ) (there : Address) (t : HashTable) (b kept new : Bucket) (names : Array) (n : Numbers) : Type 0 where
  pub built : IsBuilt z.pages.at root n (split_table (shape_of there.extent) names kept new t)
  pub pages : Becomes old.pages z.pages (Owns root t) (Owns root (split_table (shape_of there.extent) names kept new t)) (page_count t) (page_count (split_table (shape_of there.extent) names kept new t))
  pub bands : z.bands ≡ old.bands
  pub is : slice_get t.buckets t.shape.split ≡ Some b
  pub new_is : entries_of new.parts ≡ those_at there (entries_of b.parts)
  pub kept_is : entries_of kept.parts ≡ those_not_at there (entries_of b.parts)
  pub items : length names.items ≡ length t.names.items + 1
  pub peak : names.peak ≡ max t.names.peak (length t.names.items + 1)
  pub few_new : length new.pages ≤ length b.pages
  pub few_kept : length kept.pages ≤ length b.pages

-- the entries are divided by the next shape
is_divided : {old z : Space} {root : ℕ} {there : Address} {t : HashTable} {b kept new : Bucket} {names : Array} {n : Numbers} → IsHashTable old.pages.at root t → HasParted old z root there t b kept new names n → there.bucket ≡ length t.buckets → ((hash : ℕ) → Divides t.shape (shape_of there.extent) hash) → IsDivided t.shape (shape_of there.extent) t.buckets b kept new (is_at there)
is_divided {there = there} {t = t} {b = b} {kept = kept} {new = new} h p last divides = record {
  home = h.home;
  is = p.is;
  many = h.many;
  divides = divides;
  yes = λ key e. at_yes there key e ∙ last;
  no = λ key e same. at_no there key e (same ∙ sym last);
  values_kept = λ key. ap (λ (es : List Entry). value_of es key) p.kept_is ∙ value_of-filter (λ (k : List ℕ). not (is_at there k)) (entries_of b.parts) key;
  values_new = λ key. ap (λ (es : List Entry). value_of es key) p.new_is ∙ value_of-filter (is_at there) (entries_of b.parts) key;
}

-- the sums over all entries stay as they were
parted_sums : {old z : Space} {root : ℕ} {there : Address} {t : HashTable} {b kept new : Bucket} {names : Array} {n : Numbers} → HasParted old z root there t b kept new names n → (f : Entry → ℕ) → sum_by f (all_entries (divided t.shape t.buckets kept new)) ≡ sum_by f (all_entries t.buckets)
parted_sums {there = there} {t = t} {b = b} {kept = kept} {new = new} p f =
    let more : List Bucket = t.buckets ++ (new ∷ []) in
    let whole = all_sum f (set (t.buckets ++ (new ∷ [])) t.shape.split kept) in
    let before = all_sum f t.buckets in
    let one : sum_by (bucket_sum f) (set (t.buckets ++ (new ∷ [])) t.shape.split kept) + bucket_sum f b ≡ sum_by (bucket_sum f) (t.buckets ++ (new ∷ [])) + bucket_sum f kept = set_sum (bucket_sum f) (t.buckets ++ (new ∷ [])) t.shape.split b kept (still_pushed t.buckets new t.shape.split b p.is) in
    let two : sum_by (bucket_sum f) (t.buckets ++ (new ∷ [])) ≡ sum_by (bucket_sum f) t.buckets + bucket_sum f new = sum_by_push (bucket_sum f) t.buckets new in
    let three : sum_by f (those_at there (entries_of b.parts)) + sum_by f (those_not_at there (entries_of b.parts)) ≡ sum_by f (entries_of b.parts) = sums-filter (is_at there) f (entries_of b.parts) in
    let at : bucket_sum f new ≡ sum_by f (those_at there (entries_of b.parts)) = ap (λ (es : List Entry). sum_by f es) p.new_is in
    let rest : bucket_sum f kept ≡ sum_by f (those_not_at there (entries_of b.parts)) = ap (λ (es : List Entry). sum_by f es) p.kept_is in
    omega arith

-- more entry bytes than 2,048 for each bucket allow one bucket more
one_allowed : (buckets bytes peak : ℕ) → 2048 * buckets < bytes → bytes ≤ peak → buckets + 1 ≤ most_buckets peak
one_allowed buckets bytes peak above most = omega arith

next_there : (shape : Shape) (count : ℕ) (key : List ℕ) → count ≡ buckets_of shape → (next_of shape).split < 2 ^ (next_of shape).level → home_of (next_of shape) key < count + 1
next_there shape count key many within =
    let below : home_of (next_of shape) key < buckets_of (next_of shape) = bucket_there (next_of shape) (fnv_1a key) within in
    let more : buckets_of (next_of shape) ≡ buckets_of shape + 1 = next_buckets shape in
    omega arith

pub parted : {old z : Space} {root : ℕ} {there : Address} {t : HashTable} {b kept new : Bucket} {names : Array} {n : Numbers} → IsHashTable old.pages.at root t → HasParted old z root there t b kept new names n → there.bucket ≡ length t.buckets → shape_of there.extent ≡ next_of t.shape → ((hash : ℕ) → Divides t.shape (shape_of there.extent) hash)
    → 2048 * length t.buckets < byte_count (entries t) → byte_count (entries t) ≤ t.peak → length b.pages ≤ 8
    → n.shape ≡ shape_of there.extent → n.entries ≡ length (entries t) → n.bytes ≡ byte_count (entries t) → n.peak ≡ t.peak
    → Turns old z root t (split_table (shape_of there.extent) names kept new t) × IsSplit t (split_table (shape_of there.extent) names kept new t)
parted {old} {z} {root} {there} {t} {b} {kept} {new} {names} {n} h p last next divides above raised short s e y k = (
  record {
    table = record {
      built = subst (λ (m : Numbers). IsBuilt z.pages.at root m (split_table (shape_of there.extent) names kept new t)) same p.built;
      many = long ∙ (ap (λ (m : ℕ). m + 1) h.many ∙ (sym (next_buckets t.shape) ∙ ap buckets_of (sym next)));
      home = divided_home (is_divided h p last divides);
      grown = subst (λ (m : ℕ). m ≤ most_buckets t.peak) (sym long) (one_allowed (length t.buckets) (byte_count (entries t)) t.peak above raised);
      longest = let items = p.items in let peak = p.peak in let longest = h.longest in omega arith;
    };
    pages = p.pages;
    bands = p.bands;
  },
  record {
    shape = next;
    values = divided_values (is_divided h p last divides) (home_there h) (λ key. subst (λ (x : Shape). home_of x key < length t.buckets + 1) (sym next) (next_there t.shape (length t.buckets) key h.many within));
    sums = parted_sums p;
    peak = refl;
    few = few;
  },
)
  where
    long : length (divided t.shape t.buckets kept new) ≡ length t.buckets + 1
    long = length-set (t.buckets ++ (new ∷ [])) t.shape.split kept ∙ length_push t.buckets new

    counts : length (all_entries (divided t.shape t.buckets kept new)) ≡ length (entries t)
    counts = sym (length_sum (all_entries (divided t.shape t.buckets kept new))) ∙ (parted_sums p (λ x. 1) ∙ length_sum (entries t))

    same : n ≡ numbers_of (split_table (shape_of there.extent) names kept new t)
    same = numbers_are n (numbers_of (split_table (shape_of there.extent) names kept new t)) s (e ∙ sym counts) (y ∙ sym (parted_sums p entry_size)) k

    within : (next_of t.shape).split < 2 ^ (next_of t.shape).level
    within = subst (λ (x : Shape). x.split < 2 ^ x.level) (s ∙ next) p.built.trunk.range.split

    few : page_count (split_table (shape_of there.extent) names kept new t) ≤ page_count t + 10
    few =
        let directory = two_more h.built.trunk.names p.built.trunk.names h.built.trunk.size p.built.trunk.size (let peak = p.peak in let longest = h.longest in omega arith) in
        let one : chain_pages (set (t.buckets ++ (new ∷ [])) t.shape.split kept) + length b.pages ≡ chain_pages (t.buckets ++ (new ∷ [])) + length kept.pages = set_sum (λ (x : Bucket). length x.pages) (t.buckets ++ (new ∷ [])) t.shape.split b kept (still_pushed t.buckets new t.shape.split b p.is) in
        let two : chain_pages (t.buckets ++ (new ∷ [])) ≡ chain_pages t.buckets + length new.pages = sum_by_push (λ (x : Bucket). length x.pages) t.buckets new in
        let few_new = p.few_new in
        let few_kept = p.few_kept in
        omega arith

pub other_shape : {at : ℕ → Option Sheet} {root : ℕ} {n : Numbers} {t : HashTable} (shape : Shape) → IsBuilt at root n t → IsBuilt at root n (record t { shape = shape })
other_shape shape h = record {
  trunk = record { first = h.trunk.first; range = h.trunk.range; names = h.trunk.names; size = h.trunk.size; named = h.trunk.named; fit = h.trunk.fit };
  bucket = h.bucket;
  apart = h.apart;
}

-- the numbers of the next shape, and the address of the new bucket
pub record IsNext (t : HashTable) (there : Address) (n : Numbers) : Type 0 where
  pub few : length t.buckets < 1048576
  pub last : there.bucket ≡ length t.buckets
  pub next : shape_of there.extent ≡ next_of t.shape
  pub divides : (hash : ℕ) → Divides t.shape (shape_of there.extent) hash
  pub shape : n.shape ≡ shape_of there.extent
  pub count_is : n.entries ≡ length (entries t)
  pub bytes_is : n.bytes ≡ byte_count (entries t)
  pub peak : n.peak ≡ t.peak

-- the bucket may be branched, and the directory may have a name more then
pub can_branch : {u v : View} {root first : ℕ} {found : Root} {t : HashTable} → OnlyReads u v → u.Shows → IsHashTable u.space.pages.at root t → CanSplit u found t → (f : IsFirstOf t t.shape.split first) → CanBranch v f.bucket
can_branch {t = t} k shows h can f =
    let b = h.built.bucket t.shape.split f.bucket f.is in
    let short = can.short f.bucket f.is in
    let free = still (λ (s : Space). 10 ≤ s.pages.free) k shows can.free in
    record {
      sound = record { once = b.once; full = b.full };
      free = omega arith;
      may_take = k.keeps.may_take can.may_take;
      zero = still (λ (s : Space). IsSome (s.pages.at 0)) k shows can.zero;
    }

branch_same : {v w : View} {root first new : ℕ} {there : Address} {n : Numbers} {t : HashTable} {b c : Bucket} → IsBuilt v.space.pages.at root n t → IsBranch v w first new there b c → (p : ℕ) → v.space.pages.at p ≢ None → w.space.pages.at p ≡ v.space.pages.at p
branch_same h br p some = br.pages.others p (λ x. x) (λ mine. elim (br.pages.taken p mine) as (λ _. ⊥) [ inl x ↦ x | inr free ↦ some free ])

pub can_name : {u v w : View} {root first new size directory : ℕ} {there : Address} {found : Root} {t : HashTable} {b c : Bucket} → OnlyReads u v → u.Shows → Keeps v w → IsBranch v w first new there b c → length b.pages ≤ 8 → IsHashTable u.space.pages.at root t → CanSplit u found t → length t.buckets < 1048576 → size ≡ 4 → t.directory ≡ directory → CanPush w directory size t.names
can_name {u} {v} {w} {size = size} {directory = directory} {t = t} k shows keeps br short h can few long is =
    let items = names_long h.built.trunk in
    let free = still (λ (s : Space). 10 ≤ s.pages.free) k shows can.free in
    let took = br.pages.exactly in
    let few_new = br.few in
    let roomy : IsRoomy u directory t.names = subst (λ (d : ℕ). IsRoomy u d t.names) is can.names in
    record {
      fits = long ∙ sym h.built.trunk.size;
      few = omega arith;
      roomy = record {
        first = λ n le. keeps.may_have _ n (k.keeps.may_have _ n (roomy.first n le));
        index = λ j p e n le. keeps.may_have p n (k.keeps.may_have p n (roomy.index j p e n le));
        leaf = λ d p e n le. keeps.may_have p n (k.keeps.may_have p n (roomy.leaf d p e n le));
      };
      free = λ _. omega arith;
      may_take = λ _. keeps.may_take (k.keeps.may_take can.may_take);
    }

-- the new bucket and the directory that names it
is_more : {v w x : View} {first new directory : ℕ} {there : Address} {t : HashTable} {b c : Bucket} {names : Array} {item : List ℕ} → IsBranch v w first new there b c → array_calls.Turns w.space x.space directory t.names names → IsPushed x directory item t.names names → item ≡ little_bytes 4 new → t.directory ≡ directory → IsMore v.space w.space x.space t names c
is_more {v} {w} {x} {new = new} {t = t} {c = c} {names = names} br turns pushed item is =
    let begins : first_page c ≡ new = first_is c.pages new br.linked.starts in
    record {
      pages = br.pages;
      bucket = record { linked = subst (λ (p : ℕ). IsLinked w.space.pages.at p c) (sym begins) br.linked; once = br.sound.once; full = br.sound.full };
      fit = subst (λ (p : ℕ). p < 2 ^ 32) (sym begins) (br.linked.fit 0 new br.linked.starts);
      turns = subst (λ (d : ℕ). array_calls.Turns w.space x.space d t.names names) (sym is) turns;
      items = pushed.items ∙ ap (λ (y : List ℕ). t.names.items ++ (y ∷ [])) (item ∙ ap (little_bytes 4) (sym begins));
      size = pushed.size;
    }

-- all that the steps have left, of one table
parts : {v w x : View} (y z : View) {root first new directory : ℕ} {there : Address} {t : HashTable} {n : Numbers} {b c kept : Bucket} {names : Array} {item : List ℕ} → IsHashTable v.space.pages.at root t → (f : IsFirstOf t t.shape.split first) → f.bucket ≡ b → IsBranch v w first new there b c → w.space.bands ≡ v.space.bands → array_calls.Turns w.space x.space directory t.names names → IsPushed x directory item t.names names → item ≡ little_bytes 4 new → t.directory ≡ directory
    → bucket.Turns x.space y.space first b kept → IsPruned there b kept → ((m : Numbers) (d : ℕ) → y.space.pages.at root ≡ Some (root_sheet (root_cell m) d) → Rewrites y.space.pages z.space.pages root (root_sheet (root_cell n) d)) → z.space.bands ≡ y.space.bands → IsInRange n
    → HasParted v.space z.space root there t b kept c names n
parts {v} {w} {x} y z {root} {first} {new} {directory} {there} {t} {n} {b} {c} {kept} {names} {item} h f same br bands turns pushed item_is is prune pruned rewrites last range = record {
  built = other_shape (shape_of there.extent) (root_built built_y (rewrites (numbers_of t) t.directory built_y.trunk.first) range);
  pages = becomes_then (table_or root t) (table_or root (with_more names c t)) (more_pages h.built more) (root_pages (inl refl) (inl refl) (turned_pages root (with_more names c t) t.shape.split b kept still_b turns_b) (rewrites (numbers_of t) t.directory built_y.trunk.first));
  bands = last ∙ (prune.bands ∙ (turns.bands ∙ bands));
  is = is_b;
  new_is = br.entries;
  kept_is = pruned.entries;
  items = ap (λ (xs : List (List ℕ)). length xs) pushed.items ∙ length_push t.names.items item;
  peak = pushed.peak;
  few_new = br.few;
  few_kept = pruned.few;
}
  where
    is_b : slice_get t.buckets t.shape.split ≡ Some b
    is_b = f.is ∙ ap Some same

    begins : first_page b ≡ first
    begins = ap first_page (sym same) ∙ f.first

    more : IsMore v.space w.space x.space t names c
    more = is_more br turns pushed item_is is

    still_b : slice_get (t.buckets ++ (c ∷ [])) t.shape.split ≡ Some b
    still_b = still_pushed t.buckets c t.shape.split b is_b

    turns_b : bucket.Turns x.space y.space (first_page b) b kept
    turns_b = subst (λ (p : ℕ). bucket.Turns x.space y.space p b kept) (sym begins) prune

    built_y : IsBuilt y.space.pages.at root (numbers_of t) (with_bucket t.shape.split kept (with_more names c t))
    built_y = turned_built t.shape.split b kept (more_built h.built more) still_b turns_b pruned.sound

-- the steps, one after another
pub branch_at : {u v w : View} {root first new : ℕ} {there : Address} {found : Root} {t : HashTable} → OnlyReads u v → u.Shows → v.Told → Branched v w first new there → IsHashTable u.space.pages.at root t → CanSplit u found t → (f : IsFirstOf t t.shape.split first) → (c : Bucket) × IsBranch v w first new there f.bucket c
branch_at k shows told br h can f = br.bucket told f.bucket (found_bucket (still_table k shows h) f).linked (can_branch k shows h can f)

pub names_at : {u v w : View} {root first new directory : ℕ} {there : Address} {t : HashTable} {b c : Bucket} → OnlyReads u v → u.Shows → IsBranch v w first new there b c → IsHashTable u.space.pages.at root t → t.directory ≡ directory → IsArray w.space.pages.at directory t.names
names_at k shows one h is =
    let now = still_table k shows h in
    trunk_names (built_stays now.built (λ r o. branch_same now.built one r (owns_there now.built r o))).trunk is

pub kept_at : {u v w x : View} {root first new directory : ℕ} {there : Address} {t : HashTable} {c : Bucket} {names : Array} {item : List ℕ} → OnlyReads u v → u.Shows → IsHashTable u.space.pages.at root t → (f : IsFirstOf t t.shape.split first) → IsBranch v w first new there f.bucket c → array_calls.Turns w.space x.space directory t.names names → IsPushed x directory item t.names names → item ≡ little_bytes 4 new → t.directory ≡ directory → IsBucket x.space.pages.at first f.bucket
kept_at {x = x} {t = t} {c = c} k shows h f one two pushed item_is is =
    let now = still_table k shows h in
    let built = more_built now.built (is_more one two pushed item_is is) in
    subst (λ (q : ℕ). IsBucket x.space.pages.at q f.bucket) f.first (built.bucket t.shape.split f.bucket (still_pushed t.buckets c t.shape.split f.bucket f.is))

-- the root is where it was when all other steps are done
pub root_at : {u v w x : View} (y : View) {root first new directory : ℕ} {there : Address} {t : HashTable} {c kept : Bucket} {names : Array} {item : List ℕ} → OnlyReads u v → u.Shows → IsHashTable u.space.pages.at root t → (f : IsFirstOf t t.shape.split first) → IsBranch v w first new there f.bucket c → array_calls.Turns w.space x.space directory t.names names → IsPushed x directory item t.names names → item ≡ little_bytes 4 new → t.directory ≡ directory → bucket.Turns x.space y.space first f.bucket kept → IsSound kept → y.space.pages.at root ≡ Some (root_sheet (root_cell (numbers_of t)) t.directory)
root_at {x = x} y {t = t} {c = c} {kept = kept} k shows h f one two pushed item_is is turns sound =
    let now = still_table k shows h in
    let built = more_built now.built (is_more one two pushed item_is is) in
    let here = subst (λ (p : ℕ). bucket.Turns x.space y.space p f.bucket kept) (sym f.first) turns in
    (turned_built t.shape.split f.bucket kept built (still_pushed t.buckets c t.shape.split f.bucket f.is) here sound).trunk.first

pub did_split : {u v w x y z : View} {root first new directory size : ℕ} {item : List ℕ} {there : Address} {found : Root} {n : Numbers} → (u.Told → u.Shows) → OnlyReads u v → Branched v w first new there → array_calls.DidIf w x directory (CanPush w directory size) (IsPushed x directory item) → bucket.Did x y first IsSound (IsPruned there) → SetsRoot y z root n → size ≡ 4 → item ≡ little_bytes 4 new
    → (u.Shows → (t : HashTable) → IsHashTable u.space.pages.at root t → t.directory ≡ directory)
    → (u.Shows → (t : HashTable) → IsHashTable u.space.pages.at root t → numbers_in found ≡ numbers_of t → IsFirstOf t t.shape.split first)
    → (u.Shows → (t : HashTable) → IsHashTable u.space.pages.at root t → numbers_in found ≡ numbers_of t → IsNext t there n)
    → Did u z root (CanSplit u found) IsSplit
did_split {u} {v} {w} {x} {y} {z} {root} {first} {new} {directory} {size} {item} {there} {found} {n} shows k br p d s long item_is is begins next = record {
  told = λ told. (s.keeps (told_y told)).told (told_y told);
  turns = λ told t h can.
      let q = next (shows told) t h can.numbers in
      let f = begins (shows told) t h can.numbers in
      let now = still_table k (shows told) h in
      let one = branched told t h can in
      let two = pushed told t h can in
      let three = pruned told t h can in
      let all = parts y z now f refl one.1 (br.bands (told_v told)) two.1 two.2 item_is (is (shows told) t h) three.1 three.2 (s.pages (told_y told)) (s.bands (told_y told)) s.range in
      let done = parted now all q.last q.next q.divides can.bytes can.raised (can.short f.bucket f.is) q.shape q.count_is q.bytes_is q.peak in
      (split_table (shape_of there.extent) two.0 three.0 one.0 t, before (λ (e : Space). Turns e z.space root t (split_table (shape_of there.extent) two.0 three.0 one.0 t)) k (shows told) done.0, done.1);
  may_have = λ told t h can q m no some had.
      let f = begins (shows told) t h can.numbers in
      let now = still_table k (shows told) h in
      let one = branched told t h can in
      let two = pushed told t h can in
      let b = at_x told t h can in
      let some_v = still (λ (e : Space). e.pages.at q ≢ None) k (shows told) some in
      let same_w = branch_same now.built one.1 q some_v in
      let some_w : w.space.pages.at q ≢ None = λ none. some_v (sym same_w ∙ none) in
      let same_x = array_other two.1 q (λ a. no (inr (inl (subst (λ (e : ℕ). array.Owns e t.names q) (sym (is (shows told) t h)) a)))) some_w in
      (s.keeps (told_y told)).may_have q m
      (d.may_have (told_x told) f.bucket b.linked (record { once = b.once; full = b.full }) q m (not_in f no) (λ none. some_w (sym same_x ∙ none))
      ((p.keeps (told_w told)).may_have q m ((br.keeps (told_v told)).may_have q m (k.keeps.may_have q m had))));
}
  where
    told_v : u.Told → v.Told
    told_v told = k.keeps.told told

    told_w : u.Told → w.Told
    told_w told = (br.keeps (told_v told)).told (told_v told)

    told_x : u.Told → x.Told
    told_x told = (p.keeps (told_w told)).told (told_w told)

    told_y : u.Told → y.Told
    told_y told = d.told (told_x told)

    branched : (told : u.Told) (t : HashTable) (h : IsHashTable u.space.pages.at root t) (can : CanSplit u found t) → (c : Bucket) × IsBranch v w first new there (begins (shows told) t h can.numbers).bucket c
    branched told t h can = branch_at k (shows told) (told_v told) br h can (begins (shows told) t h can.numbers)

    pushed : (told : u.Told) (t : HashTable) (h : IsHashTable u.space.pages.at root t) (can : CanSplit u found t) → (names : Array) × array_calls.Turns w.space x.space directory t.names names × IsPushed x directory item t.names names
    pushed told t h can =
        let f = begins (shows told) t h can.numbers in
        let q = next (shows told) t h can.numbers in
        let one = branched told t h can in
        p.turns (told_w told) t.names (names_at k (shows told) one.1 h (is (shows told) t h)) (can_name k (shows told) (br.keeps (told_v told)) one.1 (can.short f.bucket f.is) h can q.few long (is (shows told) t h))

    at_x : (told : u.Told) (t : HashTable) (h : IsHashTable u.space.pages.at root t) (can : CanSplit u found t) → IsBucket x.space.pages.at first (begins (shows told) t h can.numbers).bucket
    at_x told t h can =
        let one = branched told t h can in
        let two = pushed told t h can in
        kept_at k (shows told) h (begins (shows told) t h can.numbers) one.1 two.1 two.2 item_is (is (shows told) t h)

    pruned : (told : u.Told) (t : HashTable) (h : IsHashTable u.space.pages.at root t) (can : CanSplit u found t) → (kept : Bucket) × bucket.Turns x.space y.space first (begins (shows told) t h can.numbers).bucket kept × IsPruned there (begins (shows told) t h can.numbers).bucket kept
    pruned told t h can =
        let b = at_x told t h can in
        d.turns (told_x told) _ b.linked (record { once = b.once; full = b.full })

-- The split where it is due, and no change where it isn't.
few_buckets : (t : HashTable) (low : ℕ) → low ≡ 2 ^ t.shape.level → low ≤ 524288 → t.shape.split < 2 ^ t.shape.level → length t.buckets ≡ buckets_of t.shape → length t.buckets < 1048576
few_buckets t low power most within many = omega arith

pub is_next : {at : ℕ → Option Sheet} {root : ℕ} {t : HashTable} (found : Root) (e : Extent) (bucket : ℕ) (there : Address) → IsHashTable at root t → numbers_in found ≡ numbers_of t → found.extent.low ≤ 524288 → there.extent ≡ e → there.bucket ≡ bucket → bucket ≡ buckets_of (shape_of found.extent) → shape_of e ≡ next_of (shape_of found.extent) → ((hash : ℕ) → Divides (shape_of found.extent) (shape_of e) hash) → IsNext t there (record { shape = shape_of e; entries = found.entries; bytes = found.bytes; peak = found.peak })
is_next {t = t} found e bucket there h same most ext buck count next divides =
    let shape : shape_of found.extent ≡ t.shape = ap (λ (n : Numbers). n.shape) same in
    let level : found.extent.level ≡ t.shape.level = ap (λ (s : Shape). s.level) shape in
    let power : found.extent.low ≡ 2 ^ t.shape.level = found.extent.power ∙ ap (λ (k : ℕ). 2 ^ k) level in
    let all : buckets_of (shape_of found.extent) ≡ buckets_of t.shape = ap buckets_of shape in
    let extent : shape_of there.extent ≡ shape_of e = ap shape_of ext in
    record {
      few = few_buckets t found.extent.low power most h.built.trunk.range.split h.many;
      last = buck ∙ (count ∙ (all ∙ sym h.many));
      next = extent ∙ (next ∙ ap next_of shape);
      divides = λ hash. subst (λ (s : Shape). Divides t.shape s hash) (sym extent) (subst (λ (s : Shape). Divides s (shape_of e) hash) shape (divides hash));
      shape = sym extent;
      count_is = ap (λ (n : Numbers). n.entries) same;
      bytes_is = ap (λ (n : Numbers). n.bytes) same;
      peak = ap (λ (n : Numbers). n.peak) same;
    }
