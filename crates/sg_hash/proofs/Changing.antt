-- A table of which one bucket has changed at a key that belongs there, and then the root.
use Rattle.std.proofs.Common.{◌≡◌, ℕ, ◌+◌, ◌<◌, ◌≤◌, max, List, [], ◌∷◌, length, Option, Some, None, is_none, is_some, option_map, Bool, true, false, if◌then◌else◌, sym, ap, subst, ◌∙◌, refl, arith, set, slice_get, inl}
use Rattle.std.specs.List.{sum_by}
use Rattle.std.proofs.lemmas.List.{length-set}
use Rattle.std.proofs.lemmas.List.Sums.{sum_by-cons}
use Rattle.sg_base.specs.Sheet.{Sheet}
use Rattle.sg_bucket.specs.Bucket.{Bucket, IsBucket, entries_of}
use Rattle.sg_bucket.specs.Calls.{IsSound, IsGone, LosesEntry, IsMapped, IsPut}
use Rattle.sg_bucket.specs.Calls as bucket_calls
use Rattle.sg_bucket.specs.Entry.{Entry, entry_size, value_of, with_value}
use Rattle.sg_bucket.specs.Steps as bucket
use Rattle.sg_linear.specs.Fnv.{fnv_1a}
use Rattle.sg_linear.proofs.Growing.{bucket_there}
use Rattle.sg_space.specs.View.{Space}
use Rattle.sg_hash.specs.Table.{HashTable, Numbers, IsInRange, IsBuilt, IsHashTable, all_entries, byte_count, value_at, home_of, first_page, most_buckets, numbers_of, root_cell, root_sheet}
use Rattle.sg_hash.specs.Calls.{Turns, IsEntered, IsDeleted}
use Rattle.sg_hash.specs.Steps.{Rewrites, IsCounted, IsUncounted, IsFirstOf, gone_bytes}
use Rattle.sg_hash.proofs.Owning.{turned_built, turned_pages, root_built, root_pages, other_stays, trunk_not_bucket, owns_there}
use Rattle.sg_hash.proofs.Sums.{all_exchanged, length_sum, set_pages}
use Rattle.sg_hash.proofs.Values.{home_set, value_home, value_set}

pub numbers_are : (n m : Numbers) → n.shape ≡ m.shape → n.entries ≡ m.entries → n.bytes ≡ m.bytes → n.peak ≡ m.peak → n ≡ m
numbers_are n m s e b p = λ i. record { shape = s i; entries = e i; bytes = b i; peak = p i }

-- more bytes allow more buckets
pub most_more : (p q : ℕ) → p ≤ q → most_buckets p ≤ most_buckets q
most_more p q h = omega arith

-- each key belongs to one of the buckets
pub home_there : {at : ℕ → Option Sheet} {root : ℕ} {t : HashTable} → IsHashTable at root t → (key : List ℕ) → home_of t.shape key < length t.buckets
home_there {t = t} h key = subst (λ (n : ℕ). home_of t.shape key < n) (sym h.many) (bucket_there t.shape (fnv_1a key) h.built.trunk.range.split)

-- the table with another bucket and another peak
abbrev pub with_change : ℕ → Bucket → ℕ → HashTable → HashTable
with_change i c peak t = record t { buckets = set t.buckets i c; peak = peak }

pub other_peak : {at : ℕ → Option Sheet} {root : ℕ} {n : Numbers} {t : HashTable} (peak : ℕ) → IsBuilt at root n t → IsBuilt at root n (record t { peak = peak })
other_peak peak h = record {
  trunk = record { first = h.trunk.first; range = h.trunk.range; names = h.trunk.names; size = h.trunk.size; named = h.trunk.named; fit = h.trunk.fit };
  bucket = h.bucket;
  apart = h.apart;
}

-- the numbers are those of the table with the change
pub record AreNumbers (n : Numbers) (t : HashTable) (bs : List Bucket) : Type 0 where
  pub shape : n.shape ≡ t.shape
  pub entries : n.entries ≡ length (all_entries bs)
  pub bytes : n.bytes ≡ byte_count (all_entries bs)
  pub peak : t.peak ≤ n.peak

pub changed_turns : {old mid new : Space} {root : ℕ} {t : HashTable} {n : Numbers} (i : ℕ) (b c : Bucket) (key : List ℕ) (value : Option (List ℕ)) → IsHashTable old.pages.at root t → slice_get t.buckets i ≡ Some b → home_of t.shape key ≡ i → bucket.Turns old mid (first_page b) b c → IsSound c → value_of (entries_of c.parts) ≡ with_value (value_of (entries_of b.parts)) key value
    → Rewrites mid.pages new.pages root (root_sheet (root_cell n) t.directory) → new.bands ≡ mid.bands → IsInRange n → AreNumbers n t (set t.buckets i c) → Turns old new root t (with_change i c n.peak t)
changed_turns {old} {mid} {new} {root} {t} {n} i b c key value h e at turns sound values r bands range are = record {
  table = record {
    built = subst (λ (m : Numbers). IsBuilt new.pages.at root m (with_change i c n.peak t)) same (other_peak n.peak (root_built (turned_built i b c h.built e turns sound) r range));
    many = length-set t.buckets i c ∙ h.many;
    home = home_set t.shape t.buckets i b c key value h.home e at values;
    grown = let long : length (set t.buckets i c) ≡ length t.buckets = length-set t.buckets i c in let most = h.grown in let more = most_more t.peak n.peak are.peak in omega arith;
    longest = h.longest;
  };
  pages = root_pages (inl refl) (inl refl) (turned_pages root t i b c e turns) r;
  bands = bands ∙ turns.bands;
}
  where
    same : n ≡ numbers_of (with_change i c n.peak t)
    same = numbers_are n (numbers_of (with_change i c n.peak t)) are.shape are.entries are.bytes refl

pub changed_values : {at : ℕ → Option Sheet} {root : ℕ} {t : HashTable} (i : ℕ) (b c : Bucket) (key : List ℕ) (value : Option (List ℕ)) → IsHashTable at root t → slice_get t.buckets i ≡ Some b → home_of t.shape key ≡ i → value_of (entries_of c.parts) ≡ with_value (value_of (entries_of b.parts)) key value → value_of (all_entries (set t.buckets i c)) ≡ with_value (value_at t) key value
changed_values {t = t} i b c key value h e at values = value_set t.shape t.buckets i b c key value (home_there h) h.home e at values

-- the sums after an exchange
abbrev pub one_each : Entry → ℕ
one_each e = 1

one_size : (e : Entry) → sum_by entry_size (e ∷ []) ≡ entry_size e
one_size e = let sum : sum_by entry_size (e ∷ []) ≡ entry_size e + 0 = sum_by-cons entry_size e [] in omega arith

gone_size : (key : List ℕ) (old : Option ℕ) (gone : List Entry) → IsGone key old gone → sum_by entry_size gone ≡ gone_bytes (length key) old
gone_size key None gone is = ap (λ (es : List Entry). sum_by entry_size es) is
gone_size key (Some size) gone is =
    let one = one_size (record { key = key; value = is.0 }) in
    let sum : sum_by entry_size gone ≡ sum_by entry_size (record { key = key; value = is.0 } ∷ []) = ap (λ (es : List Entry). sum_by entry_size es) is.1 in
    let long = is.2 in
    omega arith

-- how many entries have gone
abbrev pub gone_count : Option ℕ → ℕ
gone_count None = 0
gone_count (Some size) = 1

gone_long : (key : List ℕ) (old : Option ℕ) (gone : List Entry) → IsGone key old gone → length gone ≡ gone_count old
gone_long key None gone is = ap (λ (es : List Entry). length es) is
gone_long key (Some size) gone is = ap (λ (es : List Entry). length es) is.1

-- the counts of a table in which entries have gone and others have come
pub record AreCounted (key : List ℕ) (old : Option ℕ) (come : List Entry) (bs : List Bucket) (cs : List Bucket) : Type 0 where
  pub count : length (all_entries cs) + gone_count old ≡ length (all_entries bs) + length come
  pub bytes : byte_count (all_entries cs) + gone_bytes (length key) old ≡ byte_count (all_entries bs) + byte_count come
  pub had : gone_bytes (length key) old ≤ byte_count (all_entries bs)
  pub some : gone_count old ≤ length (all_entries bs)

pub counted : {key : List ℕ} {old : Option ℕ} {come : List Entry} {b c : Bucket} (bs : List Bucket) (i : ℕ) → slice_get bs i ≡ Some b → LosesEntry key old come b c → AreCounted key old come bs (set bs i c)
counted {key} {old} {come} {b} {c} bs i e loses =
    let x = all_exchanged bs i b c e loses.exchanged in
    let size = gone_size key old loses.gone loses.gone_is in
    let long = gone_long key old loses.gone loses.gone_is in
    let a = length_sum (all_entries bs) in
    let d = length_sum (all_entries (set bs i c)) in
    let f = length_sum loses.gone in
    let g = length_sum come in
    record {
      count = let sum = x.sums one_each in omega arith;
      bytes = let sum = x.sums entry_size in omega arith;
      had = let had = x.had entry_size in omega arith;
      some = let had = x.had one_each in omega arith;
    }

-- whether the key was there
pub had_none : (value : Option (List ℕ)) (old : Option ℕ) → option_map (λ (x : List ℕ). length x) value ≡ old → is_none old ≡ is_none value
had_none None old e = ap is_none (sym e)
had_none (Some x) old e = ap is_none (sym e)

pub had_some : (value : Option (List ℕ)) (old : Option ℕ) → option_map (λ (x : List ℕ). length x) value ≡ old → is_some old ≡ is_some value
had_some None old e = ap is_some (sym e)
had_some (Some x) old e = ap is_some (sym e)

-- the numbers that the code counts are those of the table
pub put_numbers : {key value : List ℕ} {split : Bool} {t : HashTable} {n : Numbers} {cs : List Bucket} (old : Option ℕ) → AreCounted key old (record { key = key; value = value } ∷ []) t.buckets cs → IsCounted (length key) (length value) old split (numbers_of t) n → AreNumbers n t cs
put_numbers {key} {value} {split} {t} {n} {cs} old are is = record {
  shape = is.shape;
  entries = entries_are old are is.entries;
  bytes = let one = one_size (record { key = key; value = value }) in let x = are.bytes in let y = is.bytes in omega arith;
  peak = peak_more split is.peak;
}
  where
    entries_are : (old : Option ℕ) → AreCounted key old (record { key = key; value = value } ∷ []) t.buckets cs → n.entries ≡ (if is_none old then length (all_entries t.buckets) + 1 else length (all_entries t.buckets)) → n.entries ≡ length (all_entries cs)
    entries_are None a e = let x = a.count in omega arith
    entries_are (Some size) a e = let x = a.count in omega arith

    peak_more : (split : Bool) → n.peak ≡ (if split then max t.peak n.bytes else t.peak) → t.peak ≤ n.peak
    peak_more true e = omega arith
    peak_more false e = omega arith

pub del_numbers : {key : List ℕ} {size : ℕ} {t : HashTable} {n : Numbers} {cs : List Bucket} → AreCounted key (Some size) [] t.buckets cs → IsUncounted (length key) size (numbers_of t) n → AreNumbers n t cs
del_numbers are is = record {
  shape = is.shape;
  entries = let x = are.count in let y = is.entries in omega arith;
  bytes = let x = are.bytes in let y = is.bytes in omega arith;
  peak = let e = is.peak in omega arith;
}

-- what a put, or a removal, in the key's bucket is for the table
pub is_entered : {at : ℕ → Option Sheet} {root : ℕ} {t : HashTable} {n : Numbers} {key value : List ℕ} {split : Bool} {old : Option ℕ} (i : ℕ) (b c : Bucket) → IsHashTable at root t → slice_get t.buckets i ≡ Some b → home_of t.shape key ≡ i → IsPut key value old b c → IsCounted (length key) (length value) old split (numbers_of t) n → AreNumbers n t (set t.buckets i c) → IsEntered key value split (is_none old) t (with_change i c n.peak t)
is_entered {t = t} {n = n} {key = key} {value = value} {split = split} {old = old} i b c h e at put is are = record {
  values = changed_values i b c key (Some value) h e at put.values;
  was_new = had_none (value_of (entries_of b.parts) key) old put.had ∙ ap is_none (sym (value_home t.shape t.buckets key b h.home (ap (slice_get t.buckets) at ∙ e)));
  shape = refl;
  peak = is.peak ∙ ap (λ (x : ℕ). if split then max t.peak x else t.peak) are.bytes;
  few = let long = set_pages t.buckets i b c e in let few = put.few in omega arith;
  directory = refl;
  names = refl;
}

pub is_deleted : {at : ℕ → Option Sheet} {root : ℕ} {t : HashTable} {key : List ℕ} {old : Option ℕ} (n : Numbers) (i : ℕ) (b c : Bucket) → IsHashTable at root t → slice_get t.buckets i ≡ Some b → home_of t.shape key ≡ i → bucket_calls.IsDeleted key old b c → n.peak ≡ t.peak → IsDeleted key (is_some old) t (with_change i c n.peak t)
is_deleted {t = t} {key = key} {old = old} n i b c h e at del same = record {
  values = changed_values i b c key None h e at del.values;
  was_there = had_some (value_of (entries_of b.parts) key) old del.had ∙ ap is_some (sym (value_home t.shape t.buckets key b h.home (ap (slice_get t.buckets) at ∙ e)));
  shape = refl;
  peak = same;
  few = let long = set_pages t.buckets i b c e in let few = del.few in omega arith;
}

-- the bucket that begins in the page that was found
pub found_bucket : {at : ℕ → Option Sheet} {root i page : ℕ} {t : HashTable} → IsHashTable at root t → (f : IsFirstOf t i page) → IsBucket at page f.bucket
found_bucket {at} {root} {i} {page} h f = subst (λ (p : ℕ). IsBucket at p f.bucket) f.first (h.built.bucket i f.bucket f.is)

pub own_value : {at : ℕ → Option Sheet} {root page : ℕ} {t : HashTable} (key : List ℕ) → IsHashTable at root t → (f : IsFirstOf t (home_of t.shape key) page) → value_at t key ≡ value_of (entries_of f.bucket.parts) key
own_value {t = t} key h f = value_home t.shape t.buckets key f.bucket h.home f.is

-- a change of the bucket that was found, said of its own first page
pub found_turns : {old new : Space} {t : HashTable} {i page : ℕ} {c : Bucket} (f : IsFirstOf t i page) → bucket.Turns old new page f.bucket c → bucket.Turns old new (first_page f.bucket) f.bucket c
found_turns {old} {new} {c = c} f x = subst (λ (p : ℕ). bucket.Turns old new p f.bucket c) (sym f.first) x

-- the root is there when a bucket has turned
pub root_there : {old new : Space} {root i page : ℕ} {t : HashTable} {c : Bucket} → IsHashTable old.pages.at root t → (f : IsFirstOf t i page) → bucket.Turns old new page f.bucket c → new.pages.at root ≡ Some (root_sheet (root_cell (numbers_of t)) t.directory)
root_there {old} {new} {root} {i} {c = c} h f x =
    let linked = (h.built.bucket i f.bucket f.is).linked in
    other_stays x root (trunk_not_bucket h.built.trunk linked root (inl refl)) (owns_there h.built root (inl refl)) ∙ h.built.trunk.first
