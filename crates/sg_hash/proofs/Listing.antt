-- The keys of a table's entries are listed, bucket by bucket.
use Rattle.std.proofs.Common.{◌≡◌, ℕ, ◌+◌, ◌<◌, ◌≤◌, List, [], ◌∷◌, ◌++◌, length, take, Some, sym, ap, ◌∙◌, refl, arith, slice_get, get_or}
use Rattle.std.proofs.lemmas.List.{append-nil, append_assoc, take_more}
use Rattle.std.proofs.lemmas.Option.{slice_get_within, slice_get-get_or}
use Rattle.std.proofs.Math.Seq.{take-length}
use Rattle.sg_bucket.specs.Bucket.{Bucket, entries_of}
use Rattle.sg_bucket.specs.Division.{keys_of}
use Rattle.sg_bucket.specs.Entry.{Entry}
use Rattle.sg_space.specs.View.{View, OnlyReads}
use Rattle.sg_space.proofs.Known.{reads_then, same_some}
use Rattle.sg_hash.specs.Table.{HashTable, IsHashTable, all_entries, entries}

-- the keys of the first buckets have been listed
pub record ListsTo (v w : View) (root count : ℕ) (items : List (List ℕ)) : Type 0 where
  pub back : w.Told → v.Told
  pub later : v.faults ≤ w.faults
  pub kept : OnlyReads v w
  pub listed : v.Shows → (t : HashTable) → IsHashTable v.space.pages.at root t → items ≡ keys_of (all_entries (take count t.buckets))

pub lists_start : {u v : View} {root : ℕ} {items : List (List ℕ)} → items ≡ [] → OnlyReads u v → (v.Told → u.Told) → u.faults ≤ v.faults → ListsTo u v root 0 items
lists_start e k back later = record { back = back; later = later; kept = k; listed = λ shows t h. e }

keys_join : (xs ys : List Entry) → keys_of (xs ++ ys) ≡ keys_of xs ++ keys_of ys
keys_join [] ys = refl
keys_join (e ∷ es) ys = ap (λ (ks : List (List ℕ)). e.key ∷ ks) (keys_join es ys)

entries_more : (bs : List Bucket) (b : Bucket) → all_entries (bs ++ (b ∷ [])) ≡ all_entries bs ++ entries_of b.parts
entries_more [] b = append-nil (entries_of b.parts)
entries_more (c ∷ bs) b = ap (λ (es : List Entry). entries_of c.parts ++ es) (entries_more bs b) ∙ sym (append_assoc (entries_of c.parts) (all_entries bs) (entries_of b.parts))

-- those of one bucket more
pub keys_more : (bs : List Bucket) (i : ℕ) (b : Bucket) → slice_get bs i ≡ Some b → keys_of (all_entries (take (i + 1) bs)) ≡ keys_of (all_entries (take i bs)) ++ keys_of (entries_of b.parts)
keys_more bs i b e =
    let below : i < length bs = slice_get_within bs i b e in
    let is : get_or bs i b ≡ b = same_some _ _ (sym (slice_get-get_or bs i b below) ∙ e) in
    ap (λ (x : List Bucket). keys_of (all_entries x)) (take_more bs i b below ∙ ap (λ (x : Bucket). take i bs ++ (x ∷ [])) is)
    ∙ (ap keys_of (entries_more (take i bs) b) ∙ keys_join (all_entries (take i bs)) (entries_of b.parts))

pub lists_on : {u v w : View} {root i : ℕ} {items more : List (List ℕ)} → ListsTo u v root i items → OnlyReads v w → (w.Told → v.Told) → v.faults ≤ w.faults → (u.Shows → (t : HashTable) → IsHashTable u.space.pages.at root t → (b : Bucket) × (slice_get t.buckets i ≡ Some b) × (more ≡ items ++ keys_of (entries_of b.parts))) → ListsTo u w root (i + 1) more
lists_on {i = i} l k back later is = record {
  back = λ told. l.back (back told);
  later = let first = l.later in omega arith;
  kept = reads_then l.kept k;
  listed = λ shows t h.
      let one = is shows t h in
      one.2 ∙ (ap (λ (ks : List (List ℕ)). ks ++ keys_of (entries_of (one.0).parts)) (l.listed shows t h) ∙ sym (keys_more t.buckets i one.0 one.1));
}

pub lists_all : {u v : View} {root count : ℕ} {items : List (List ℕ)} → ListsTo u v root count items → (u.Shows → (t : HashTable) → IsHashTable u.space.pages.at root t → length t.buckets ≡ count) → u.Shows → (t : HashTable) → IsHashTable u.space.pages.at root t → items ≡ keys_of (entries t)
lists_all l many shows t h = l.listed shows t h ∙ ap (λ (bs : List Bucket). keys_of (all_entries bs)) (ap (λ (n : ℕ). take n t.buckets) (sym (many shows t h)) ∙ take-length t.buckets)
