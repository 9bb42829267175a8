-- From the root of a table to the pages in which its buckets begin.
use Rattle.std.proofs.Common.{◌≡◌, ℕ, zero, suc, ◌<◌, List, [], ◌∷◌, ◌++◌, length, take, Option, Some, option_map, sym, ap, subst, ◌∙◌, refl, arith, slice_get}
use Rattle.byteorder.specs.Endian.{little_bytes, little_number}
use Rattle.byteorder.specs.Numbers.{little_number-reads_back}
use Rattle.sg_base.specs.Sheet.{Sheet}
use Rattle.sg_space.specs.View.{Space, View, OnlyReads}
use Rattle.sg_space.proofs.Known.{still, same_some}
use Rattle.std.proofs.Math.Seq.{take-length}
use Rattle.sg_array.specs.Array.{IsArray}
use Rattle.sg_bucket.specs.Bucket.{Bucket}
use Rattle.sg_linear.specs.Extent.{bucket_at, shape_of}
use Rattle.sg_linear.specs.Fnv.{fnv_1a}
use Rattle.sg_hash.specs.Table.{HashTable, Numbers, IsTrunk, IsHashTable, first_page, home_of, name_of, numbers_of}
use Rattle.sg_hash.specs.Steps.{IsFirstOf, numbers_in}
use Rattle.sg_hash.specs.declared.root.Root.{Root}

abbrev pub Trunk : ℕ → Numbers → HashTable → Space → Type 0
Trunk root n t s = IsTrunk s.pages.at root n t

abbrev pub Stands : ℕ → HashTable → Space → Type 0
Stands root t s = IsHashTable s.pages.at root t

pub still_trunk : {v w : View} {root : ℕ} {n : Numbers} {t : HashTable} → OnlyReads v w → v.Shows → Trunk root n t v.space → Trunk root n t w.space
still_trunk {root = root} {n = n} {t = t} k shows h = still (Trunk root n t) k shows h

pub still_table : {v w : View} {root : ℕ} {t : HashTable} → OnlyReads v w → v.Shows → Stands root t v.space → Stands root t w.space
still_table {root = root} {t = t} k shows h = still (Stands root t) k shows h

-- lists that agree at each index are as long
same_length : {A B : Type 0} (f : B → A) (xs : List A) (ys : List B) → ((i : ℕ) → slice_get xs i ≡ option_map f (slice_get ys i)) → length xs ≡ length ys
same_length f [] [] h = refl
same_length f [] (y ∷ ys) h = absurd (let e = h 0 in cc)
same_length f (x ∷ xs) [] h = absurd (let e = h 0 in cc)
same_length f (x ∷ xs) (y ∷ ys) h = ap suc (same_length f xs ys (λ i. h (suc i)))

pub names_long : {at : ℕ → Option Sheet} {root : ℕ} {n : Numbers} {t : HashTable} → IsTrunk at root n t → length t.names.items ≡ length t.buckets
names_long {t = t} h = same_length (λ (b : Bucket). little_bytes 4 (first_page b)) t.names.items t.buckets h.named

pub one_there : {A : Type 0} (xs : List A) (i : ℕ) → i < length xs → (x : A) × (slice_get xs i ≡ Some x)
one_there [] i below = absurd (omega arith)
one_there (x ∷ xs) zero below = (x, refl)
one_there (x ∷ xs) (suc i) below = one_there xs i (omega arith)

-- the directory, by the page that was read
pub trunk_names : {at : ℕ → Option Sheet} {root p : ℕ} {n : Numbers} {t : HashTable} → IsTrunk at root n t → t.directory ≡ p → IsArray at p t.names
trunk_names {at} {t = t} h e = subst (λ (q : ℕ). IsArray at q t.names) e h.names

-- the cell that was read names the page in which the bucket begins
pub name_read : {at : ℕ → Option Sheet} {root : ℕ} {n : Numbers} {t : HashTable} (i p : ℕ) (cell : List ℕ) → IsTrunk at root n t → i < length t.buckets → length cell ≡ 4 → slice_get t.names.items i ≡ Some (take t.names.size cell) → p ≡ little_number 4 cell → IsFirstOf t i p
name_read {t = t} i p cell h below long read number =
    let b = one_there t.buckets i below in
    let all : take t.names.size cell ≡ cell = ap (λ (k : ℕ). take k cell) (h.size ∙ sym long) ∙ take-length cell in
    let same : cell ≡ little_bytes 4 (first_page b.0) = same_some _ _ (sym (read ∙ ap Some all) ∙ (h.named i ∙ ap name_of b.1)) in
    let back : little_number 4 (little_bytes 4 (first_page b.0) ++ []) ≡ first_page b.0 = little_number-reads_back 4 (first_page b.0) [] (h.fit i b.0 b.1) in
    record { bucket = b.0; is = b.1; first = sym back ∙ (ap (little_number 4) (sym same) ∙ sym number) }

-- the index that was computed is that of the key's bucket
pub home_index : (found : Root) (t : HashTable) (key : List ℕ) (index hash : ℕ) → numbers_in found ≡ numbers_of t → index ≡ bucket_at (shape_of found.extent) hash → hash ≡ fnv_1a key → index ≡ home_of t.shape key
home_index found t key index hash same is e = is ∙ (ap (λ (n : Numbers). bucket_at n.shape hash) same ∙ ap (λ (k : ℕ). bucket_at t.shape k) e)
