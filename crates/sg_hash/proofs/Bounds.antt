-- How many pages a table has at most.
use Rattle.std.proofs.Common.{◌≡◌, ℕ, ◌+◌, ◌-◌, ◌/◌, ◌≤◌, List, [], ◌∷◌, ◌++◌, length, Option, Some, sym, refl, arith, slice_get, length-append, suc}
use Rattle.std.proofs.lemmas.List.Sums.{sum_by-cons}
use Rattle.sg_array.specs.Array.{Array, IsArray, pages_for}
use Rattle.sg_array.specs.Array as array
use Rattle.sg_array.proofs.Wanting.{leaves_wanted, index_wanted}
use Rattle.sg_base.specs.Sheet.{Sheet}
use Rattle.sg_bucket.specs.Bucket.{Bucket, entries_of}
use Rattle.sg_bucket.proofs.Few.{few_more}
use Rattle.sg_hash.specs.Table.{HashTable, IsHashTable, all_entries, chain_pages, entries, most_buckets, most_pages, page_count}
use Rattle.sg_hash.proofs.Trunks.{names_long}

-- a chain has at most one page more than entries
chains : (bs : List Bucket) → ((i : ℕ) (b : Bucket) → slice_get bs i ≡ Some b → length b.pages ≤ 1 + length (entries_of b.parts)) → chain_pages bs ≤ length bs + length (all_entries bs)
chains [] h = omega arith
chains (b ∷ bs) h =
    let first = h 0 b refl in
    let rest = chains bs (λ i. h (suc i)) in
    let sum : chain_pages (b ∷ bs) ≡ length b.pages + chain_pages bs = sum_by-cons (λ (c : Bucket). length c.pages) b bs in
    let long : length (entries_of b.parts ++ all_entries bs) ≡ length (entries_of b.parts) + length (all_entries bs) = length-append (entries_of b.parts) (all_entries bs) in
    omega arith

-- how many pages an array of items of 4 bytes has
four_pages : {at : ℕ → Option Sheet} {root : ℕ} {a : Array} → IsArray at root a → a.size ≡ 4 → array.page_count a ≡ pages_for 4 a.peak
four_pages {a = a} h size =
    let leaves = leaves_wanted {size = 4} {peak = a.peak} {leaves = (a.peak + 508) / 509} h (sym size) refl refl in
    let index = index_wanted {leaves = (a.peak + 508) / 509} {index = ((a.peak + 508) / 509 + 508) / 509} h leaves refl in
    omega arith

more_pages : (m n : ℕ) → m ≤ n → pages_for 4 m ≤ pages_for 4 n
more_pages m n h = omega arith

pub bound : {at : ℕ → Option Sheet} {root : ℕ} {t : HashTable} → IsHashTable at root t → page_count t ≤ most_pages t.peak (length (entries t))
bound {t = t} h =
    let chain = chains t.buckets (λ i b e. few_more (h.built.bucket i b e)) in
    let directory = four_pages h.built.trunk.names h.built.trunk.size in
    let long = names_long h.built.trunk in
    let longest = h.longest in
    let grown = h.grown in
    let more = more_pages t.names.peak (most_buckets t.peak) (omega arith) in
    bounded (page_count t) (array.page_count t.names) (pages_for 4 t.names.peak) (pages_for 4 (most_buckets t.peak)) (chain_pages t.buckets) (length t.buckets) (most_buckets t.peak) (length (entries t)) (omega arith) directory more chain grown
  where
    bounded : (all names one two chain buckets most count : ℕ) → all ≡ 1 + names + chain → names ≡ one → one ≤ two → chain ≤ buckets + count → buckets ≤ most → all ≤ (2 + two + most + count) - 1
    bounded all names one two chain buckets most count a b c d e = omega arith
